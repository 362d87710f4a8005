use Rattle.std.proofs.Common.{sym, ap, ◌∙◌}
use Rattle.std.specs.Option.{option_map}
use Rattle.mq_values.specs.declared.value.Value.TheVariants as value
use Rattle.mq_csvload.proofs.FieldLemmas.{no_text, text_is}
use Rattle.mq_csvload.proofs.fields.text_value.Goals as goal

pub returns-in-Some : goal.returns-in-Some
returns-in-Some c =
    let utf8 = c.in-Ok.ensures.cases in
    let found = c.in_ok-text-in-Ok in
    sym (text_is c.args.bytes.now c.in-Ok.text.now found.field-0 utf8.1 found.ensures utf8.0 ∙ ap (option_map value.Text) c.in-Some.is)

pub returns-in-Err : goal.returns-in-Err
returns-in-Err c = sym (no_text c.args.bytes.now c.in-Err.ensures.cases.0)
