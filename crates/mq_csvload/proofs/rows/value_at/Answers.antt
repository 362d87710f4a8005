use Rattle.std.proofs.Common.{[], ap, get_or, sym, ◌∙◌}
use Rattle.std.specs.Option.{ok_or}
use Rattle.csv.proofs.RecordFacts.{field-get, field-there}
use Rattle.csv.specs.Records.{fields_of}
use Rattle.mq_values.specs.declared.faults.Refused.TheVariants.{LoadRow}
use Rattle.mq_csvload.proofs.FieldLemmas.{value_is}
use Rattle.mq_csvload.proofs.rows.value_at.Goals as goal

pub unreachable-requires : goal.unreachable-requires
unreachable-requires c = field-there (fields_of c.args.fields.now) c.args.at c.requires (sym c.in_default.ensures.value)

pub returns-in-Some-2 : goal.returns-in-Some-2
returns-in-Some-2 c =
    let fields = fields_of c.args.fields.now in
    let same = field-get fields c.args.at c.in-Some.field.now (sym c.in-Some.ensures.value) in
    value_is c.args.number c.args.col.now (get_or fields c.args.at []) c.in-Some.field.now c.in_ok-value.field-0 same c.in_ok-value.ensures
    ∙ ap (λ o. ok_or o (LoadRow c.args.number)) c.in-Some-2.is

pub returns-in-None : goal.returns-in-None
returns-in-None c =
    let fields = fields_of c.args.fields.now in
    let same = field-get fields c.args.at c.in-Some.field.now (sym c.in-Some.ensures.value) in
    value_is c.args.number c.args.col.now (get_or fields c.args.at []) c.in-Some.field.now c.in_ok-value.field-0 same c.in_ok-value.ensures
    ∙ ap (λ o. ok_or o (LoadRow c.args.number)) c.in-None.is
