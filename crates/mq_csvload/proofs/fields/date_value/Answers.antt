use Rattle.std.proofs.Common.{None, Some, subst, sym}
use Rattle.mq_values.specs.Calendar.{SpellsDay}
use Rattle.mq_csvload.proofs.FieldLemmas.{date_found, no_date}
use Rattle.mq_csvload.proofs.fields.date_value.Goals as goal

pub returns-in-Some : goal.returns-in-Some
returns-in-Some c =
    let day = c.in-Some.day in
    sym (date_found c.args.bytes.now (Some day) (subst (λ z. SpellsDay z (Some day)) c.in-Ok.ensures.cases.0 c.in-Some.ensures))

pub returns-in-None : goal.returns-in-None
returns-in-None c = sym (date_found c.args.bytes.now None (subst (λ z. SpellsDay z None) c.in-Ok.ensures.cases.0 c.in-None.ensures))

pub returns-in-Err : goal.returns-in-Err
returns-in-Err c = sym (no_date c.args.bytes.now c.in-Err.ensures.cases.0)
