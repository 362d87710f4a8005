use Rattle.mq_tables.proofs.WantedLemmas.{column_has_value}
use Rattle.mq_tables.proofs.wanted.is_plain.Goals as goal

pub returns-in-Some : goal.returns-in-Some
returns-in-Some c = λ _. column_has_value c.args.e.now c.in-Some.field-0 c.in-Some.ensures
