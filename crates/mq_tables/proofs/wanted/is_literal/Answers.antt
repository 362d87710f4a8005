use Rattle.mq_tables.proofs.WantedLemmas.{literal_has_value}
use Rattle.mq_tables.proofs.wanted.is_literal.Goals as goal

pub returns-in-Lit : goal.returns-in-Lit
returns-in-Lit c = λ _. literal_has_value c.args.e.now c.in-Lit.field-0 c.in-Lit.is
