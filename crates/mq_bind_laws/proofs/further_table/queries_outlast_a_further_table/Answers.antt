use Rattle.mq_bind_laws.proofs.StatementLemmas.{query_answer, query_anywhere, query_bound_alike}
use Rattle.mq_bind_laws.proofs.further_table.queries_outlast_a_further_table.Goals as goal

pub returns-clause-bound : goal.returns-clause-bound
returns-clause-bound c = query_bound_alike

pub returns-clause-answer : goal.returns-clause-answer
returns-clause-answer c = query_answer

pub returns-clause-anywhere : goal.returns-clause-anywhere
returns-clause-anywhere c = query_anywhere
