use Rattle.mq_bind_laws.proofs.StatementLemmas.{scenario_answer, statement_answer, statement_bound_alike, table_answer, view_answer}
use Rattle.mq_bind_laws.proofs.further_table.statements_outlast_a_further_table.Goals as goal

pub returns-clause-bound : goal.returns-clause-bound
returns-clause-bound c = statement_bound_alike

pub returns-clause-answer : goal.returns-clause-answer
returns-clause-answer c = statement_answer

pub returns-clause-view : goal.returns-clause-view
returns-clause-view c = view_answer

pub returns-clause-table : goal.returns-clause-table
returns-clause-table c = table_answer

pub returns-clause-scenario : goal.returns-clause-scenario
returns-clause-scenario c = scenario_answer
