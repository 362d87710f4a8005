use Rattle.mq_binder.proofs.NameLemmas.{alias_hides_column, alias_hides_table}
use Rattle.mq_binder.proofs.laws.aliases_hide_names.Goals as goal

pub returns-clause-table : goal.returns-clause-table
returns-clause-table c = alias_hides_table

pub returns-clause-column : goal.returns-clause-column
returns-clause-column c = alias_hides_column
