use Rattle.mq_binder.proofs.NameLemmas.{changes_by_capitals, columns_by_capitals, measures_by_capitals, paths_by_capitals, scenarios_by_capitals, tables_by_capitals}
use Rattle.mq_binder.proofs.laws.names_are_compared_in_capitals.Goals as goal

pub returns-clause-paths : goal.returns-clause-paths
returns-clause-paths c = paths_by_capitals

pub returns-clause-columns : goal.returns-clause-columns
returns-clause-columns c = columns_by_capitals

pub returns-clause-tables : goal.returns-clause-tables
returns-clause-tables c = tables_by_capitals

pub returns-clause-changes : goal.returns-clause-changes
returns-clause-changes c = changes_by_capitals

pub returns-clause-scenarios : goal.returns-clause-scenarios
returns-clause-scenarios c = scenarios_by_capitals

pub returns-clause-measures : goal.returns-clause-measures
returns-clause-measures c = measures_by_capitals
