use Rattle.mq_binder.proofs.StatementFitLemmas.{answer_fits}
use Rattle.mq_binder.proofs.statements.bind.Goals as goal

pub returns-clause-fits : goal.returns-clause-fits
returns-clause-fits c = answer_fits c.before.args.catalog.now c.before.args.statement.now c.statement_bound.result c.statement_bound.ensures
