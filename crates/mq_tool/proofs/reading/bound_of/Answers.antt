use Rattle.std.proofs.Common.{Result, Ok, Err, subst}
use Rattle.std.specs.Result.{IfOk}
use Rattle.mq_values.specs.Answers.{Gives}
use Rattle.mq_values.specs.declared.faults.Refused.{Refused}
use Rattle.mq_values.specs.declared.memory.Fail.{Fail}
use Rattle.mq_ir.specs.declared.catalog.Catalog.{Catalog}
use Rattle.mq_ir.specs.declared.statement.Bound.{Bound}
use Rattle.mq_binder.specs.StatementWalk.{statement_bound}
use Rattle.mq_engine.specs.Catalogs.{catalog_of}
use Rattle.mq_tool.specs.Needs.{CanRun}
use Rattle.mq_tool.proofs.StepLemmas.{can_run}
use Rattle.mq_tool.proofs.reading.bound_of.Goals as goal

pub returns-clause-can_run : goal.returns-clause-can_run
returns-clause-can_run c =
    let state = c.args.engine.now in
    let tree = c.args.tree.now in
    let names = catalog_of state in
    let given : Gives c.bind.result (statement_bound names tree) =
    subst (λ (k : Catalog). Gives c.bind.result (statement_bound k tree)) c.catalog.ensures.there c.bind.ensures.exact in
    by c.bind.result given
  where
    by : (r : Result Bound (Fail Refused)) → Gives r (statement_bound (catalog_of c.args.engine.now) c.args.tree.now) → IfOk r (CanRun c.args.engine.now)
    by (Ok b) g =
        let names = catalog_of c.args.engine.now in
        let tree = c.args.tree.now in
        can_run c.args.engine.now tree b g (c.created_tables_are_new.ensures names tree) (c.created_views_are_new.ensures names tree)
        (c.queries_are_ready.ensures names tree)
        (c.views_are_ready.ensures names tree)
    by (Err e) g = tt
