use Rattle.std.proofs.lemmas.Result.{err_from_is_err_and}
use Rattle.std.proofs.Common.{List}
use Rattle.mq_ir.specs.declared.query.PartShape.{PartShape}
use Rattle.mq_ir.specs.Keys.{Tuple}
use Rattle.mq_ir.specs.Unfolding.{model_of}
use Rattle.mq_auto_shape.proofs.OutcomeLemmas.{grown_shape, walk_done, walk_fails}
use Rattle.mq_auto_shape.proofs.shapes.shape_over.Goals as goal

pub returns-in_err-grown-clause-exact : goal.returns-in_err-grown-clause-exact
returns-in_err-grown-clause-exact c =
    let p = err_from_is_err_and c.from_residual-in_err-grown.result c.from_residual-in_err-grown.ensures.1 in
    rw (p.1, p.2) (walk_fails (model_of c.args.m.now) c.args.keys.now (λ (it : PartShape × List Tuple). it.0) c.in_ok-begun.begun c.in_err-grown.field-0.0 c.in_ok-begun.ensures c.in_err-grown.ensures)

pub returns-clause-exact : goal.returns-clause-exact
returns-clause-exact c =
    walk_done (model_of c.args.m.now) c.args.keys.now c.in_ok-begun.begun c.in_ok-grown.grown c.in_ok-shape.shape.0 c.in_ok-begun.ensures c.in_ok-grown.ensures c.in_ok-shape.ensures.shape

pub returns-clause-grown : goal.returns-clause-grown
returns-clause-grown c =
    grown_shape (model_of c.args.m.now) c.args.keys.now c.in_ok-begun.begun c.in_ok-grown.grown c.in_ok-shape.shape.0 c.in_ok-begun.ensures c.in_ok-grown.ensures c.in_ok-shape.ensures.shape
    c.in_ok-shape.ensures.ascend c.in_ok-shape.ensures.own
