use Rattle.std.proofs.Common.{sym, ◌∙◌}
use Rattle.std.proofs.lemmas.Result.{err_from_is_err_and}
use Rattle.std.proofs.Common.{List}
use Rattle.mq_ir.specs.declared.query.PartShape.{PartShape}
use Rattle.mq_ir.specs.Keys.{Tuple}
use Rattle.mq_ir.specs.Unfolding.{model_of}
use Rattle.mq_auto_shape.specs.declared.indexed.IndexedShape.{IndexedShape}
use Rattle.mq_auto_shape.proofs.OutcomeLemmas.{cycle_then, shape_fault_first, shape_then}
use Rattle.mq_auto_shape.proofs.shapes.found_over.Goals as goal

pub leveled_over-requires : goal.leveled_over-requires
leveled_over-requires c = record {
  cells = c.in_ok-found.ensures.cells;
  own = c.in_ok-found.ensures.grown.own;
  ruled = c.in_ok-found.ensures.grown.ruled;
  there = c.in_ok-found.ensures.grown.there;
}

pub returns-in_err-found-clause-exact : goal.returns-in_err-found-clause-exact
returns-in_err-found-clause-exact c =
    let p = err_from_is_err_and c.from_residual.result c.from_residual.ensures.1 in
    rw (p.1, p.2)
    (shape_fault_first (model_of c.args.m.now) c.args.keys.now (λ (it : PartShape × List Tuple). it.0) (λ (it : IndexedShape). it.shape) c.in_err-found.field-0.0 c.in_err-found.ensures.exact)

pub returns-in_err-leveled-clause-exact : goal.returns-in_err-leveled-clause-exact
returns-in_err-leveled-clause-exact c =
    let p = err_from_is_err_and c.from_residual-in_err-leveled.result c.from_residual-in_err-leveled.ensures.1 in
    rw (p.1, p.2)
    (cycle_then (model_of c.args.m.now) c.args.keys.now c.in_ok-found.found.0 c.in_ok-found.ensures.exact (λ (it : IndexedShape). it.shape) c.in_err-leveled.field-0.0 c.in_err-leveled.ensures.exact)

pub returns-clause-exact : goal.returns-clause-exact
returns-clause-exact c = shape_then (model_of c.args.m.now) c.args.keys.now c.in_ok-found.found.0 c.in_ok-found.ensures.exact c.in_ok-leveled.ensures.exact

pub returns-clause-shape : goal.returns-clause-shape
returns-clause-shape c = record {
  base = c.in_ok-found.ensures.grown.base;
  ascend = c.in_ok-found.ensures.grown.ascend;
  own = c.in_ok-found.ensures.grown.own;
  ruled = c.in_ok-found.ensures.grown.ruled;
  few = c.in_ok-leveled.ensures.few;
}

pub returns-clause-indexed : goal.returns-clause-indexed
returns-clause-indexed c = record { base = c.in_ok-base.ensures ∙ sym c.in_ok-found.ensures.grown.base; cells = c.in_ok-found.ensures.cells }
