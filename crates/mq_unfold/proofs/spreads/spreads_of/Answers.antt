use Rattle.std.proofs.Common.{◌≡◌, refl, sym, arith}
use Rattle.std.specs.List.{enumerate_from}
use Rattle.std.proofs.lemmas.Result.{err_from_is_err_and}
use Rattle.mq_ir.specs.Unfolding.{item_places, model_of}
use Rattle.mq_scalar.specs.WalkLaws.{walk_end, walk_exit, walk_next}
use Rattle.mq_unfold.proofs.ListLemmas.{numbered_done, numbered_is, numbered_within}
use Rattle.mq_unfold.proofs.spreads.spreads_of.Goals as goal

pub returns-in_err-spread_of : goal.returns-in_err-spread_of
returns-in_err-spread_of c =
    let f = item_places (model_of c.args.m.now) c.args.turn in
    let items = c.args.items.now in
    let i = c.loop-dim.dim in
    let x = c.index-items-dim.result in
    let p = err_from_is_err_and c.from_residual.result c.from_residual.ensures.1 in
    rw (p.1, p.2)
    (walk_exit f (enumerate_from 0 items) i c.loop-dim.spreads (i, x) c.in_err-spread_of.field-0.0 (numbered_within items i c.loop-dim-test.true)
    (numbered_is items i x c.loop-dim-test.true c.index-items-dim.is) c.loop-dim.invariant c.in_err-spread_of.ensures)

pub loop-dim-preserved : goal.loop-dim-preserved
loop-dim-preserved c =
    let f = item_places (model_of c.args.m.now) c.args.turn in
    let items = c.args.items.now in
    let i = c.loop-dim.dim in
    let x = c.index-items-dim.result in
    rw c.in_ok-push.ensures.ok
    (walk_next f (enumerate_from 0 items) i c.loop-dim.spreads (i, x) c.in_ok-spread_of.field-0 (numbered_within items i c.loop-dim-test.true)
    (numbered_is items i x c.loop-dim-test.true c.index-items-dim.is) c.in_ok-spread_of.ensures c.loop-dim.invariant)

pub returns : goal.returns
returns c =
    walk_end (item_places (model_of c.args.m.now) c.args.turn) (enumerate_from 0 c.args.items.now) c.loop-dim.dim c.loop-dim.spreads
    (numbered_done c.args.items.now c.loop-dim.dim c.loop-dim-test.false) c.loop-dim.invariant
