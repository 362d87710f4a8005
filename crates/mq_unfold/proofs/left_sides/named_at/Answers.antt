use Rattle.std.proofs.Common.{subst, ◌≡◌, ℕ, List, get_or, sym, ◌<◌, min, length, arith}
use Rattle.std.specs.Result.{IfOk}
use Rattle.std.proofs.lemmas.List.{get_or_default}
use Rattle.mq_ir.specs.declared.query.SinglePlace.{SinglePlace}
use Rattle.mq_ir.specs.declared.query.SinglePlace.TheVariants as place
use Rattle.mq_values.specs.declared.value.Value.TheVariants as value
use Rattle.mq_unfold.proofs.OrderLemmas.{named_here, named_further, named_nowhere}
use Rattle.mq_unfold.proofs.left_sides.named_at.Goals as goal

abbrev item_at : List SinglePlace → ℕ → SinglePlace
item_at row i = get_or row i (place.At value.Null)

item_is : (row : List SinglePlace) (i : ℕ) → i < length row → item_at row i ≡ get_or row i (item_at row i)
item_is row i h = get_or_default row i (place.At value.Null) (item_at row i) h

pub returns-then-dims-i : goal.returns-then-dims-i
returns-then-dims-i c =
    let h : c.loop-i.i < min (length c.args.dims.now) (length c.args.row.now) = omega arith in
    subst (λ (q : SinglePlace). IfOk c.same_place.result (λ p. p ≡ q))
    (sym (named_here c.args.dims.now c.args.row.now c.args.dim c.loop-i.i c.index-row-i.result h c.index-row-i.is c.loop-i.invariant c.if-dims-i.true)) c.same_place.ensures

pub loop-i-preserved : goal.loop-i-preserved
loop-i-preserved c =
    let row = c.args.row.now in
    let h : c.loop-i.i < min (length c.args.dims.now) (length row) = omega arith in
    named_further c.args.dims.now row c.args.dim c.loop-i.i (item_at row c.loop-i.i) h (item_is row c.loop-i.i (omega arith)) c.loop-i.invariant c.if-dims-i.false

pub returns : goal.returns
returns c = named_nowhere c.args.dims.now c.args.row.now c.args.dim c.loop-i.i (omega arith) c.loop-i.invariant
