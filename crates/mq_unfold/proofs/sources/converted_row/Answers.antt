use Rattle.std.proofs.Common.{◌≡◌, ◌<◌, ◌≤◌, get_or, length, min, arith}
use Rattle.std.specs.List.{zip}
use Rattle.std.proofs.lemmas.Result.{err_from_is_err_and}
use Rattle.mq_values.specs.declared.value.Kind.TheVariants as kind
use Rattle.mq_scalar.specs.WalkLaws.{walk_end, walk_exit, walk_next}
use Rattle.mq_unfold.specs.Rows.{pair_value}
use Rattle.mq_unfold.proofs.ListLemmas.{zip_done, zip_is, zip_within}
use Rattle.mq_unfold.proofs.sources.converted_row.Goals as goal

pub returns-in_err-named_value : goal.returns-in_err-named_value
returns-in_err-named_value c =
    let kinds = c.args.kinds.now in
    let row = c.args.row.now in
    let i = c.loop-i.i in
    let y = c.index-row-i.result in
    let h : i < min (length kinds) (length row) = omega arith in
    let p = err_from_is_err_and c.from_residual.result c.from_residual.ensures.1 in
    rw (p.1, p.2)
    (walk_exit (pair_value) (zip kinds row) i c.loop-i.places (get_or kinds i kind.Int, y) c.in_err-named_value.field-0.0 (zip_within kinds row i h)
    (zip_is kinds row i kind.Int y h c.index-row-i.is) c.loop-i.invariant c.in_err-named_value.ensures)

pub loop-i-preserved : goal.loop-i-preserved
loop-i-preserved c =
    let kinds = c.args.kinds.now in
    let row = c.args.row.now in
    let i = c.loop-i.i in
    let y = c.index-row-i.result in
    let h : i < min (length kinds) (length row) = omega arith in
    rw c.in_ok-push.ensures.ok
    (walk_next (pair_value) (zip kinds row) i c.loop-i.places (get_or kinds i kind.Int, y) c.in_ok-named_value.field-0 (zip_within kinds row i h)
    (zip_is kinds row i kind.Int y h c.index-row-i.is) c.in_ok-named_value.ensures c.loop-i.invariant)

pub returns : goal.returns
returns c =
    let kinds = c.args.kinds.now in
    let row = c.args.row.now in
    let h : min (length kinds) (length row) ≤ c.loop-i.i = omega arith in
    walk_end (pair_value) (zip kinds row) c.loop-i.i c.loop-i.places (zip_done kinds row c.loop-i.i h) c.loop-i.invariant
