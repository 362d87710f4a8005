use Rattle.std.proofs.Common.{◌<◌, ◌≤◌, get_or, length, min, arith}
use Rattle.std.specs.List.{zip}
use Rattle.std.proofs.lemmas.Result.{err_from_is_err_and}
use Rattle.mq_values.specs.declared.value.Kind.TheVariants as kind
use Rattle.mq_scalar.specs.WalkLaws.{walk_end, walk_exit, walk_next}
use Rattle.mq_refs.specs.Sites.{index_named, site_of}
use Rattle.mq_refs.proofs.ListLemmas.{zip_done, zip_is, zip_within}
use Rattle.mq_refs.proofs.names.cell_named.Goals as goal

pub returns-in_err-index_named : goal.returns-in_err-index_named
returns-in_err-index_named c =
    let kinds = c.args.kinds.now in
    let indices = c.args.indices.now in
    let i = c.loop-i.i in
    let y = c.index-indices-i.result in
    let h : i < min (length kinds) (length indices) = omega arith in
    let p = err_from_is_err_and c.from_residual.result c.from_residual.ensures.1 in
    rw (p.1, p.2)
    (walk_exit (index_named (site_of c.args.at.now)) (zip kinds indices) i c.loop-i.values (get_or kinds i kind.Int, y) c.in_err-index_named.field-0.0 (zip_within kinds indices i h)
    (zip_is kinds indices i kind.Int y h c.index-indices-i.is) c.loop-i.invariant c.in_err-index_named.ensures)

pub loop-i-preserved : goal.loop-i-preserved
loop-i-preserved c =
    let kinds = c.args.kinds.now in
    let indices = c.args.indices.now in
    let i = c.loop-i.i in
    let y = c.index-indices-i.result in
    let h : i < min (length kinds) (length indices) = omega arith in
    rw c.in_ok-push.ensures.ok
    (walk_next (index_named (site_of c.args.at.now)) (zip kinds indices) i c.loop-i.values (get_or kinds i kind.Int, y) c.in_ok-index_named.field-0 (zip_within kinds indices i h)
    (zip_is kinds indices i kind.Int y h c.index-indices-i.is) c.in_ok-index_named.ensures c.loop-i.invariant)

pub returns : goal.returns
returns c =
    let kinds = c.args.kinds.now in
    let indices = c.args.indices.now in
    let h : min (length kinds) (length indices) ≤ c.loop-i.i = omega arith in
    walk_end (index_named (site_of c.args.at.now)) (zip kinds indices) c.loop-i.i c.loop-i.values (zip_done kinds indices c.loop-i.i h) c.loop-i.invariant
