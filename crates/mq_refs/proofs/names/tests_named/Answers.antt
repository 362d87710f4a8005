use Rattle.std.proofs.Common.{◌<◌, ◌≤◌, get_or, length, min, arith}
use Rattle.std.specs.List.{zip}
use Rattle.std.proofs.lemmas.Result.{err_from_is_err_and}
use Rattle.mq_values.specs.declared.value.Kind.TheVariants as kind
use Rattle.mq_scalar.specs.WalkLaws.{walk_end, walk_exit, walk_next}
use Rattle.mq_refs.specs.Sites.{place_tested, site_of}
use Rattle.mq_refs.proofs.ListLemmas.{zip_done, zip_is, zip_within}
use Rattle.mq_refs.proofs.names.tests_named.Goals as goal

pub returns-in_err-place_tested : goal.returns-in_err-place_tested
returns-in_err-place_tested c =
    let kinds = c.args.kinds.now in
    let places = c.args.places.now in
    let i = c.loop-i.i in
    let y = c.index-places-i.result in
    let h : i < min (length kinds) (length places) = omega arith in
    let p = err_from_is_err_and c.from_residual.result c.from_residual.ensures.1 in
    rw (p.1, p.2)
    (walk_exit (place_tested (site_of c.args.at.now)) (zip kinds places) i c.loop-i.tests (get_or kinds i kind.Int, y) c.in_err-place_tested.field-0.0 (zip_within kinds places i h)
    (zip_is kinds places i kind.Int y h c.index-places-i.is) c.loop-i.invariant c.in_err-place_tested.ensures)

pub loop-i-preserved : goal.loop-i-preserved
loop-i-preserved c =
    let kinds = c.args.kinds.now in
    let places = c.args.places.now in
    let i = c.loop-i.i in
    let y = c.index-places-i.result in
    let h : i < min (length kinds) (length places) = omega arith in
    rw c.in_ok-push.ensures.ok
    (walk_next (place_tested (site_of c.args.at.now)) (zip kinds places) i c.loop-i.tests (get_or kinds i kind.Int, y) c.in_ok-place_tested.field-0 (zip_within kinds places i h)
    (zip_is kinds places i kind.Int y h c.index-places-i.is) c.in_ok-place_tested.ensures c.loop-i.invariant)

pub returns : goal.returns
returns c =
    let kinds = c.args.kinds.now in
    let places = c.args.places.now in
    let h : min (length kinds) (length places) ≤ c.loop-i.i = omega arith in
    walk_end (place_tested (site_of c.args.at.now)) (zip kinds places) c.loop-i.i c.loop-i.tests (zip_done kinds places c.loop-i.i h) c.loop-i.invariant
