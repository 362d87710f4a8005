use Rattle.std.proofs.Common.{◌++◌, drop, get_or, ◌+◌, map, sym, ap, ◌∙◌, arith}
use Rattle.mq_targets.specs.Choice.{key_at}
use Rattle.mq_targets.proofs.PlaceLemmas.{one_copied}
use Rattle.mq_targets.proofs.choosing.copies_at.Goals as goal

pub loop-place-preserved : goal.loop-place-preserved
loop-place-preserved c =
    let keys = c.args.keys.now in
    let places = c.args.places.now in
    let here = c.in_ok-copy.ensures ∙ c.index-keys-place.is ∙ ap (get_or keys (get_or places c.loop-place.place-index 0)) (sym c.in_ok-copy.ensures) in
    ap (λ xs. xs ++ map (key_at keys) (drop (c.loop-place.place-index + 1) places)) c.in_ok-push.ensures.items
    ∙ one_copied keys places c.loop-place.copies.items (map (key_at keys) places) c.loop-place.place-index c.in_ok-copy.field-0 (omega arith) c.requires here c.loop-place.invariant
