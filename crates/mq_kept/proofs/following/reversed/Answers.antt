use Rattle.std.proofs.Common.{◌≡◌, ◌++◌, drop, length, take, sym, subst, ap, ◌∙◌}
use Rattle.std.specs.List.{All}
use Rattle.std.proofs.Math.Seq.{take-append_seam}
use Rattle.std.proofs.lemmas.List.Sorted.{All-permutation}
use Rattle.mq_kept.specs.Kept.{IsRight}
use Rattle.mq_kept.proofs.following.reversed.Goals as goal

-- what is lent as a slice is written back whole
pub returns : goal.returns
returns c =
    λ model all.
    let made = c.into_vec-parts.result in
    let new = c.reverse.new.self in
    let long : made.len ≡ length new = sym (c.reverse.auto.self ∙ c.as_mut_slice.ensures.len) in
    let whole : take made.len (new ++ drop (length new) made.items) ≡ new =
    ap (λ n. take n (new ++ drop (length new) made.items)) long ∙ take-append_seam new (drop (length new) made.items) in
    subst (All (IsRight model)) (sym whole)
    (All-permutation (IsRight model) _ new c.reverse.ensures.permutation
    (subst (All (IsRight model)) (sym (c.as_mut_slice.ensures.value ∙ c.into_vec-parts.ensures)) all))
