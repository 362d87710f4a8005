use Rattle.std.proofs.Common.{◌≡◌, ◌++◌, drop, length, take, sym, ap, ◌∙◌}
use Rattle.std.proofs.Math.Seq.{take-append_seam}
use Rattle.mq_kept.specs.Kept.{inputs_of}
use Rattle.mq_kept.proofs.carrying.renewed.Goals as goal

-- what is lent as a slice is written back whole
pub returns-clause-renewed : goal.returns-clause-renewed
returns-clause-renewed c =
    let made = c.into_vec-parts.result in
    let new = c.renew_parts.new.parts in
    let long : made.len ≡ length new = sym (c.renew_parts.auto.parts ∙ c.as_mut_slice.ensures.len) in
    let whole : take made.len (new ++ drop (length new) made.items) ≡ new =
    ap (λ n. take n (new ++ drop (length new) made.items)) long ∙ take-append_seam new (drop (length new) made.items) in
    λ before after is change e.
    ap inputs_of (c.from_vec.ensures ∙ whole)
    ∙ c.in_ok-fresh.ensures.renewed before after (ap inputs_of (c.as_mut_slice.ensures.value ∙ c.into_vec-parts.ensures) ∙ is) change e
