-- Partitions that are lent, one after another.
use Rattle.std.proofs.Common.{◌≡◌, ℕ, ◌+◌, ◌<◌, List, [], ◌∷◌, ◌++◌, take, length, get_or, sym, ap, subst, ◌∙◌}
use Rattle.std.specs.List.{All}
use Rattle.std.proofs.lemmas.List.{map-append, take_more}
use Rattle.mq_ir.specs.Unfolding.{Model}
use Rattle.mq_kept.specs.declared.kept_view.KeptPart.{KeptPart}
use Rattle.mq_kept.specs.Kept.{IsRight, inputs_of}
use Rattle.mq_kept.proofs.FollowLemmas.{all_further}

module _ (parts : List KeptPart) (i : ℕ) (x : KeptPart) (lent : List KeptPart) (one : KeptPart) (within : i < length parts) (at : x ≡ get_or parts i x) where
  -- one more, with the input of the next
  pub inputs_further : one.input ≡ x.input → inputs_of lent ≡ inputs_of (take i parts) → inputs_of (lent ++ one ∷ []) ≡ inputs_of (take (i + 1) parts)
  inputs_further same so_far =
      map-append (λ (p : KeptPart). p.input) lent (one ∷ [])
      ∙ (λ j. so_far j ++ same j ∷ [])
      ∙ sym (map-append (λ (p : KeptPart). p.input) (take i parts) (x ∷ []))
      ∙ ap inputs_of (sym (take_more parts i x within ∙ ap (λ (p : KeptPart). take i parts ++ p ∷ []) (sym at)))

  -- .. which is right where the next is
  pub right_further : (model : Model) → All (IsRight model) parts → (IsRight model x → IsRight model one) → All (IsRight model) lent
      → All (IsRight model) (lent ++ one ∷ [])
  right_further model all own so_far = all_further (IsRight model) lent one so_far (own (subst (IsRight model) (sym at) (all i x within)))
