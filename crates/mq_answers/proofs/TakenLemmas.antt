-- A loop that takes the items out of a list, one after another.
use Rattle.std.proofs.Common.{◌≡◌, ◌+◌, ◌<◌, List, ◌∷◌, ◌++◌, map, take, drop, length, get_or, sym, ◌∙◌, map-id}
use Rattle.std.proofs.lemmas.List.{take-append-drop}
use Rattle.mq_answers.proofs.TurnLemmas.{next_item}

-- what was taken, the item that is taken now, and what is left
pub taken_is : {A : Type 0} (all gone : List A) (x : A) → map (λ y. y) gone ≡ take (length gone) all → (length gone < length all) × (x ≡ get_or all (length gone) x)
    → all ≡ gone ++ x ∷ drop (length gone + 1) all
taken_is all gone x front at =
    sym (take-append-drop (length gone) all) ∙ (λ i. (sym front ∙ map-id gone) i ++ next_item all (length gone) x at.0 at.1 i)
