-- The dimensions that the names of a tuple name, one after another.
use Rattle.std.proofs.Common.{◌≡◌, ℕ, ◌+◌, ◌<◌, ◌≤◌, List, [], ◌∷◌, ◌++◌, drop, length, get_or, Option, Some, None, refl, sym, ap, ◌∙◌, append_assoc}
use Rattle.std.specs.Option.{option_and_then, option_map}
use Rattle.std.proofs.lemmas.List.{append-nil, drop_all}
use Rattle.mq_bind_scopes.specs.declared.scopes.Scope.{Scope}
use Rattle.mq_binder.specs.LeftWalk.{dimension_called, numbers_called}
use Rattle.mq_bind_scopes.specs.Names.{Name}
use Rattle.mq_bind_expr.specs.StepLemmas.{next_item}

begun : (r : Option (List ℕ)) → r ≡ option_map (λ ns. [] ++ ns) r
begun (Some ns) = refl
begun None = refl

moved : (r : Option (List ℕ)) (ys : List ℕ) (n : ℕ) → option_map (λ ns. ys ++ ns) (option_map (λ ns. n ∷ ns) r) ≡ option_map (λ ns. (ys ++ n ∷ []) ++ ns) r
moved (Some ns) ys n = ap Some (sym (append_assoc ys (n ∷ []) ns))
moved None ys n = refl

-- the first i names name these dimensions
pub record Numbered (scope : Scope) (names : List Name) (i : ℕ) (ys : List ℕ) : Type 0 where
  pub is : numbers_called scope names ≡ option_map (λ ns. ys ++ ns) (numbers_called scope (drop i names))

pub numbered_start : (scope : Scope) (names : List Name) → Numbered scope names 0 []
numbered_start scope names = record { is = begun (numbers_called scope names) }

-- what comes of the next name
next : (scope : Scope) (names : List Name) (i : ℕ) (ys : List ℕ) (name : Name) (found : Option ℕ) → i < length names → name ≡ get_or names i name → dimension_called scope name ≡ found → Numbered scope names i ys
    → numbers_called scope names ≡ option_map (λ ns. ys ++ ns) (option_and_then (λ n. option_map (λ ns. n ∷ ns) (numbers_called scope (drop (i + 1) names))) found)
next scope names i ys name found h e g w =
    w.is
    ∙ ap (λ l. option_map (λ ns. ys ++ ns) (numbers_called scope l)) (next_item names i name h e)
    ∙ ap (λ o. option_map (λ ns. ys ++ ns) (option_and_then (λ n. option_map (λ ns. n ∷ ns) (numbers_called scope (drop (i + 1) names))) o)) g

pub numbered_next : (scope : Scope) (names : List Name) (i : ℕ) (ys : List ℕ) (name : Name) (n : ℕ) → i < length names → name ≡ get_or names i name → dimension_called scope name ≡ Some n → Numbered scope names i ys → Numbered scope names (i + 1) (ys ++ n ∷ [])
numbered_next scope names i ys name n h e g w = record {
  is = next scope names i ys name (Some n) h e g w ∙ moved (numbers_called scope (drop (i + 1) names)) ys n;
}

pub numbered_none : (scope : Scope) (names : List Name) (i : ℕ) (ys : List ℕ) (name : Name) → i < length names → name ≡ get_or names i name → dimension_called scope name ≡ None → Numbered scope names i ys → None ≡ numbers_called scope names
numbered_none scope names i ys name h e g w = sym (next scope names i ys name None h e g w)

pub numbered_end : (scope : Scope) (names : List Name) (i : ℕ) (ys : List ℕ) → length names ≤ i → Numbered scope names i ys → Some ys ≡ numbers_called scope names
numbered_end scope names i ys h w =
    sym (w.is ∙ ap (λ l. option_map (λ ns. ys ++ ns) (numbers_called scope l)) (drop_all i names h) ∙ ap Some (append-nil ys))
