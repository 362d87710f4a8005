-- A list whose items are changed one by one.
use Rattle.std.proofs.Common.{◌≡◌, ◌≢◌, ℕ, ◌+◌, ◌<◌, ◌≤◌, List, length, get_or, slice_set, get_or-set_other, get_or-set_same, sym, subst, ap, ◌∙◌, inl, inr, ◌⊎◌, arith}
use Rattle.std.specs.List.{AllWithin}
use Rattle.std.proofs.lemmas.Bool.{cases_lt}
use Rattle.std.proofs.lemmas.List.{length-set}

module _ {X : Type 0} (P Q : X → Type 0) (xs : List X) (i : ℕ) (y : X) (within : i < length xs) where
  -- one more of the items is changed
  pub changed_so_far : AllWithin Q xs 0 i → Q y → AllWithin Q (slice_set xs i y) 0 (i + 1)
  changed_so_far done new k d low l = by (cases_lt k i)
    where
      by : (k < i) ⊎ (i ≤ k) → Q (get_or (slice_set xs i y) k d)
      by (inl m) = let ne : k ≢ i = omega arith in subst Q (sym (get_or-set_other xs i k y d ne)) (done k d low m)
      by (inr m) =
          let e : k ≡ i = omega arith in
          subst Q (sym (ap (λ j. get_or (slice_set xs i y) j d) e ∙ get_or-set_same xs i y d within)) new

  -- and those behind it are as before
  pub left_as_before : AllWithin P xs i (length xs) → AllWithin P (slice_set xs i y) (i + 1) (length (slice_set xs i y))
  left_as_before rest k d low l =
      let same = length-set xs i y in
      let ne : k ≢ i = omega arith in
      subst P (sym (get_or-set_other xs i k y d ne)) (rest k d (omega arith) (omega arith))
