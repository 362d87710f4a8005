-- Two systems of nodes that differ at some seeds: what a change does not reach keeps its level and its value in every round.
-- For any nodes and values.
use Rattle.std.proofs.Common.{◌≡◌, ℕ, zero, suc, Bool, true, false, ◌&&◌, List, [], ◌∷◌, Option, Some, None, refl, sym, ap, ◌∙◌}
use Rattle.std.specs.Prelude.{is_none}
use Rattle.std.specs.List.{list_all, list_any}
use Rattle.std.proofs.lemmas.Bool.{or_parts, or_from}
use Rattle.mq_ir.specs.RoundLaws.{seeds_affected}
use Rattle.mq_ir.specs.Rounds.{System, affected, every_look, levelled, some_look, value, where_assigned}
use Rattle.mq_change_laws.specs.SettledLaws.{ReadsLooks, SameAt}

-- Outside of the seeds two systems have the same looks and, where nothing is assigned, the same input; and their steps are
-- the same where no look is a seed.
pub record Apart {N V : Type 0} (old new : System N V) (seeds : N → Bool) : Type 0 where
  pub reads : ReadsLooks new
  pub unknown : new.unknown ≡ old.unknown
  pub looks : (t : N) → seeds t ≡ false → new.looks_of t ≡ old.looks_of t
  pub input : (t : N) → seeds t ≡ false → new.looks_of t ≡ None → new.input t ≡ old.input t
  pub step : (t : N) → seeds t ≡ false → some_look seeds (new.looks_of t) ≡ false → (f : N → V) → new.step t f ≡ old.step t f

-- what was not reached is no seed
pub no_seed : {N : Type 0} (looks_of : N → Option (List N)) (seeds : N → Bool) (n : ℕ) (t : N) → affected looks_of seeds n t ≡ false
    → seeds t ≡ false
no_seed looks_of seeds n t h = by (seeds t) refl
  where
    by : (b : Bool) → seeds t ≡ b → b ≡ false
    by true e = let k : true ≡ false = sym (seeds_affected looks_of seeds n t e) ∙ h in cc
    by false e = refl

module _ {N V : Type 0} (old new : System N V) (seeds : N → Bool) (apart : Apart old new seeds) where
  -- in every round a node that the change has not reached by then is levelled as before, and has the value that it had
  abbrev pub Kept : ℕ → N → Type 0
  Kept n t = (levelled new.looks_of n t ≡ levelled old.looks_of n t) × (value new n t ≡ value old n t)

  abbrev reached : ℕ → N → Bool
  reached = affected new.looks_of seeds

  levels_alike : (n : ℕ) → ((t : N) → reached n t ≡ false → Kept n t) → (xs : List N) → list_any (reached n) xs ≡ false
      → list_all (levelled new.looks_of n) xs ≡ list_all (levelled old.looks_of n) xs
  levels_alike n keeps [] h = refl
  levels_alike n keeps (x ∷ xs) h =
      let both = or_parts (reached n x) (list_any (reached n) xs) h in
      λ i. (keeps x both.0).0 i && levels_alike n keeps xs both.1 i

  values_alike : (n : ℕ) → ((t : N) → reached n t ≡ false → Kept n t) → (xs : List N) → list_any (reached n) xs ≡ false
      → SameAt (value new n) (value old n) xs
  values_alike n keeps [] h = tt
  values_alike n keeps (x ∷ xs) h =
      let both = or_parts (reached n x) (list_any (reached n) xs) h in
      ((keeps x both.0).1, values_alike n keeps xs both.1)

  none_seeds : (n : ℕ) (xs : List N) → list_any (reached n) xs ≡ false → list_any seeds xs ≡ false
  none_seeds n [] h = refl
  none_seeds n (x ∷ xs) h =
      let both = or_parts (reached n x) (list_any (reached n) xs) h in
      or_from (seeds x) (list_any seeds xs) (no_seed new.looks_of seeds n x both.0) (none_seeds n xs both.1)

  first_by : (t : N) → seeds t ≡ false → (o : Option (List N)) → new.looks_of t ≡ o → Kept zero t
  first_by t s None e = (
    ap is_none (apart.looks t s),
    ap (λ o. where_assigned o new.unknown (new.input t)) e
        ∙ apart.input t s e
        ∙ sym (ap (λ o. where_assigned o old.unknown (old.input t)) (sym (apart.looks t s) ∙ e)),
  )
  first_by t s (Some looks) e = (
    ap is_none (apart.looks t s),
    ap (λ o. where_assigned o new.unknown (new.input t)) e
        ∙ apart.unknown
        ∙ sym (ap (λ o. where_assigned o old.unknown (old.input t)) (sym (apart.looks t s) ∙ e)),
  )

  next_by : (n : ℕ) (t : N) → ((u : N) → reached n u ≡ false → Kept n u) → seeds t ≡ false
      → (o : Option (List N)) → new.looks_of t ≡ o → some_look (reached n) o ≡ false → Kept (suc n) t
  next_by n t keeps s None e h = (
    ap (every_look (levelled new.looks_of n)) e ∙ sym (ap (every_look (levelled old.looks_of n)) (sym (apart.looks t s) ∙ e)),
    ap (λ o. where_assigned o (new.step t (value new n)) (new.input t)) e
        ∙ apart.input t s e
        ∙ sym (ap (λ o. where_assigned o (old.step t (value old n)) (old.input t)) (sym (apart.looks t s) ∙ e)),
  )
  next_by n t keeps s (Some looks) e h = (
    ap (every_look (levelled new.looks_of n)) e
        ∙ levels_alike n keeps looks h
        ∙ sym (ap (every_look (levelled old.looks_of n)) (sym (apart.looks t s) ∙ e)),
    ap (λ o. where_assigned o (new.step t (value new n)) (new.input t)) e
        ∙ apart.reads t looks e (value new n) (value old n) (values_alike n keeps looks h)
        ∙ apart.step t s (ap (some_look seeds) e ∙ none_seeds n looks h) (value old n)
        ∙ sym (ap (λ o. where_assigned o (old.step t (value old n)) (old.input t)) (sym (apart.looks t s) ∙ e)),
  )

  pub keeps : (n : ℕ) (t : N) → affected new.looks_of seeds n t ≡ false → Kept n t
  keeps zero t h = first_by t h (new.looks_of t) refl
  keeps (suc n) t h =
      let both = or_parts (seeds t) (some_look (reached n) (new.looks_of t)) h in
      next_by n t (keeps n) both.0 (new.looks_of t) refl both.1
