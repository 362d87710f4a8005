-- What holds of nodes that go by rounds, for any nodes and values.
use Rattle.std.proofs.Common.{◌≡◌, ℕ, zero, suc, ◌≤◌, Bool, true, false, ◌||◌, List, [], ◌∷◌, Option, Some, None, refl, arith, inl, inr}
use Rattle.std.specs.Prelude.{is_none}
use Rattle.std.specs.List.{list_all, list_any}
use Rattle.std.proofs.lemmas.Bool.{and_from, and_parts, or_cases}
use Rattle.mq_ir.specs.Rounds.{affected, every_look, levelled, some_look}

-- what passes p passes q
abbrev pub Within : {N : Type 0} → (N → Bool) → (N → Bool) → Type 0
Within {N} p q = (t : N) → p t ≡ true → q t ≡ true

or_left : (a b : Bool) → a ≡ true → (a || b) ≡ true
or_left true b h = refl
or_left false b h = cc

pub or_right : (a b : Bool) → b ≡ true → (a || b) ≡ true
or_right true b h = refl
or_right false b h = h

or_within : (a b c : Bool) → (b ≡ true → c ≡ true) → (a || b) ≡ true → (a || c) ≡ true
or_within true b c w h = refl
or_within false b c w h = w h

pub list_any_within : {N : Type 0} (p q : N → Bool) → Within p q → (xs : List N) → list_any p xs ≡ true → list_any q xs ≡ true
list_any_within p q w [] h = cc
list_any_within p q w (x ∷ xs) h =
    elim (or_cases (p x) (list_any p xs) h) [
      | inl a ↦ or_left (q x) (list_any q xs) (w x a)
      | inr b ↦ or_right (q x) (list_any q xs) (list_any_within p q w xs b)
    ]

pub list_all_within : {N : Type 0} (p q : N → Bool) → Within p q → (xs : List N) → list_all p xs ≡ true → list_all q xs ≡ true
list_all_within p q w [] h = refl
list_all_within p q w (x ∷ xs) h =
    let both = and_parts (p x) (list_all p xs) h in
    and_from (q x) (list_all q xs) (w x both.0) (list_all_within p q w xs both.1)

pub every_look_within : {N : Type 0} (p q : N → Bool) → Within p q → (o : Option (List N)) → every_look p o ≡ true → every_look q o ≡ true
every_look_within p q w None h = refl
every_look_within p q w (Some looks) h = list_all_within p q w looks h

pub some_look_within : {N : Type 0} (p q : N → Bool) → Within p q → (o : Option (List N)) → some_look p o ≡ true → some_look q o ≡ true
some_look_within p q w None h = h
some_look_within p q w (Some looks) h = list_any_within p q w looks h

unassigned_every : {N : Type 0} (p : N → Bool) (o : Option (List N)) → is_none o ≡ true → every_look p o ≡ true
unassigned_every p None h = refl
unassigned_every p (Some looks) h = cc

module _ {N : Type 0} (looks_of : N → Option (List N)) where
  -- what is levelled in a round stays levelled
  pub levelled_stays : (n k : ℕ) → n ≤ k → Within (levelled looks_of n) (levelled looks_of k)
  levelled_stays zero zero h t l = l
  levelled_stays zero (suc k) h t l = unassigned_every (levelled looks_of k) (looks_of t) l
  levelled_stays (suc n) zero h t l = absurd (omega (arith, h))
  levelled_stays (suc n) (suc k) h t l =
      let h' : n ≤ k = omega (arith, h) in
      every_look_within (levelled looks_of n) (levelled looks_of k) (levelled_stays n k h') (looks_of t) l

module _ {N : Type 0} (looks_of : N → Option (List N)) (seeds : N → Bool) where
  -- what a change has reached in a round it has reached in each later one
  pub affected_stays : (n k : ℕ) → n ≤ k → Within (affected looks_of seeds n) (affected looks_of seeds k)
  affected_stays zero zero h t a = a
  affected_stays zero (suc k) h t a = or_left (seeds t) (some_look (affected looks_of seeds k) (looks_of t)) a
  affected_stays (suc n) zero h t a = absurd (omega (arith, h))
  affected_stays (suc n) (suc k) h t a =
      let h' : n ≤ k = omega (arith, h) in
      or_within (seeds t) (some_look (affected looks_of seeds n) (looks_of t)) (some_look (affected looks_of seeds k) (looks_of t))
      (some_look_within (affected looks_of seeds n) (affected looks_of seeds k) (affected_stays n k h') (looks_of t)) a

  -- the seeds are reached at once
  pub seeds_affected : (n : ℕ) → Within seeds (affected looks_of seeds n)
  seeds_affected n t s = affected_stays zero n (omega arith) t s

  -- whatever holds the seeds, and each node that looks at one that it holds, holds what a change reaches
  pub affected_least : (held : N → Bool) → Within seeds held → ((t : N) → some_look held (looks_of t) ≡ true → held t ≡ true) → (n : ℕ) → Within (affected looks_of seeds n) held
  affected_least held begins closed zero t a = begins t a
  affected_least held begins closed (suc n) t a =
      elim (or_cases (seeds t) (some_look (affected looks_of seeds n) (looks_of t)) a) [
        | inl s ↦ begins t s
        | inr l ↦ closed t (some_look_within (affected looks_of seeds n) held (affected_least held begins closed n) (looks_of t) l)
      ]
