-- As many rounds as there are assigned nodes are enough: what grows, and stands still for a round, stands still from then on.
use Rattle.std.proofs.Common.{◌≡◌, ℕ, zero, suc, ◌+◌, ◌≤◌, Bool, true, false, ◌||◌, List, [], ◌∷◌, length, Option, None, refl, arith, ap, sym, ◌∙◌, ◌⊎◌, inl, inr}
use Rattle.mq_ir.specs.RoundLaws.{Within, or_right, affected_stays, levelled_stays}
use Rattle.mq_ir.specs.Rounds.{affected, every_look, levelled, some_look}

-- two tests agree on some nodes
abbrev pub AgreeOn : {N : Type 0} → (N → Bool) → (N → Bool) → List N → Type 0
AgreeOn p q [] = Unit {0}
AgreeOn p q (x ∷ xs) = (p x ≡ q x) × AgreeOn p q xs

-- these are all the nodes that are assigned: tests that agree on them, and where nothing is assigned, agree
abbrev pub Covers : {N : Type 0} → (N → Option (List N)) → List N → Type 0
Covers {N} looks_of xs = (p q : N → Bool) → AgreeOn p q xs → ((t : N) → looks_of t ≡ None → p t ≡ q t) → (t : N) → p t ≡ q t

abbrev one : Bool → ℕ
one true = 1
one false = 0

abbrev count : {N : Type 0} → (N → Bool) → List N → ℕ
count p [] = 0
count p (x ∷ xs) = one (p x) + count p xs

one_within : (a b : Bool) → (a ≡ true → b ≡ true) → ((a ≡ b) × (one a ≡ one b)) ⊎ (suc (one a) ≤ one b)
one_within true true w = inl (refl, refl)
one_within true false w = absurd (let e : false ≡ true = w refl in cc)
one_within false true w = inr (omega arith)
one_within false false w = inl (refl, refl)

count_at_most : {N : Type 0} (p : N → Bool) (xs : List N) → count p xs ≤ length xs
count_at_most p [] = omega arith
count_at_most p (x ∷ xs) =
    elim (p x) as (λ b. one b + count p xs ≤ length (x ∷ xs)) [ true ↦ omega (arith, count_at_most p xs) | false ↦ omega (arith, count_at_most p xs) ]

count_within : {N : Type 0} (p q : N → Bool) → Within p q → (xs : List N) → count p xs ≤ count q xs
count_within p q w [] = omega arith
count_within p q w (x ∷ xs) =
    elim (one_within (p x) (q x) (w x)) [ inl e ↦ omega (arith, e.1, count_within p q w xs) | inr l ↦ omega (arith, l, count_within p q w xs) ]

-- a larger test agrees on these nodes, or more of them pass it
agree_or_more : {N : Type 0} (p q : N → Bool) → Within p q → (xs : List N) → AgreeOn p q xs ⊎ (suc (count p xs) ≤ count q xs)
agree_or_more p q w [] = inl tt
agree_or_more p q w (x ∷ xs) =
    elim (one_within (p x) (q x) (w x)) [
      | inl e ↦ elim (agree_or_more p q w xs) [ inl a ↦ inl (e.0, a) | inr m ↦ inr (omega (arith, e.1, m)) ]
      | inr l ↦ inr (omega (arith, l, count_within p q w xs))
    ]

-- where all of them pass, a larger test agrees
full_at : {N : Type 0} (p q : N → Bool) → Within p q → (x : N) (xs : List N) → (length xs ≤ count p xs → AgreeOn p q xs) → (b : Bool) → p x ≡ b → length (x ∷ xs) ≤ one b + count p xs → AgreeOn p q (x ∷ xs)
full_at p q w x xs rest true e h = (e ∙ sym (w x e), rest (omega (arith, h)))
full_at p q w x xs rest false e h = absurd (omega (arith, h, count_at_most p xs))

full_agrees : {N : Type 0} (p q : N → Bool) → Within p q → (xs : List N) → length xs ≤ count p xs → AgreeOn p q xs
full_agrees p q w [] h = tt
full_agrees p q w (x ∷ xs) h = full_at p q w x xs (full_agrees p q w xs) (p x) refl h

-- tests that grow from round to round, and stand still where they stood still for a round
pub record Rising {N : Type 0} (p : ℕ → N → Bool) (xs : List N) : Type 0 where
  pub grows : (n : ℕ) → Within (p n) (p (suc n))
  pub rests : (n : ℕ) → AgreeOn (p n) (p (suc n)) xs → AgreeOn (p (suc n)) (p (suc (suc n))) xs

module _ {N : Type 0} (p : ℕ → N → Bool) (xs : List N) (r : Rising p xs) where
  -- after n rounds they stand still, or n of the nodes have passed
  at_rest : (n : ℕ) → AgreeOn (p n) (p (suc n)) xs ⊎ (n ≤ count (p n) xs)
  at_rest zero = inr (omega arith)
  at_rest (suc n) =
      elim (at_rest n) [
        | inl a ↦ inl (r.rests n a)
        | inr l ↦ elim (agree_or_more (p n) (p (suc n)) (r.grows n) xs) [ inl a ↦ inl (r.rests n a) | inr m ↦ inr (omega (arith, l, m)) ]
      ]

  pub rests_at_count : AgreeOn (p (length xs)) (p (suc (length xs))) xs
  rests_at_count =
      elim (at_rest (length xs)) [ inl a ↦ a | inr l ↦ full_agrees (p (length xs)) (p (suc (length xs))) (r.grows (length xs)) xs l ]

agree_everywhere : {N : Type 0} (p q : N → Bool) → ((t : N) → p t ≡ q t) → (xs : List N) → AgreeOn p q xs
agree_everywhere p q e [] = tt
agree_everywhere p q e (x ∷ xs) = (e x, agree_everywhere p q e xs)

or_none : (b : Bool) → b ≡ (b || false)
or_none true = refl
or_none false = refl

module _ {N : Type 0} (looks_of : N → Option (List N)) (xs : List N) (all : Covers looks_of xs) where
  levelled_alike : (n : ℕ) → AgreeOn (levelled looks_of n) (levelled looks_of (suc n)) xs → (t : N) → levelled looks_of n t ≡ levelled looks_of (suc n) t
  levelled_alike n a = all (levelled looks_of n) (levelled looks_of (suc n)) a (unassigned n)
    where
      unassigned : (n : ℕ) (t : N) → looks_of t ≡ None → levelled looks_of n t ≡ levelled looks_of (suc n) t
      unassigned zero t h = rw h refl
      unassigned (suc n) t h = rw h refl

  levelled_rises : Rising (levelled looks_of) xs
  levelled_rises = record {
    grows = λ n. levelled_stays looks_of n (suc n) (omega arith);
    rests = λ n a. agree_everywhere (levelled looks_of (suc n)) (levelled looks_of (suc (suc n)))
        (λ t. ap (λ p. every_look p (looks_of t)) (λ i u. levelled_alike n a u i)) xs;
  }

  -- what is levelled at all is levelled in as many rounds as there are assigned nodes
  pub levelled_enough : (t : N) → levelled looks_of (length xs) t ≡ levelled looks_of (suc (length xs)) t
  levelled_enough = levelled_alike (length xs) (rests_at_count (levelled looks_of) xs levelled_rises)

  module _ (seeds : N → Bool) where
    affected_alike : (n : ℕ) → AgreeOn (affected looks_of seeds n) (affected looks_of seeds (suc n)) xs → (t : N) → affected looks_of seeds n t ≡ affected looks_of seeds (suc n) t
    affected_alike n a = all (affected looks_of seeds n) (affected looks_of seeds (suc n)) a (unassigned n)
      where
        unassigned : (n : ℕ) (t : N) → looks_of t ≡ None → affected looks_of seeds n t ≡ affected looks_of seeds (suc n) t
        unassigned zero t h = rw h (or_none (seeds t))
        unassigned (suc n) t h = rw h refl

    affected_rises : Rising (affected looks_of seeds) xs
    affected_rises = record {
      grows = λ n. affected_stays looks_of seeds n (suc n) (omega arith);
      rests = λ n a. agree_everywhere (affected looks_of seeds (suc n)) (affected looks_of seeds (suc (suc n)))
          (λ t. ap (λ p. seeds t || some_look p (looks_of t)) (λ i u. affected_alike n a u i)) xs;
    }

    affected_enough : (t : N) → affected looks_of seeds (length xs) t ≡ affected looks_of seeds (suc (length xs)) t
    affected_enough = affected_alike (length xs) (rests_at_count (affected looks_of seeds) xs affected_rises)

    -- what a change reaches in so many rounds is closed: what looks at it is in it
    pub affected_closed : (t : N) → some_look (affected looks_of seeds (length xs)) (looks_of t) ≡ true → affected looks_of seeds (length xs) t ≡ true
    affected_closed t h = affected_enough t ∙ or_right (seeds t) (some_look (affected looks_of seeds (length xs)) (looks_of t)) h
