-- Values that go by rounds: what a step reads, and that a value stands once its node is levelled. For any nodes and values.
use Rattle.std.proofs.Common.{◌≡◌, ℕ, zero, suc, Bool, true, List, [], ◌∷◌, Option, Some, None, refl, sym, ap, ◌∙◌}
use Rattle.std.specs.Prelude.{is_none}
use Rattle.std.specs.List.{list_all}
use Rattle.std.proofs.lemmas.Bool.{and_parts}
use Rattle.mq_ir.specs.Rounds.{System, every_look, levelled, value, where_assigned}

-- two maps give the same for each of these nodes
abbrev pub SameAt : {N V : Type 0} → (N → V) → (N → V) → List N → Type 0
SameAt f g [] = Unit {0}
SameAt f g (x ∷ xs) = (f x ≡ g x) × SameAt f g xs

-- the step of a node reads nothing but the values that it looks at
abbrev pub ReadsLooks : {N V : Type 0} → System N V → Type 0
ReadsLooks {N} {V} s = (t : N) (looks : List N) → s.looks_of t ≡ Some looks → (f g : N → V) → SameAt f g looks → s.step t f ≡ s.step t g

none_is : {A : Type 0} (o : Option A) → is_none o ≡ true → o ≡ None
none_is None h = refl
none_is (Some x) h = cc

module _ {N V : Type 0} (s : System N V) where
  -- a node that is not assigned has its input in every round
  pub unassigned_value : (n : ℕ) (t : N) → s.looks_of t ≡ None → value s n t ≡ s.input t
  unassigned_value zero t h = ap (λ o. where_assigned o s.unknown (s.input t)) h
  unassigned_value (suc n) t h = ap (λ o. where_assigned o (s.step t (value s n)) (s.input t)) h

  -- one that is assigned has its step over the round before
  pub assigned_value : (n : ℕ) (t : N) (looks : List N) → s.looks_of t ≡ Some looks → value s (suc n) t ≡ s.step t (value s n)
  assigned_value n t looks h = ap (λ o. where_assigned o (s.step t (value s n)) (s.input t)) h

  -- and is unknown before the first
  pub unknown_value : (t : N) (looks : List N) → s.looks_of t ≡ Some looks → value s zero t ≡ s.unknown
  unknown_value t looks h = ap (λ o. where_assigned o s.unknown (s.input t)) h

  -- where it is levelled, each of its looks was levelled a round earlier
  pub looks_levelled : (n : ℕ) (t : N) (looks : List N) → s.looks_of t ≡ Some looks → levelled s.looks_of (suc n) t ≡ true
      → list_all (levelled s.looks_of n) looks ≡ true
  looks_levelled n t looks e h = ap (every_look (levelled s.looks_of n)) (sym e) ∙ h

  same_values : (f g : N → V) (p q : N → Bool) → ((t : N) → p t ≡ true → q t ≡ true → f t ≡ g t) → (xs : List N) → list_all p xs ≡ true
      → list_all q xs ≡ true → SameAt f g xs
  same_values f g p q same [] a b = tt
  same_values f g p q same (x ∷ xs) a b =
      let ha = and_parts (p x) (list_all p xs) a in
      let hb = and_parts (q x) (list_all q xs) b in
      (same x ha.0 hb.0, same_values f g p q same xs ha.1 hb.1)

  module _ (reads : ReadsLooks s) where
    settled_by : (a b : ℕ) (t : N)
        → ((u : N) → levelled s.looks_of a u ≡ true → levelled s.looks_of b u ≡ true → value s a u ≡ value s b u)
        → (o : Option (List N)) → s.looks_of t ≡ o
        → levelled s.looks_of (suc a) t ≡ true → levelled s.looks_of (suc b) t ≡ true → value s (suc a) t ≡ value s (suc b) t
    settled_by a b t earlier None e la lb = unassigned_value (suc a) t e ∙ sym (unassigned_value (suc b) t e)
    settled_by a b t earlier (Some looks) e la lb =
        assigned_value a t looks e
        ∙ reads t looks e (value s a) (value s b)
        (same_values (value s a) (value s b) (levelled s.looks_of a) (levelled s.looks_of b) earlier looks
        (looks_levelled a t looks e la) (looks_levelled b t looks e lb))
        ∙ sym (assigned_value b t looks e)

    -- rounds that level a node give it the same value
    pub settled : (a b : ℕ) (t : N) → levelled s.looks_of a t ≡ true → levelled s.looks_of b t ≡ true → value s a t ≡ value s b t
    settled zero b t la lb = let e = none_is (s.looks_of t) la in unassigned_value zero t e ∙ sym (unassigned_value b t e)
    settled (suc a) zero t la lb = let e = none_is (s.looks_of t) lb in unassigned_value (suc a) t e ∙ sym (unassigned_value zero t e)
    settled (suc a) (suc b) t la lb = settled_by a b t (settled a b) (s.looks_of t) refl la lb
