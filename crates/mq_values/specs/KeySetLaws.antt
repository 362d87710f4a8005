-- Sets of keys: what is among them once keys are put to them.
use Rattle.std.proofs.Common.{◌≡◌, ℕ, ◌+◌, ◌<◌, ◌≤◌, List, [], ◌∷◌, Bool, true, false, ◌||◌, drop, length, get_or, Ordering, Less, Equal, Greater, refl, sym, ap, ◌∙◌}
use Rattle.std.specs.BTreeSet.{insert_key}
use Rattle.std.specs.List.{list_any}
use Rattle.std.specs.Ordering.{match_ordering}
use Rattle.std.proofs.lemmas.List.{drop_all}
use Rattle.mq_values.specs.Order.{cmp_key}
use Rattle.mq_values.specs.OrderTells.{same_key}
use Rattle.mq_values.specs.KeySets.{Tuple, is_among, is_same}
use Rattle.mq_values.specs.ListLaws.{next_item}

once : (a b : Bool) → (a || b) ≡ (a || (a || b))
once true b = refl
once false b = refl

swapped : (a b c : Bool) → (a || (b || c)) ≡ (b || (a || c))
swapped true true c = refl
swapped true false c = refl
swapped false true c = refl
swapped false false c = refl

moved : (a b c : Bool) → ((a || b) || c) ≡ (b || (a || c))
moved true true c = refl
moved true false c = refl
moved false b c = refl

or_false : (a : Bool) → (a || false) ≡ a
or_false true = refl
or_false false = refl

-- what is among the keys of a set once a key is put to it
pub among_with : (q k : Tuple) (keys : List Tuple) → is_among (insert_key cmp_key keys k) q ≡ (is_same q k || is_among keys q)
among_with q k [] = refl
among_with q k (x ∷ xs) = by (cmp_key k x) refl (among_with q k xs)
  where
    by : (r : Ordering) → cmp_key k x ≡ r → is_among (insert_key cmp_key xs k) q ≡ (is_same q k || is_among xs q)
        → is_among (match_ordering r (k ∷ x ∷ xs) (x ∷ xs) (x ∷ insert_key cmp_key xs k)) q ≡ (is_same q k || (is_same q x || is_among xs q))
    by Less e h = refl
    by Equal e h = once (is_same q x) (is_among xs q) ∙ ap (λ y. is_same q y || (is_same q x || is_among xs q)) (sym (same_key k x e))
    by Greater e h = ap (λ b. is_same q x || b) h ∙ swapped (is_same q x) (is_same q k) (is_among xs q)

-- this key is that of one of these items
abbrev pub is_key_in : {A : Type 0} → (A → Tuple) → List A → Tuple → Bool
is_key_in key_of items q = list_any (λ item. is_same q (key_of item)) items

-- a set has the keys of the first i of these items
pub record Gathered {A : Type 0} (key_of : A → Tuple) (items : List A) (i : ℕ) (set : List Tuple) : Type 0 where
  pub is : (q : Tuple) → (is_key_in key_of (drop i items) q || is_among set q) ≡ is_key_in key_of items q

module _ {A : Type 0} (key_of : A → Tuple) (items : List A) where
  pub gather_start : (set : List Tuple) → set ≡ [] → Gathered key_of items 0 set
  gather_start set e = record { is = λ q. ap (λ s. is_key_in key_of items q || is_among s q) e ∙ or_false (is_key_in key_of items q) }

  pub gather_next : (set after : List Tuple) (i : ℕ) (x : A) (key : Tuple) → i < length items → x ≡ get_or items i x
      → key ≡ key_of x → after ≡ insert_key cmp_key set key
      → Gathered key_of items i set → Gathered key_of items (i + 1) after
  gather_next set after i x key h e k a w = record {
    is =
        λ q.
        let rest = is_key_in key_of (drop (i + 1) items) q in
        ap (λ s. rest || is_among s q) (a ∙ ap (insert_key cmp_key set) k)
        ∙ ap (λ b. rest || b) (among_with q (key_of x) set)
        ∙ sym (moved (is_same q (key_of x)) rest (is_among set q))
        ∙ sym (ap (λ l. is_key_in key_of l q || is_among set q) (next_item items i x h e))
        ∙ w.is q;
  }

  -- in the end it has those of all
  pub gather_end : (set : List Tuple) (i : ℕ) → length items ≤ i → Gathered key_of items i set → (q : Tuple)
      → is_among set q ≡ is_key_in key_of items q
  gather_end set i h w = λ q. sym (ap (λ l. is_key_in key_of l q || is_among set q) (drop_all i items h)) ∙ w.is q
