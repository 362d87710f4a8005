-- Tuples of which none stands twice.
use Rattle.std.proofs.Common.{◌≡◌, ℕ, ◌≤◌, Bool, true, false, List, [], ◌∷◌, length, map, None, refl, sym, ap, ◌∙◌, arith}
use Rattle.std.specs.Prelude.{if◌then◌else◌, nat_le}
use Rattle.std.specs.List.{filter}
use Rattle.std.specs.Ordering.{is_gt}
use Rattle.std.proofs.lemmas.Bool.Decides.{nat_tests}
use Rattle.std.proofs.lemmas.List.{length-map}
use Rattle.mq_ir.specs.Keys.{Tuple, is_same}
use Rattle.mq_ir.specs.Partitions.{ascending, first_of, placed, repeated, stands_twice}
use Rattle.mq_values.specs.Order.{cmp_key}
use Rattle.mq_change_laws.specs.SoundLaws.{same_is}
use Rattle.mq_delta_parts.proofs.ListLemmas.{kept_all, kept_mapped, none_passes}
use Rattle.mq_delta_parts.proofs.EditLemmas.{at}

none_first : (xs : List Tuple) → first_of xs ≡ None → xs ≡ []
none_first [] h = refl
none_first (x ∷ xs) h = absurd (cc)

none_placed : (x : Tuple) (ys : List Tuple) → first_of (placed cmp_key x ys) ≡ None → ⊥
none_placed x [] h = cc
none_placed x (y ∷ ys) h = by (is_gt (cmp_key x y)) h
  where
    by : (b : Bool) → first_of (if b then y ∷ placed cmp_key x ys else x ∷ y ∷ ys) ≡ None → ⊥
    by true h = cc
    by false h = cc

none_ascending : (xs : List Tuple) → first_of (ascending cmp_key xs) ≡ None → xs ≡ []
none_ascending [] h = refl
none_ascending (x ∷ xs) h = absurd (none_placed x (ascending cmp_key xs) h)

few : (n : ℕ) → nat_le 2 n ≡ false → n ≤ 1
few n h = grind (arith, nat_tests)

many : (n : ℕ) → n ≤ 1 → nat_le 2 n ≡ false
many n h = grind (arith, nat_tests)

-- where none is repeated, each stands once at most
pub each_once : (keys : List Tuple) → repeated keys ≡ None → (q : Tuple) → length (filter (is_same q) keys) ≤ 1
each_once keys h q = few (length (filter (is_same q) keys)) (by (stands_twice keys q) refl)
  where
    none : filter (stands_twice keys) keys ≡ []
    none = none_ascending (filter (stands_twice keys) keys) h

    by : (b : Bool) → stands_twice keys q ≡ b → b ≡ false
    by true e =
        let all : filter (is_same q) (filter (stands_twice keys) keys) ≡ filter (is_same q) keys =
        kept_all (is_same q) (stands_twice keys) (λ z f. ap (stands_twice keys) (sym (same_is q z f)) ∙ e) keys in
        let zero : length (filter (is_same q) keys) ≡ 0 = ap length (sym all) ∙ ap (λ l. length (filter (is_same q) l)) none in
        let no : nat_le 2 (length (filter (is_same q) keys)) ≡ false = ap (nat_le 2) zero in
        sym e ∙ no
    by false e = refl

-- and the other way round
pub none_repeated : (keys : List Tuple) → ((q : Tuple) → length (filter (is_same q) keys) ≤ 1) → repeated keys ≡ None
none_repeated keys h =
    ap (λ l. first_of (ascending cmp_key l)) (none_passes (stands_twice keys) (λ q. many (length (filter (is_same q) keys)) (h q)) keys)

-- of the tuples that stand before others
module _ {A : Type 0} where
  pub as_many : (q : Tuple) (rows : List (Tuple × A)) → length (filter (is_same q) (map (λ row. row.0) rows)) ≡ length (at q rows)
  as_many q rows = ap length (kept_mapped (λ row. row.0) (is_same q) rows) ∙ length-map (at q rows) (λ row. row.0)
