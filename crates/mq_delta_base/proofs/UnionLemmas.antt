-- A union that is made tuple by tuple.
use Rattle.std.proofs.Common.{◌≡◌, ℕ, zero, suc, ◌+◌, ◌<◌, ◌≤◌, Bool, true, false, List, [], ◌∷◌, ◌++◌, drop, length, get_or, Option, Some, None, Ordering, Less, Equal, Greater, refl, sym, ap, subst, ◌∙◌, append_assoc, arith}
use Rattle.std.specs.Prelude.{if◌then◌else◌, slice_get, slice_index_or}
use Rattle.std.proofs.Math.ListN.{drop_of_length-le}
use Rattle.std.specs.Option.{option_map_or}
use Rattle.std.specs.Ordering.{is_eq, is_lt, match_ordering}
use Rattle.mq_ir.specs.BaseRows.{Places}
use Rattle.mq_join.specs.Kept.{PlaceRows}
use Rattle.mq_delta_base.specs.Sets.{cmp_places, union}
use Rattle.mq_delta_base.specs.Unions.{IsNext, PushesBelow, order_at, place_behind}
use Rattle.mq_delta_base.proofs.SetLemmas.{tied}

-- the tuple of a number, and those behind it
pub from_here : (a : List Places) (at : ℕ) → at < length a → drop at a ≡ slice_index_or a at [] ∷ drop (at + 1) a
from_here [] at h = absurd (omega (arith, h))
from_here (x ∷ a) zero h = refl
from_here (x ∷ a) (suc at) h =
    let e : suc at + 1 ≡ suc (at + 1) = omega arith in
    from_here a at (omega (arith, h)) ∙ ap (λ n. slice_index_or a at [] ∷ drop n (x ∷ a)) (sym e)

pub order_is : (a : List Places) (at : ℕ) (tuple : Places) → at < length a → order_at a at tuple ≡ cmp_places (slice_index_or a at []) tuple
order_is [] at tuple h = absurd (omega (arith, h))
order_is (x ∷ a) zero tuple h = refl
order_is (x ∷ a) (suc at) tuple h = order_is a at tuple (omega (arith, h))

pub order_past : (a : List Places) (at : ℕ) (tuple : Places) → length a ≤ at → order_at a at tuple ≡ Greater
order_past [] at tuple h = refl
order_past (x ∷ a) zero tuple h = absurd (omega (arith, h))
order_past (x ∷ a) (suc at) tuple h = order_past a at tuple (omega (arith, h))

less_of : (o : Ordering) → is_lt o ≡ true → o ≡ Less
less_of Less e = refl
less_of Equal e = absurd (cc)
less_of Greater e = absurd (cc)

module _ (a : List Places) (at : ℕ) (tuple : Places) (before : List Places) where
  pub push_one : (end : ℕ) (rows after : PlaceRows) (x : Places) → end < length a → is_lt (cmp_places x tuple) ≡ true → x ≡ slice_index_or a end []
      → after ≡ record rows { rows = rows.rows ++ x ∷ [] }
      → ((rest : List Places) → rows.rows ++ union (drop end a) (tuple ∷ rest) ≡ before ++ union (drop at a) (tuple ∷ rest))
      → (rest : List Places) → after.rows ++ union (drop (end + 1) a) (tuple ∷ rest) ≡ before ++ union (drop at a) (tuple ∷ rest)
  push_one end rows after x within l e g h rest =
      let less : cmp_places x tuple ≡ Less = less_of (cmp_places x tuple) l in
      let here : drop end a ≡ x ∷ drop (end + 1) a = from_here a end within ∙ ap (λ y. y ∷ drop (end + 1) a) (sym e) in
      ap (λ (p : PlaceRows). p.rows ++ union (drop (end + 1) a) (tuple ∷ rest)) g
      ∙ append_assoc rows.rows (x ∷ []) (union (drop (end + 1) a) (tuple ∷ rest))
      ∙ ap (λ xs. rows.rows ++ xs)
      (sym (ap (λ xs. union xs (tuple ∷ rest)) here
      ∙ ap (λ o. match_ordering o (x ∷ union (drop (end + 1) a) (tuple ∷ rest)) (x ∷ union (drop (end + 1) a) rest) (tuple ∷ union (x ∷ drop (end + 1) a) rest)) less))
      ∙ h rest

  pub stops_here : (end : ℕ) (rows : List Places) (x : Places) → end < length a → is_lt (cmp_places x tuple) ≡ false → x ≡ slice_index_or a end []
      → ((rest : List Places) → rows ++ union (drop end a) (tuple ∷ rest) ≡ before ++ union (drop at a) (tuple ∷ rest)) → PushesBelow a at tuple before end rows
  stops_here end rows x within l e h = record {
    within = omega (arith, within);
    above = ap is_lt (order_is a end tuple within) ∙ ap (λ y. is_lt (cmp_places y tuple)) (sym e) ∙ l;
    same = h;
  }

  pub stops_behind : (end place : ℕ) (rows : List Places) → end ≡ length a → length a ≤ place → place ≤ length a
      → ((rest : List Places) → rows ++ union (drop place a) (tuple ∷ rest) ≡ before ++ union (drop at a) (tuple ∷ rest)) → PushesBelow a at tuple before end rows
  stops_behind end place rows e l m h =
      let p : place ≡ end = omega (arith, e, l, m) in
      record {
        within = omega (arith, e);
        above = ap is_lt (order_past a end tuple (omega (arith, e)));
        same = λ rest. ap (λ n. rows ++ union (drop n a) (tuple ∷ rest)) (sym p) ∙ h rest;
      }

  -- the tuple itself, where it stands at the end, and where it does not
  pub push_same : (end : ℕ) (between : List Places) → PushesBelow a at tuple before end between → is_eq (order_at a end tuple) ≡ true
      → IsNext a at tuple before (end + 1) (between ++ tuple ∷ [])
  push_same end between p e = record {
    within = omega (arith, inside);
    same = λ rest. append_assoc between (tuple ∷ []) (union (drop (end + 1) a) rest) ∙ ap (λ xs. between ++ xs) (sym (merged rest)) ∙ p.same rest;
  }
    where
      there : (n : ℕ) → (l : List Places) → is_eq (order_at l n tuple) ≡ true → n < length l
      there n [] e = absurd (cc)
      there zero (x ∷ l) e = omega arith
      there (suc n) (x ∷ l) e = let r = there n l e in omega (arith, r)

      inside : end < length a
      inside = there end a e

      equal_of : (o : Ordering) → is_eq o ≡ true → o ≡ Equal
      equal_of Less e = absurd (cc)
      equal_of Equal e = refl
      equal_of Greater e = absurd (cc)

      equal : cmp_places (slice_index_or a end []) tuple ≡ Equal
      equal = sym (order_is a end tuple inside) ∙ equal_of (order_at a end tuple) e

      merged : (rest : List Places) → union (drop end a) (tuple ∷ rest) ≡ tuple ∷ union (drop (end + 1) a) rest
      merged rest =
          ap (λ xs. union xs (tuple ∷ rest)) (from_here a end inside)
          ∙ ap (λ o. match_ordering o (slice_index_or a end [] ∷ union (drop (end + 1) a) (tuple ∷ rest)) (slice_index_or a end [] ∷ union (drop (end + 1) a) rest) (tuple ∷ union (slice_index_or a end [] ∷ drop (end + 1) a) rest)) equal
          ∙ ap (λ x. x ∷ union (drop (end + 1) a) rest) (tied (slice_index_or a end []) tuple equal)

  pub push_other : (end : ℕ) (between : List Places) → PushesBelow a at tuple before end between → is_eq (order_at a end tuple) ≡ false
      → IsNext a at tuple before end (between ++ tuple ∷ [])
  push_other end between p e = record {
    within = p.within;
    same = λ rest. append_assoc between (tuple ∷ []) (union (drop end a) rest) ∙ ap (λ xs. between ++ xs) (sym (merged a end rest (greater_of (order_at a end tuple) p.above e))) ∙ p.same rest;
  }
    where
      greater_of : (o : Ordering) → is_lt o ≡ false → is_eq o ≡ false → o ≡ Greater
      greater_of Less l e = absurd (cc)
      greater_of Equal l e = absurd (cc)
      greater_of Greater l e = refl

      merged : (l : List Places) (n : ℕ) (rest : List Places) → order_at l n tuple ≡ Greater → union (drop n l) (tuple ∷ rest) ≡ tuple ∷ union (drop n l) rest
      merged [] zero rest g = refl
      merged [] (suc n) rest g = refl
      merged (x ∷ l) zero rest g = ap (λ o. match_ordering o (x ∷ union l (tuple ∷ rest)) (x ∷ union l rest) (tuple ∷ union (x ∷ l) rest)) g
      merged (x ∷ l) (suc n) rest g = merged l n rest g

  pub next_is : (end : ℕ) (between after : PlaceRows) (next : ℕ) → PushesBelow a at tuple before end between.rows → after ≡ record between { rows = between.rows ++ tuple ∷ [] }
      → next ≡ place_behind a end tuple → IsNext a at tuple before next after.rows
  next_is end between after next p g n = by (is_eq (order_at a end tuple)) refl
    where
      there : (m : ℕ) → next ≡ m → IsNext a at tuple before m (between.rows ++ tuple ∷ []) → IsNext a at tuple before next after.rows
      there m e i = subst (λ (rows : PlaceRows). IsNext a at tuple before next rows.rows) (sym g) (subst (λ k. IsNext a at tuple before k (between.rows ++ tuple ∷ [])) (sym e) i)

      by : (b : Bool) → is_eq (order_at a end tuple) ≡ b → IsNext a at tuple before next after.rows
      by true e = there (end + 1) (n ∙ ap (λ b. if b then end + 1 else end) e) (push_same end between.rows p e)
      by false e = there end (n ∙ ap (λ b. if b then end + 1 else end) e) (push_other end between.rows p e)

-- ---- the walk over the other list
pub union_none : (a : List Places) → union a [] ≡ a
union_none [] = refl
union_none (x ∷ a) = refl

pub finished : (a b : List Places) (at other : ℕ) (rows : List Places) → length b ≤ other → rows ++ union (drop at a) (drop other b) ≡ union a b → rows ++ drop at a ≡ union a b
finished a b at other rows h e =
    ap (λ xs. rows ++ xs) (sym (ap (union (drop at a)) (drop_of_length-le b h) ∙ union_none (drop at a))) ∙ e
