-- The measures that moved from one input to another, measure by measure and cell by cell.
use Rattle.std.proofs.Common.{◌≡◌, ℕ, zero, suc, ◌+◌, ◌<◌, ◌≤◌, Bool, true, false, cond, ◌&&◌, ◌||◌, List, [], ◌∷◌, ◌++◌, Option, Some, None, drop, length, get_or, Ordering, Less, Equal, Greater, refl, sym, ap, subst, ◌∙◌, arith}
use Rattle.std.specs.Prelude.{◌==◌, is_some, nat_lt, slice_index_or}
use Rattle.std.specs.List.{AllByRecursion}
use Rattle.std.specs.List.Sorted.{IsStrictlySortedBy}
use Rattle.std.specs.Map.{keys_of}
use Rattle.std.specs.BTreeMap.{is_at}
use Rattle.std.specs.Option.{option_map_or}
use Rattle.std.specs.Ordering.{is_eq, is_ne, ordering_reverse}
use Rattle.std.proofs.lemmas.Bool.Decides.{nat_tests}
use Rattle.std.proofs.lemmas.List.{drop_all}
use Rattle.std.proofs.lemmas.List.Folds.{list_any-append}
use Rattle.std.proofs.lemmas.Map.Made.{is_some-lookup}
use Rattle.mq_values.specs.ListLaws.{next_item}
use Rattle.mq_values.specs.Order.{cmp_key, cmp_value}
use Rattle.mq_values.specs.declared.value.Value.TheVariants.{Null}
use Rattle.mq_ir.specs.declared.query.CellName.{CellName}
use Rattle.mq_ir.specs.Keys.{Tuple, is_among, is_same}
use Rattle.mq_ir.specs.Partitions.{Cells, cell_at}
use Rattle.mq_ir.specs.Reads.{measure_at}
use Rattle.mq_cells.specs.Stores.{is_named}
use Rattle.mq_delta_cells.specs.Changes.{has_moved}
use Rattle.mq_delta_cells.specs.Seeds.{is_moved}
use Rattle.mq_kept.specs.Moved.{is_other, moves_at}
use Rattle.mq_kept.proofs.ComparingLemmas.{one_key}

-- ---- Bools
pub or_false : (a : Bool) → (a || false) ≡ a
or_false true = refl
or_false false = refl

and_true : (a : Bool) → (a && true) ≡ a
and_true true = refl
and_true false = refl

and_false : (a : Bool) → (a && false) ≡ false
and_false true = refl
and_false false = refl

grouped : (a b c : Bool) → (a || (b || c)) ≡ ((a || b) || c)
grouped true b c = refl
grouped false b c = refl

spread : (k a b : Bool) → ((k && a) || (k && b)) ≡ (k && (a || b))
spread true a b = refl
spread false a b = refl

-- ---- the measures of a cell below a number
abbrev pub below : (ℕ → Bool) → ℕ → ℕ → Bool
below o n m = nat_lt m n && o m

at_itself : (o : ℕ → Bool) (n m : ℕ) (b : Bool) → o n ≡ b → (m == n) ≡ true → o m ≡ b
at_itself o n m b h e = let same : m ≡ n = grind (arith, nat_tests) in ap o same ∙ h

below_more : (o : ℕ → Bool) (n m : ℕ) → o n ≡ true → below o (n + 1) m ≡ (below o n m || (m == n))
below_more o n m h = by (m == n) refl (nat_lt m n) refl
  where
    by : (e : Bool) → (m == n) ≡ e → (l : Bool) → nat_lt m n ≡ l → below o (n + 1) m ≡ ((l && o m) || e)
    by true e true l = absurd (grind (arith, nat_tests))
    by true e false l = let more : nat_lt m (n + 1) ≡ true = grind (arith, nat_tests) in ap (λ b. b && o m) more ∙ at_itself o n m true h e
    by false e true l = let more : nat_lt m (n + 1) ≡ true = grind (arith, nat_tests) in ap (λ b. b && o m) more ∙ sym (or_false (o m))
    by false e false l = let more : nat_lt m (n + 1) ≡ false = grind (arith, nat_tests) in ap (λ b. b && o m) more

below_same : (o : ℕ → Bool) (n m : ℕ) → o n ≡ false → below o (n + 1) m ≡ below o n m
below_same o n m h = by (m == n) refl (nat_lt m n) refl
  where
    by : (e : Bool) → (m == n) ≡ e → (l : Bool) → nat_lt m n ≡ l → below o (n + 1) m ≡ (l && o m)
    by true e true l = absurd (grind (arith, nat_tests))
    by true e false l = ap (λ b. nat_lt m (n + 1) && b) (at_itself o n m false h e) ∙ and_false (nat_lt m (n + 1))
    by false e true l = let more : nat_lt m (n + 1) ≡ true = grind (arith, nat_tests) in ap (λ b. b && o m) more
    by false e false l = let more : nat_lt m (n + 1) ≡ false = grind (arith, nat_tests) in ap (λ b. b && o m) more

behind_end : (xs : Tuple) (m : ℕ) → length xs ≤ m → slice_index_or xs m Null ≡ Null
behind_end [] m h = refl
behind_end (x ∷ xs) zero h = absurd (omega arith)
behind_end (x ∷ xs) (suc m) h = behind_end xs m (omega arith)

none_other : (were are : Tuple) (m : ℕ) → length were ≤ m → length are ≤ m → is_other were are m ≡ false
none_other were are m h k = λ i. is_ne (cmp_value (behind_end were m h i) (behind_end are m k i))

below_all : (were are : Tuple) (n m : ℕ) → length were ≤ n → length are ≤ n → below (is_other were are) n m ≡ is_other were are m
below_all were are n m h k = by (nat_lt m n) refl
  where
    by : (l : Bool) → nat_lt m n ≡ l → (l && is_other were are m) ≡ is_other were are m
    by true l = refl
    by false l = let le : n ≤ m = grind (arith, nat_tests) in sym (none_other were are m (omega (arith, h, le)) (omega (arith, k, le)))

-- what moved, once the measures of a cell below a number were looked at
pub record AddedBelow (key were are : Tuple) (first : List CellName) (n : ℕ) (moved : List CellName) : Type 0 where
  pub is : (c : CellName) → is_moved moved c ≡ (is_moved first c || (is_same c.key key && below (is_other were are) n c.measure))

pub added_start : (key were are : Tuple) (first : List CellName) → AddedBelow key were are first 0 first
added_start key were are first = record { is = λ c. sym (ap (λ b. is_moved first c || b) (none (is_same c.key key) c.measure) ∙ or_false (is_moved first c)) }
  where
    none : (k : Bool) (m : ℕ) → (k && below (is_other were are) 0 m) ≡ false
    none k m = let l : nat_lt m 0 ≡ false = grind (arith, nat_tests) in ap (λ b. k && (b && is_other were are m)) l ∙ and_false k

module _ (key were are : Tuple) (first : List CellName) (n : ℕ) (moved : List CellName) (so : AddedBelow key were are first n moved) where
  pub added_same : is_other were are n ≡ false → AddedBelow key were are first (n + 1) moved
  added_same h = record {
    is = λ c. so.is c ∙ ap (λ b. is_moved first c || (is_same c.key key && b)) (sym (below_same (is_other were are) n c.measure h));
  }

  pub added_more : (name : Tuple) (after : List CellName) → is_other were are n ≡ true → name ≡ key
      → after ≡ moved ++ record { key = name; measure = n } ∷ [] → AddedBelow key were are first (n + 1) after
  added_more name after h e f = record {
    is =
        λ c.
        let o = is_other were are in
        let k = is_same c.key key in
        ap (λ (l : List CellName). is_moved l c) f
        ∙ list_any-append (λ (d : CellName). is_named c d) moved (record { key = name; measure = n } ∷ [])
        ∙ ap (λ (b : Bool). is_moved moved c || b) (or_false (is_same c.key name && (c.measure == n)))
        ∙ ap (λ (t : Tuple). is_moved moved c || (is_same c.key t && (c.measure == n))) e
        ∙ ap (λ (b : Bool). b || (k && (c.measure == n))) (so.is c)
        ∙ sym (grouped (is_moved first c) (k && below o n c.measure) (k && (c.measure == n)))
        ∙ ap (λ (b : Bool). is_moved first c || b) (spread k (below o n c.measure) (c.measure == n) ∙ ap (λ (b : Bool). k && b) (sym (below_more o n c.measure h)));
  }

  pub added_all : length were ≤ n → length are ≤ n → (c : CellName) → is_moved moved c ≡ (is_moved first c || moves_at key were are c)
  added_all h k c = so.is c ∙ ap (λ (b : Bool). is_moved first c || (is_same c.key key && b)) (below_all were are n c.measure h k)

-- ---- the cells one after another
-- what moves at the next cell, where the other input has it or not
abbrev pub moves_there : Option Tuple → Tuple → Tuple → CellName → Bool
moves_there were key are c = option_map_or (λ w. moves_at key w are c) were false

flipped : (r : Ordering) → r ≡ Less → is_eq (ordering_reverse r) ≡ false
flipped Less h = refl
flipped Equal h = cc
flipped Greater h = cc

-- a tuple below all of these is not among them
not_among : (key q : Tuple) (keys : List Tuple) → q ≡ key → AllByRecursion (λ k. cmp_key key k ≡ Less) keys → is_among keys q ≡ false
not_among key q [] e a = refl
not_among key q (k ∷ keys) e a =
    ap (λ (t : Tuple). is_same t k || is_among keys q) e
    ∙ ap (λ (r : Ordering). is_eq r || is_among keys q) a.0
    ∙ not_among key q keys e a.1

module _ (before : Cells) (key are : Tuple) (rest : Cells) (c : CellName) where
  there : is_among (keys_of before) c.key ≡ is_some (cell_at before c.key)
  there = sym (is_some-lookup (is_at (cmp_key c.key)) before)

  -- at the cell itself
  here : c.key ≡ key → (o : Option Tuple) → cell_at before c.key ≡ o
      → (is_some (cell_at before c.key) && is_ne (cmp_value (measure_at before c) (slice_index_or are c.measure Null)))
      ≡ option_map_or (λ w. is_other w are c.measure) o false
  here e None f = ap (λ (o : Option Tuple). is_some o && is_ne (cmp_value (measure_at before c) (slice_index_or are c.measure Null))) f
  here e (Some w) f =
      ap (λ (o : Option Tuple). is_some o && is_ne (cmp_value (option_map_or (λ measures. slice_index_or measures c.measure Null) o Null) (slice_index_or are c.measure Null))) f

  pub moved_next : IsStrictlySortedBy cmp_key (keys_of ((key, are) ∷ rest))
      → has_moved before ((key, are) ∷ rest) c ≡ (moves_there (cell_at before key) key are c || has_moved before rest c)
  unfolding IsStrictlySortedBy
  moved_next s = by (is_same c.key key) refl
    where
      is_none : (o : Option Tuple) → option_map_or (λ w. false && is_other w are c.measure) o false ≡ false
      is_none None = refl
      is_none (Some w) = refl

      told : (o : Option Tuple) → option_map_or (λ w. true && is_other w are c.measure) o false ≡ option_map_or (λ w. is_other w are c.measure) o false
      told None = refl
      told (Some w) = refl

      by : (b : Bool) → is_same c.key key ≡ b
          → ((is_among (keys_of before) c.key && (b || is_among (keys_of rest) c.key))
          && is_ne (cmp_value (measure_at before c) (option_map_or (λ measures. slice_index_or measures c.measure Null) (cond b (Some are) (cell_at rest c.key)) Null)))
          ≡ (option_map_or (λ w. b && is_other w are c.measure) (cell_at before key) false || has_moved before rest c)
      by true e =
          let same = one_key c.key key e in
          let gone : has_moved before rest c ≡ false =
          ap (λ (b : Bool). (is_among (keys_of before) c.key && b) && is_ne (cmp_value (measure_at before c) (measure_at rest c))) (not_among key c.key (keys_of rest) same s.0)
          ∙ ap (λ (b : Bool). b && is_ne (cmp_value (measure_at before c) (measure_at rest c))) (and_false (is_among (keys_of before) c.key)) in
          ap (λ (b : Bool). b && is_ne (cmp_value (measure_at before c) (slice_index_or are c.measure Null))) (and_true (is_among (keys_of before) c.key) ∙ there)
          ∙ here same (cell_at before c.key) refl
          ∙ ap (λ (k : Tuple). option_map_or (λ w. is_other w are c.measure) (cell_at before k) false) same
          ∙ sym (told (cell_at before key))
          ∙ sym (ap (λ (b : Bool). option_map_or (λ w. true && is_other w are c.measure) (cell_at before key) false || b) gone ∙ or_false (option_map_or (λ w. true && is_other w are c.measure) (cell_at before key) false))
      by false e = sym (ap (λ (b : Bool). b || has_moved before rest c) (is_none (cell_at before key)))

-- what moved, once the cells before a place were looked at
pub record MovedUpTo (before after : Cells) (at : ℕ) (moved : List CellName) : Type 0 where
  pub is : (c : CellName) → (is_moved moved c || has_moved before (drop at after) c) ≡ has_moved before after c
  pub ascend : IsStrictlySortedBy cmp_key (keys_of (drop at after))

pub moved_start : (before after : Cells) → IsStrictlySortedBy cmp_key (keys_of after) → MovedUpTo before after 0 []
moved_start before after s = record { is = λ c. refl; ascend = s }

tail_sorted : (cell : Tuple × Tuple) (rest : Cells) → IsStrictlySortedBy cmp_key (keys_of (cell ∷ rest)) → IsStrictlySortedBy cmp_key (keys_of rest)
unfolding IsStrictlySortedBy
tail_sorted cell rest s = s.1

module _ (before after : Cells) (at : ℕ) (cell : Tuple × Tuple) (moved : List CellName) (l : at < length after) (is : cell ≡ get_or after at cell)
    (so : MovedUpTo before after at moved) where
  next : drop at after ≡ cell ∷ drop (at + 1) after
  next = next_item after at cell l is

  sorted : IsStrictlySortedBy cmp_key (keys_of (cell ∷ drop (at + 1) after))
  sorted = subst (λ (cells : Cells). IsStrictlySortedBy cmp_key (keys_of cells)) next so.ascend

  pub moved_on : (were : Option Tuple) (more : List CellName) → were ≡ cell_at before cell.0
      → ((c : CellName) → is_moved more c ≡ (is_moved moved c || moves_there were cell.0 cell.1 c)) → MovedUpTo before after (at + 1) more
  moved_on were more e h = record {
    is =
        λ c.
        let rest = has_moved before (drop (at + 1) after) c in
        ap (λ (b : Bool). b || rest) (h c ∙ ap (λ (o : Option Tuple). is_moved moved c || moves_there o cell.0 cell.1 c) e)
        ∙ sym (grouped (is_moved moved c) (moves_there (cell_at before cell.0) cell.0 cell.1 c) rest)
        ∙ ap (λ (b : Bool). is_moved moved c || b)
        (sym (moved_next before cell.0 cell.1 (drop (at + 1) after) c sorted) ∙ sym (ap (λ (cells : Cells). has_moved before cells c) next))
        ∙ so.is c;
    ascend = tail_sorted cell (drop (at + 1) after) sorted;
  }

pub moved_end : (before after : Cells) (at : ℕ) (moved : List CellName) → length after ≤ at → MovedUpTo before after at moved
    → (c : CellName) → is_moved moved c ≡ has_moved before after c
moved_end before after at moved l so c =
    sym (or_false (is_moved moved c))
    ∙ sym (ap (λ (b : Bool). is_moved moved c || b) (none c))
    ∙ ap (λ (cells : Cells). is_moved moved c || has_moved before cells c) (sym (drop_all at after l))
    ∙ so.is c
  where
    none : (c : CellName) → has_moved before [] c ≡ false
    none c = ap (λ (b : Bool). b && is_ne (cmp_value (measure_at before c) Null)) (and_false (is_among (keys_of before) c.key))
