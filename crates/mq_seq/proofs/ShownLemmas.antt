-- The cells that a store shows: what stands there, and what becomes of them.
use Rattle.std.proofs.Common.{◌≡◌, ◌≢◌, ℕ, ◌<◌, ◌≤◌, ◌==◌, ◌⊎◌, inl, inr, arith, List, [], ◌∷◌, Bool, true, false, ◌||◌, ◌&&◌, cond, get_or, length, map, replicate, Option, Some, None, Ordering, Less, Equal, Greater, refl, sym, ap, subst, ◌∙◌}
use Rattle.std.specs.Prelude.{if◌then◌else◌, nat_lt, slice_set, unwrap_or, IfSome}
use Rattle.std.specs.BTreeMap.{is_at}
use Rattle.std.specs.List.{AllByRecursion, range_with_len}
use Rattle.std.specs.List.Sorted.{IsStrictlySortedBy}
use Rattle.std.specs.Map.{keys_of}
use Rattle.std.specs.Option.{option_map_or}
use Rattle.std.specs.Ordering.{is_eq, match_ordering}
use Rattle.std.proofs.lemmas.Bool.Decides.{Decides-ltb, eqb_tells}
use Rattle.std.proofs.lemmas.Bool.{cases_lt}
use Rattle.std.proofs.lemmas.List.{get_or_past, get_or-replicate, get_or-set_other, get_or-set_same, length-replicate, length-set, set_past}
use Rattle.std.proofs.lemmas.List.FromFn.{fill_by_all, get_or-map-range_with_len, length-map-range_with_len}
use Rattle.std.proofs.lemmas.Map.Keys.{sorted_head, sorted_tail}
use Rattle.mq_values.specs.KeySetLaws.{among_with}
use Rattle.mq_values.specs.Order.{cmp_key}
use Rattle.mq_values.specs.OrderLaws.{key_total}
use Rattle.mq_values.specs.OrderTells.{key_itself, same_key}
use Rattle.mq_values.specs.declared.value.Value.{Value}
use Rattle.mq_values.specs.declared.value.Value.TheVariants.{Null}
use Rattle.mq_ir.specs.declared.query.CellName.{CellName}
use Rattle.mq_ir.specs.declared.query.Slot.TheVariants.{Done}
use Rattle.mq_ir.specs.Keys.{Tuple, is_among, is_same}
use Rattle.mq_ir.specs.Partitions.{Cells, cell_at, with_cell}
use Rattle.mq_ir.specs.Reads.{measure_at}
use Rattle.mq_ir.specs.Sequential.{assigned}
use Rattle.mq_ir.specs.Slots.{done_value}
use Rattle.mq_cells.specs.IndexedStores.{IndexedStore, input_in, keys_in, results_of, value_in}
use Rattle.mq_cells.specs.Stores.{DiffersAt, cell_name, input_value, is_named}
use Rattle.mq_dim_index.specs.Places.{is_there, with_key}
use Rattle.mq_seq.specs.Marks.{IsFresh}
use Rattle.mq_seq.specs.Shown.{AtMarked, AtMeasures, SetsAt, cells_over, has_measure, measure_count, measures_over, values_over}
use Rattle.mq_seq.proofs.NoteLemmas.{is_equal, turned}
use Rattle.mq_seq.proofs.PlaceLemmas.{with_there}

-- keys with the measures that a function gives them
abbrev pairs : (Tuple → Tuple) → List Tuple → Cells
pairs f = map (λ key. (key, f key))

keys_shown : (f : Tuple → Tuple) (ks : List Tuple) → keys_of (pairs f ks) ≡ ks
keys_shown f [] = refl
keys_shown f (k ∷ ks) = ap (λ l. k ∷ l) (keys_shown f ks)

pub keys_over : (s : IndexedStore) (count : ℕ) → keys_in s ≡ keys_of (cells_over s count)
keys_over s count = sym (keys_shown (measures_over s count) (keys_in s))

-- one more key, or other measures of one
module _ (f g : Tuple → Tuple) (key : Tuple) (off : (k : Tuple) → is_same key k ≡ false → f k ≡ g k) where
  behind : (ks : List Tuple) → AllByRecursion (λ y. cmp_key key y ≡ Less) ks → pairs f ks ≡ pairs g ks
  behind [] a = refl
  behind (k ∷ ks) a = λ i. (k, off k (ap is_eq a.0) i) ∷ behind ks a.1 i

  further : (k : Tuple) (ks : List Tuple) → cmp_key key k ≡ Less → AllByRecursion (λ y. cmp_key k y ≡ Less) ks → AllByRecursion (λ y. cmp_key key y ≡ Less) ks
  further k [] e a = tt
  further k (y ∷ ys) e a = (key_total.trans key k y e a.0, further k ys e a.1)

  pub with_shown : (ks : List Tuple) → IsStrictlySortedBy cmp_key ks → with_cell (pairs f ks) key (g key) ≡ pairs g (with_key ks key)
  with_shown [] s = refl
  with_shown (k ∷ ks) s = by (cmp_key key k) refl (with_shown ks (sorted_tail cmp_key k ks s))
    where
      by : (r : Ordering) → cmp_key key k ≡ r → with_cell (pairs f ks) key (g key) ≡ pairs g (with_key ks key)
          → match_ordering r ((key, g key) ∷ (k, f k) ∷ pairs f ks) ((k, g key) ∷ pairs f ks) ((k, f k) ∷ with_cell (pairs f ks) key (g key)) ≡ pairs g (match_ordering r (key ∷ k ∷ ks) (k ∷ ks) (k ∷ with_key ks key))
      by Less e rest =
          let later = behind ks (further k ks e (sorted_head cmp_key k ks s)) in
          λ i. (key, g key) ∷ (k, off k (ap is_eq e) i) ∷ later i
      by Equal e rest =
          let same : key ≡ k = same_key key k e in
          let later = behind ks (subst (λ x. AllByRecursion (λ y. cmp_key x y ≡ Less) ks) (sym same) (sorted_head cmp_key k ks s)) in
          λ i. (k, g (same i)) ∷ later i
      by Greater e rest = λ i. (k, off k (ap is_eq e) i) ∷ rest i

-- what stands at a key
module _ (f : Tuple → Tuple) (key : Tuple) where
  pub shown_at : (ks : List Tuple) → is_there ks key ≡ true → cell_at (pairs f ks) key ≡ Some (f key)
  shown_at [] t = absurd (cc)
  shown_at (k ∷ ks) t = by (is_at (cmp_key key) k) refl t (shown_at ks)
    where
      by : (b : Bool) → is_at (cmp_key key) k ≡ b → (b || is_there ks key) ≡ true → (is_there ks key ≡ true → cell_at (pairs f ks) key ≡ Some (f key))
          → cond b (Some (f k)) (cell_at (pairs f ks) key) ≡ Some (f key)
      by true e t rest = ap (λ k. Some (f k)) (sym (is_equal key k e))
      by false e t rest = rest t

  pub none_shown : (ks : List Tuple) → is_there ks key ≡ false → cell_at (pairs f ks) key ≡ None
  none_shown [] t = refl
  none_shown (k ∷ ks) t = by (is_at (cmp_key key) k) t (none_shown ks)
    where
      by : (b : Bool) → (b || is_there ks key) ≡ false → (is_there ks key ≡ false → cell_at (pairs f ks) key ≡ None) → cond b (Some (f k)) (cell_at (pairs f ks) key) ≡ None
      by true t rest = absurd (cc)
      by false t rest = rest t

-- two names of one measure
and_parts : (a b : Bool) → (a && b) ≡ true → (a ≡ true) × (b ≡ true)
and_parts true true h = (refl, refl)
and_parts true false h = absurd (cc)
and_parts false b h = absurd (cc)

same_cell : (k l : Tuple) (m n : ℕ) → (is_same k l && (m == n)) ≡ true → (k ≡ l) × (m ≡ n)
same_cell k l m n h =
    let parts = and_parts (is_same k l) (m == n) h in
    (is_equal k l parts.0, by (eqb_tells m n) parts.1)
  where
    by : (((m == n) ≡ true) × (m ≡ n)) ⊎ (((m == n) ≡ false) × (m ≢ n)) → (m == n) ≡ true → m ≡ n
    by (inl e) g = e.1
    by (inr e) g = absurd (cc)

-- a number below another, or not
below : (m n : ℕ) → nat_lt m n ≡ true → m < n
below m n h = (Decides-ltb m n).0 h

not_below : (m n : ℕ) → nat_lt m n ≡ false → n ≤ m
not_below m n h = by (cases_lt m n)
  where
    by : (m < n) ⊎ (n ≤ m) → n ≤ m
    by (inl l) = let e : nat_lt m n ≡ true = (Decides-ltb m n).1 l in absurd (cc)
    by (inr l) = l

pub lacks : (m n : ℕ) → n ≤ m → nat_lt m n ≡ false
lacks m n h = by (nat_lt m n) refl
  where
    by : (b : Bool) → nat_lt m n ≡ b → b ≡ false
    by true e = let l = below m n e in absurd (omega (arith, l, h))
    by false e = refl

module _ (s : IndexedStore) (count : ℕ) where
  -- the measures of a cell, one by one
  measure_in : (c : CellName) → has_measure s count c ≡ true → get_or (measures_over s count c.key) c.measure Null ≡ value_in s c
  measure_in c h =
      get_or-map-range_with_len (λ m. value_in s (cell_name c.key m)) 0 (measure_count s count c.key) c.measure c.measure Null (below c.measure (measure_count s count c.key) h) (omega arith)

  measure_past : (c : CellName) → has_measure s count c ≡ false → get_or (measures_over s count c.key) c.measure Null ≡ Null
  measure_past c h =
      let n = measure_count s count c.key in
      let long = length-map-range_with_len (λ m. value_in s (cell_name c.key m)) 0 n in
      let past = not_below c.measure n h in
      get_or_past (measures_over s count c.key) c.measure Null (omega (arith, long, past))

  -- nothing is given at a measure that a cell does not have
  nothing_given : (c : CellName) → has_measure s count c ≡ false → input_value (input_in s) c ≡ Null
  nothing_given c h = by (input_in s c.key) h
    where
      by : (given : Option Tuple) → nat_lt c.measure (option_map_or length given count) ≡ false → option_map_or (λ measures. get_or measures c.measure Null) given Null ≡ Null
      by (Some measures) h = get_or_past measures c.measure Null (not_below c.measure (length measures) h)
      by None h = refl

  no_value : (c : CellName) → results_of s c ≡ None → input_value (input_in s) c ≡ Null → value_in s c ≡ Null
  no_value c r g = ap (λ result. done_value (unwrap_or result (Done (input_value (input_in s) c)))) r ∙ g

  -- where no result stands, the measures are those that the input gives
  pub measures_given : (key measures : Tuple) → ((m : ℕ) → results_of s (cell_name key m) ≡ None) → Some measures ≡ input_in s key → measures_over s count key ≡ measures
  measures_given key measures none e =
      ap (λ o. values_over s key (option_map_or length o count)) (sym e) ∙ sym (fill_by_all (λ m. value_in s (cell_name key m)) measures (length measures) Null refl (λ m l. sym (value m)))
    where
      value : (m : ℕ) → value_in s (cell_name key m) ≡ get_or measures m Null
      value m =
          ap (λ result. done_value (unwrap_or result (Done (input_value (input_in s) (cell_name key m))))) (none m)
          ∙ ap (λ o. option_map_or (λ measures. get_or measures m Null) o Null) (sym e)

  module _ (at : AtMeasures s count) where
    module _ (input_there : (key : Tuple) → is_there (keys_in s) key ≡ false → input_in s key ≡ None)
        (results_there : (c : CellName) → is_there (keys_in s) c.key ≡ false → results_of s c ≡ None) where
      told : (c : CellName) → value_in s c ≡ measure_at (cells_over s count) c
      told c = by (is_there (keys_in s) c.key) refl
        where
          read : Option Tuple → Value
          read found = option_map_or (λ measures. get_or measures c.measure Null) found Null

          within : (b : Bool) → has_measure s count c ≡ b → value_in s c ≡ get_or (measures_over s count c.key) c.measure Null
          within true h = sym (measure_in c h)
          within false h = no_value c (at c h) (nothing_given c h) ∙ sym (measure_past c h)

          by : (b : Bool) → is_there (keys_in s) c.key ≡ b → value_in s c ≡ measure_at (cells_over s count) c
          by true t = within (has_measure s count c) refl ∙ ap read (sym (shown_at (measures_over s count) c.key (keys_in s) t))
          by false t =
              no_value c (results_there c t) (ap (λ given. option_map_or (λ measures. get_or measures c.measure Null) given Null) (input_there c.key t))
              ∙ ap read (sym (none_shown (measures_over s count) c.key (keys_in s) t))

      -- the values of the store are those of the cells
      pub values_told : value_in s ≡ measure_at (cells_over s count)
      values_told = λ i c. told c i

-- cells that ascend, as the measures that are found at their keys
found_later : (e : Tuple × Tuple) (es xs : Cells) → AllByRecursion (λ x. cell_at es x.0 ≡ Some x.1) xs → AllByRecursion (λ y. cmp_key e.0 y ≡ Less) (keys_of xs)
    → AllByRecursion (λ x. cell_at (e ∷ es) x.0 ≡ Some x.1) xs
found_later e es [] a b = tt
found_later e es (x ∷ xs) a b =
    let differs : is_same x.0 e.0 ≡ false = turned x.0 e.0 ∙ ap is_eq b.0 in
    (ap (λ t. cond t (Some e.1) (cell_at es x.0)) differs ∙ a.0, found_later e es xs a.1 b.1)

each_found : (es : Cells) → IsStrictlySortedBy cmp_key (keys_of es) → AllByRecursion (λ x. cell_at es x.0 ≡ Some x.1) es
each_found [] s = tt
each_found (e ∷ es) s =
    (ap (λ r. cond (is_eq r) (Some e.1) (cell_at es e.0)) (key_itself e.0), found_later e es es (each_found es (sorted_tail cmp_key e.0 (keys_of es) s)) (sorted_head cmp_key e.0 (keys_of es) s))

itself : (f : Tuple → Tuple) (all es : Cells) → ((key measures : Tuple) → cell_at all key ≡ Some measures → f key ≡ measures) → AllByRecursion (λ x. cell_at all x.0 ≡ Some x.1) es → pairs f (keys_of es) ≡ es
itself f all [] told a = refl
itself f all (e ∷ es) told a = λ i. (e.0, told e.0 e.1 a.0 i) ∷ itself f all es told a.1 i

-- a store over an input without results shows the cells of the input
pub input_shown : (s : IndexedStore) (count : ℕ) (cells : Cells) → IsStrictlySortedBy cmp_key (keys_of cells) → keys_in s ≡ keys_of cells → input_in s ≡ cell_at cells
    → ((c : CellName) → results_of s c ≡ None) → cells_over s count ≡ cells
input_shown s count cells ascend keys given none =
    ap (pairs (measures_over s count)) keys
    ∙ itself (measures_over s count) cells cells (λ key measures e. measures_given s count key measures (λ m. none (cell_name key m)) (sym e ∙ sym (ap (λ f. f key) given))) (each_found cells ascend)

-- a cell that is new to the store has null in every measure
module _ (s : IndexedStore) (count : ℕ) (key : Tuple) (input_there : is_there (keys_in s) key ≡ false → input_in s key ≡ None)
    (results_there : (m : ℕ) → is_there (keys_in s) key ≡ false → results_of s (cell_name key m) ≡ None) where
  pub fresh_measures : IsFresh count (cells_over s count) key → measures_over s count key ≡ replicate count Null
  fresh_measures fresh = by (is_there (keys_in s) key) refl
    where
      by : (b : Bool) → is_there (keys_in s) key ≡ b → measures_over s count key ≡ replicate count Null
      by true t = subst (λ o. IfSome o (λ measures. measures ≡ replicate count Null)) (shown_at (measures_over s count) key (keys_in s) t) fresh
      by false t =
          let none = input_there t in
          let value : (m : ℕ) → value_in s (cell_name key m) ≡ Null =
          λ m. no_value s count (cell_name key m) (results_there m t) (ap (λ given. option_map_or (λ measures. get_or measures m Null) given Null) none)
          in
          ap (λ o. values_over s key (option_map_or length o count)) none
          ∙ sym (fill_by_all (λ m. value_in s (cell_name key m)) (replicate count Null) count Null (length-replicate count Null) (λ m l. get_or-replicate count m Null Null l ∙ sym (value m)))

-- a store that has one more cell
module _ (s after : IndexedStore) (count : ℕ) (key : Tuple) (keys : keys_in after ≡ with_key (keys_in s) key) (input : input_in after ≡ input_in s) (results : results_of after ≡ results_of s) where
  same_value : value_in after ≡ value_in s
  same_value = λ i c. done_value (unwrap_or (results i c) (Done (input_value (input i) c)))

  same_measures : measures_over after count ≡ measures_over s count
  same_measures = λ i k. map (λ m. same_value i (cell_name k m)) (range_with_len 0 (option_map_or length (input i k) count))

  pub added_shown : IsStrictlySortedBy cmp_key (keys_in s) → measures_over s count key ≡ replicate count Null → cells_over after count ≡ with_cell (cells_over s count) key (replicate count Null)
  added_shown ascend fresh =
      (λ i. pairs (same_measures i) (keys i))
      ∙ sym (with_shown (measures_over s count) (measures_over s count) key (λ k h. refl) (keys_in s) ascend)
      ∙ ap (with_cell (cells_over s count) key) fresh

  pub added_at_measures : AtMeasures s count → AtMeasures after count
  added_at_measures at c h = ap (λ f. f c) results ∙ at c (ap (λ f. nat_lt c.measure (option_map_or length (f c.key) count)) (sym input) ∙ h)

no_and : (b : Bool) → (b && false) ≡ false
no_and true = refl
no_and false = refl

-- a store that has another value at a measure of a cell
module _ (s after : IndexedStore) (count : ℕ) (key : Tuple) (m : ℕ) (v : Value) (keys : keys_in after ≡ keys_in s) (input : input_in after ≡ input_in s)
    (sets : SetsAt s after count (cell_name key m) v) where
  abbrev here : Bool
  here = has_measure s count (cell_name key m)

  abbrev changed : CellName → Bool → Value
  changed c b = done_value (unwrap_or (if b then Some (Done v) else results_of s c) (Done (input_value (input_in s) c)))

  value_after : (c : CellName) → value_in after c ≡ changed c (is_named (cell_name key m) c && here)
  value_after c = λ i. done_value (unwrap_or (sets c i) (Done (input_value (input i) c)))

  other_value : (c : CellName) → (is_named (cell_name key m) c && here) ≡ false → value_in after c ≡ value_in s c
  other_value c h = value_after c ∙ ap (changed c) h

  same_count : (k : Tuple) → measure_count after count k ≡ measure_count s count k
  same_count k = ap (λ f. option_map_or length (f k) count) input

  unchanged : (k : Tuple) → ((j : ℕ) → (is_named (cell_name key m) (cell_name k j) && here) ≡ false) → measures_over after count k ≡ measures_over s count k
  unchanged k h = λ i. map (λ j. other_value (cell_name k j) (h j) i) (range_with_len 0 (same_count k i))

  off : (k : Tuple) → is_same key k ≡ false → measures_over s count k ≡ measures_over after count k
  off k h = sym (unchanged k (λ j. ap (λ b. (b && (m == j)) && here) h))

  own : measures_over after count key ≡ slice_set (measures_over s count key) m v
  own = by here refl
    where
      old : Tuple
      old = measures_over s count key

      n : ℕ
      n = measure_count s count key

      long : length old ≡ n
      long = length-map-range_with_len (λ j. value_in s (cell_name key j)) 0 n

      by : (b : Bool) → here ≡ b → measures_over after count key ≡ slice_set old m v
      by true h =
          ap (λ k. values_over after key k) (same_count key)
          ∙ sym (fill_by_all (λ j. value_in after (cell_name key j)) (slice_set old m v) n Null (length-set old m v ∙ long) each)
        where
          named : (j : ℕ) (b : Bool) → (m == j) ≡ b → (is_named (cell_name key m) (cell_name key j) && here) ≡ b
          named j true e = λ i. (is_eq (key_itself key i) && e i) && h i
          named j false e = ap (λ b. (is_eq (cmp_key key key) && b) && here) e ∙ ap (λ b. b && here) (no_and (is_eq (cmp_key key key)))

          each : (j : ℕ) → j < n → get_or (slice_set old m v) j Null ≡ value_in after (cell_name key j)
          each j l = one (eqb_tells m j)
            where
              one : (((m == j) ≡ true) × (m ≡ j)) ⊎ (((m == j) ≡ false) × (m ≢ j)) → get_or (slice_set old m v) j Null ≡ value_in after (cell_name key j)
              one (inl e) =
                  ap (λ k. get_or (slice_set old m v) k Null) (sym e.1)
                  ∙ get_or-set_same old m v Null (let same = e.1 in omega (arith, long, l, same))
                  ∙ sym (value_after (cell_name key j) ∙ ap (changed (cell_name key j)) (named j true e.0))
              one (inr e) =
                  get_or-set_other old m j v Null (λ same. e.1 (sym same))
                  ∙ get_or-map-range_with_len (λ j. value_in s (cell_name key j)) 0 n j j Null l (omega arith)
                  ∙ sym (other_value (cell_name key j) (named j false e.0))
      by false h =
          unchanged key (λ j. ap (λ b. is_named (cell_name key m) (cell_name key j) && b) h ∙ no_and (is_named (cell_name key m) (cell_name key j)))
          ∙ sym (set_past old m v (let past = not_below m n h in omega (arith, long, past)))

  pub set_shown : IsStrictlySortedBy cmp_key (keys_in s) → is_there (keys_in s) key ≡ true → cells_over after count ≡ assigned (cells_over s count) key m v
  set_shown ascend there =
      let cells = cells_over s count in
      ap (pairs (measures_over after count)) (keys ∙ sym (with_there key (keys_in s) ascend there))
      ∙ sym (with_shown (measures_over s count) (measures_over after count) key off (keys_in s) ascend)
      ∙ ap (with_cell cells key) own
      ∙ sym (ap (λ found. option_map_or (λ measures. with_cell cells key (slice_set measures m v)) found cells) (shown_at (measures_over s count) key (keys_in s) there))

  -- results still stand only at measures that the cells have, and at cells that are marked
  pub set_at_measures : AtMeasures s count → AtMeasures after count
  set_at_measures at c h = by (is_named (cell_name key m) c && here) refl
    where
      lacking : has_measure s count c ≡ false
      lacking = ap (λ n. nat_lt c.measure n) (sym (same_count c.key)) ∙ h

      by : (b : Bool) → (is_named (cell_name key m) c && here) ≡ b → results_of after c ≡ None
      by false e = sets c ∙ ap (λ b. if b then Some (Done v) else results_of s c) e ∙ at c lacking
      by true e = absurd (clash (is_named (cell_name key m) c) refl e)
        where
          clash : (b : Bool) → is_named (cell_name key m) c ≡ b → (b && here) ≡ true → ⊥
          clash false f g = absurd (cc)
          clash true f g =
              let same = same_cell key c.key m c.measure f in
              let there : has_measure s count c ≡ true = (λ i. has_measure s count (cell_name (sym same.0 i) (sym same.1 i))) ∙ g in
              absurd (cc)

  pub set_at_marked : (marked : List Tuple) → AtMarked s marked → AtMarked after (with_key marked key)
  set_at_marked marked at c h = by (is_same c.key key) (is_among marked c.key) refl (sym (among_with c.key key marked) ∙ h) refl
    where
      by : (b d : Bool) → is_same c.key key ≡ b → (b || d) ≡ false → is_among marked c.key ≡ d → results_of after c ≡ None
      by true d e g f = absurd (cc)
      by false true e g f = absurd (cc)
      by false false e g f =
          sets c ∙ ap (λ b. if (b && (m == c.measure)) && here then Some (Done v) else results_of s c) (turned key c.key ∙ e) ∙ at c f

and_true : (b : Bool) → b ≡ (b && true)
and_true true = refl
and_true false = refl

-- what is set, by whether the cell has the measure
pub sets_there : (s after : IndexedStore) (count : ℕ) (name : CellName) (v : Value) → has_measure s count name ≡ true
    → DiffersAt (results_of s) (results_of after) name (Some (Done v)) → SetsAt s after count name v
sets_there s after count name v h differs c =
    let both : is_named name c ≡ (is_named name c && has_measure s count name) = and_true (is_named name c) ∙ ap (λ b. is_named name c && b) (sym h) in
    differs c ∙ ap (λ b. if b then Some (Done v) else results_of s c) both

pub sets_nothing : (s : IndexedStore) (count : ℕ) (name : CellName) (v : Value) → has_measure s count name ≡ false → SetsAt s s count name v
sets_nothing s count name v h c =
    let none : (is_named name c && has_measure s count name) ≡ false = ap (λ b. is_named name c && b) h ∙ no_and (is_named name c) in
    sym (ap (λ b. if b then Some (Done v) else results_of s c) none)
