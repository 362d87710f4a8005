-- Cells with one more, or with another value: their keys, their rows, and what is read of them.
use Rattle.std.proofs.Common.{◌≡◌, ℕ, zero, suc, ◌<◌, Bool, true, false, ◌&&◌, ◌||◌, List, [], ◌∷◌, cond, length, Option, Some, Ordering, Less, Equal, Greater, refl, sym, ap, subst, ◌∙◌, arith, eqb}
use Rattle.std.specs.Prelude.{replicate, slice_index_or, slice_set}
use Rattle.std.specs.BTreeSet.{insert_key}
use Rattle.std.specs.List.Sorted.{IsStrictlySortedBy}
use Rattle.std.specs.Map.{keys_of}
use Rattle.std.specs.Option.{option_map_or}
use Rattle.std.specs.Ordering.{is_eq, match_ordering, ordering_reverse}
use Rattle.std.proofs.lemmas.Bool.{or_left, or_right, eqb-true, eq-eqb}
use Rattle.mq_values.specs.Order.{cmp_key}
use Rattle.mq_values.specs.OrderLaws.{key_total}
use Rattle.mq_values.specs.OrderTells.{key_itself, same_key}
use Rattle.mq_values.specs.declared.value.Value.{Value}
use Rattle.mq_values.specs.declared.value.Value.TheVariants.{Null}
use Rattle.mq_ir.specs.declared.query.CellName.{CellName}
use Rattle.mq_ir.specs.EachLaws.{Each}
use Rattle.mq_ir.specs.Keys.{Tuple, is_among, is_same}
use Rattle.mq_ir.specs.Partitions.{Cells, cell_at, with_cell}
use Rattle.mq_ir.specs.Reads.{measure_at}
use Rattle.mq_ir.specs.Sequential.{assigned, with_created}
use Rattle.mq_ir.specs.Unfolding.{Model}
use Rattle.mq_ir.specs.Versions.{with_keys}
use Rattle.mq_change_laws.specs.AscentLaws.{Below, below_apart, below_through}
use Rattle.mq_change_laws.specs.KeyLaws.{each_map}
use Rattle.mq_change_laws.specs.SoundLaws.{same_is}

-- ---- sets of keys
among_inserted : (k q : Tuple) (ks : List Tuple) → is_among (insert_key cmp_key ks k) q ≡ (is_same q k || is_among ks q)
among_inserted k q [] = refl
among_inserted k q (x ∷ xs) = by (cmp_key k x) refl (among_inserted k q xs)
  where
    again : (a b c : Bool) → a ≡ b → (b || c) ≡ (a || (b || c))
    again true b c e = ap (λ z. z || c) (sym e)
    again false b c e = refl

    swapped : (a b c : Bool) → (a || (b || c)) ≡ (b || (a || c))
    swapped true true c = refl
    swapped true false c = refl
    swapped false true c = refl
    swapped false false c = refl

    by : (r : Ordering) → cmp_key k x ≡ r → is_among (insert_key cmp_key xs k) q ≡ (is_same q k || is_among xs q)
        → is_among (match_ordering r (k ∷ x ∷ xs) (x ∷ xs) (x ∷ insert_key cmp_key xs k)) q
        ≡ (is_same q k || (is_same q x || is_among xs q))
    by Less e h = refl
    by Equal e h = again (is_same q k) (is_same q x) (is_among xs q) (ap (is_same q) (same_key k x e))
    by Greater e h = ap (λ b. is_same q x || b) h ∙ swapped (is_same q x) (is_same q k) (is_among xs q)

-- the keys that were there stay, and those that come are there
pub stays_among : (q : Tuple) (keys set : List Tuple) → is_among set q ≡ true → is_among (with_keys set keys) q ≡ true
stays_among q [] set h = h
stays_among q (k ∷ keys) set h =
    stays_among q keys (insert_key cmp_key set k) (among_inserted k q set ∙ or_right (is_same q k) (is_among set q) h)

pub comes_among : (q : Tuple) (keys set : List Tuple) → is_among keys q ≡ true → is_among (with_keys set keys) q ≡ true
comes_among q [] set h = cc
comes_among q (k ∷ keys) set h = by (is_same q k) refl h (comes_among q keys (insert_key cmp_key set k))
  where
    by : (b : Bool) → is_same q k ≡ b → (b || is_among keys q) ≡ true
        → (is_among keys q ≡ true → is_among (with_keys set (k ∷ keys)) q ≡ true)
        → is_among (with_keys set (k ∷ keys)) q ≡ true
    by true e g rest = stays_among q keys (insert_key cmp_key set k) (among_inserted k q set ∙ or_left (is_same q k) (is_among set q) e)
    by false e g rest = rest g

turned_below : (k x : Tuple) → cmp_key k x ≡ Greater → cmp_key x k ≡ Less
turned_below k x e = key_total.antisymm x k ∙ ap ordering_reverse e

below_inserted : (y k : Tuple) (ks : List Tuple) → cmp_key y k ≡ Less → Below y ks → Below y (insert_key cmp_key ks k)
below_inserted y k [] h b = (h, tt)
below_inserted y k (x ∷ xs) h b = by (cmp_key k x) (below_inserted y k xs h b.1)
  where
    by : (r : Ordering) → Below y (insert_key cmp_key xs k) → Below y (match_ordering r (k ∷ x ∷ xs) (x ∷ xs) (x ∷ insert_key cmp_key xs k))
    by Less r = (h, b)
    by Equal r = b
    by Greater r = (b.0, r)

pub strict_inserted : (k : Tuple) (ks : List Tuple) → IsStrictlySortedBy cmp_key ks → IsStrictlySortedBy cmp_key (insert_key cmp_key ks k)
unfolding IsStrictlySortedBy
strict_inserted k [] s = (tt, tt)
strict_inserted k (x ∷ xs) s = by (cmp_key k x) refl (strict_inserted k xs s.1)
  where
    by : (r : Ordering) → cmp_key k x ≡ r → IsStrictlySortedBy cmp_key (insert_key cmp_key xs k)
        → IsStrictlySortedBy cmp_key (match_ordering r (k ∷ x ∷ xs) (x ∷ xs) (x ∷ insert_key cmp_key xs k))
    by Less e r = ((e, below_through k x xs e s.0), s)
    by Equal e r = s
    by Greater e r = (below_inserted x k xs (turned_below k x e) s.0, r)

pub strict_with : (keys set : List Tuple) → IsStrictlySortedBy cmp_key set → IsStrictlySortedBy cmp_key (with_keys set keys)
strict_with [] set s = s
strict_with (k ∷ keys) set s = strict_with keys (insert_key cmp_key set k) (strict_inserted k set s)

-- a key that is there leaves keys that ascend as they are
there_already : (k : Tuple) (ks : List Tuple) → IsStrictlySortedBy cmp_key ks → is_among ks k ≡ true → insert_key cmp_key ks k ≡ ks
unfolding IsStrictlySortedBy
there_already k [] s h = cc
there_already k (x ∷ xs) s h = by (cmp_key k x) refl h (there_already k xs s.1)
  where
    by : (r : Ordering) → cmp_key k x ≡ r → (is_eq r || is_among xs k) ≡ true → (is_among xs k ≡ true → insert_key cmp_key xs k ≡ xs)
        → match_ordering r (k ∷ x ∷ xs) (x ∷ xs) (x ∷ insert_key cmp_key xs k) ≡ x ∷ xs
    by Less e g rest = let z : true ≡ false = sym g ∙ below_apart k xs (below_through k x xs e s.0) in cc
    by Equal e g rest = refl
    by Greater e g rest = ap (λ l. x ∷ l) (rest g)

-- ---- cells with a row at a key
module _ (key row : Tuple) where
  pub keys_with : (cells : Cells) → keys_of (with_cell cells key row) ≡ insert_key cmp_key (keys_of cells) key
  keys_with [] = refl
  keys_with (e ∷ es) = by (cmp_key key e.0) (keys_with es)
    where
      by : (r : Ordering) → keys_of (with_cell es key row) ≡ insert_key cmp_key (keys_of es) key
          → keys_of (match_ordering r ((key, row) ∷ e ∷ es) ((e.0, row) ∷ es) (e ∷ with_cell es key row))
          ≡ match_ordering r (key ∷ e.0 ∷ keys_of es) (e.0 ∷ keys_of es) (e.0 ∷ insert_key cmp_key (keys_of es) key)
      by Less h = refl
      by Equal h = refl
      by Greater h = ap (λ l. e.0 ∷ l) h

  found_with : (q : Tuple) (cells : Cells) → cell_at (with_cell cells key row) q ≡ cond (is_same q key) (Some row) (cell_at cells q)
  found_with q [] = refl
  found_with q (e ∷ es) = by (cmp_key key e.0) refl (found_with q es)
    where
      rest : Option Tuple
      rest = cell_at es q

      again : (a b : Bool) → a ≡ b → cond a (Some row) rest ≡ cond b (Some row) (cond a (Some e.1) rest)
      again true true h = refl
      again true false h = cc
      again false true h = cc
      again false false h = refl

      apart : (a b : Bool) → is_same q e.0 ≡ a → is_same q key ≡ b → cmp_key key e.0 ≡ Greater
          → cond a (Some e.1) (cond b (Some row) rest) ≡ cond b (Some row) (cond a (Some e.1) rest)
      apart true true f g h =
          let one : e.0 ≡ key = sym (same_is q e.0 f) ∙ same_is q key g in
          let is : Equal ≡ Greater = sym (key_itself key) ∙ ap (cmp_key key) (sym one) ∙ h in
          cc
      apart true false f g h = refl
      apart false true f g h = refl
      apart false false f g h = refl

      by : (r : Ordering) → cmp_key key e.0 ≡ r → cell_at (with_cell es key row) q ≡ cond (is_same q key) (Some row) rest
          → cell_at (match_ordering r ((key, row) ∷ e ∷ es) ((e.0, row) ∷ es) (e ∷ with_cell es key row)) q
          ≡ cond (is_same q key) (Some row) (cond (is_same q e.0) (Some e.1) rest)
      by Less f h = refl
      by Equal f h = again (is_same q e.0) (is_same q key) (ap (is_same q) (sym (same_key key e.0 f)))
      by Greater f h =
          ap (λ o. cond (is_same q e.0) (Some e.1) o) h ∙ apart (is_same q e.0) (is_same q key) refl refl f

  measure_with : (cells : Cells) (c : CellName)
      → measure_at (with_cell cells key row) c ≡ cond (is_same c.key key) (slice_index_or row c.measure Null) (measure_at cells c)
  measure_with cells c =
      ap (λ o. option_map_or (λ measures. slice_index_or measures c.measure Null) o Null) (found_with c.key cells) ∙ pushed (is_same c.key key)
    where
      pushed : (b : Bool)
          → option_map_or (λ measures. slice_index_or measures c.measure Null) (cond b (Some row) (cell_at cells c.key)) Null
          ≡ cond b (slice_index_or row c.measure Null) (measure_at cells c)
      pushed true = refl
      pushed false = refl

  pub rows_with : (n : ℕ) → length row ≡ n → (cells : Cells) → Each (λ cell. length cell.1 ≡ n) cells
      → Each (λ cell. length cell.1 ≡ n) (with_cell cells key row)
  rows_with n h [] a = (h, tt)
  rows_with n h (e ∷ es) a = by (cmp_key key e.0) (rows_with n h es a.1)
    where
      by : (r : Ordering) → Each (λ cell. length cell.1 ≡ n) (with_cell es key row)
          → Each (λ cell. length cell.1 ≡ n) (match_ordering r ((key, row) ∷ e ∷ es) ((e.0, row) ∷ es) (e ∷ with_cell es key row))
      by Less r = (h, a)
      by Equal r = (h, a.1)
      by Greater r = (a.0, r)

-- ---- an assigned measure
row_same : (row : Tuple) (m : ℕ) (v : Value) → m < length row → slice_index_or (slice_set row m v) m Null ≡ v
row_same [] m v h = absurd (omega (arith, h))
row_same (x ∷ xs) zero v h = refl
row_same (x ∷ xs) (suc m) v h = row_same xs m v (omega (arith, h))

row_other : (row : Tuple) (m i : ℕ) (v : Value) → (i ≡ m → true ≡ false)
    → slice_index_or (slice_set row m v) i Null ≡ slice_index_or row i Null
row_other [] m i v h = refl
row_other (x ∷ xs) zero zero v h = let e = h refl in cc
row_other (x ∷ xs) zero (suc i) v h = refl
row_other (x ∷ xs) (suc m) zero v h = refl
row_other (x ∷ xs) (suc m) (suc i) v h = row_other xs m i v (λ e. h (ap suc e))

row_read : (row : Tuple) (m i : ℕ) (v : Value) → m < length row
    → slice_index_or (slice_set row m v) i Null ≡ cond (eqb i m) v (slice_index_or row i Null)
row_read row m i v h = by (eqb i m) refl
  where
    by : (b : Bool) → eqb i m ≡ b → slice_index_or (slice_set row m v) i Null ≡ cond b v (slice_index_or row i Null)
    by true e = ap (λ k. slice_index_or (slice_set row m v) k Null) (eqb-true i m e) ∙ row_same row m v h
    by false e = row_other row m i v (λ is. sym (eq-eqb i m is) ∙ e)

row_length : (row : Tuple) (m : ℕ) (v : Value) → length (slice_set row m v) ≡ length row
row_length [] m v = refl
row_length (x ∷ xs) zero v = refl
row_length (x ∷ xs) (suc m) v = ap suc (row_length xs m v)

-- the row of a cell that is there
pub record HasRow (n : ℕ) (cells : Cells) (key : Tuple) : Type 0 where
  pub row : Tuple
  pub is : cell_at cells key ≡ Some row
  pub long : length row ≡ n

pub has_row : (n : ℕ) (cells : Cells) (key : Tuple) → Each (λ cell. length cell.1 ≡ n) cells → is_among (keys_of cells) key ≡ true
    → HasRow n cells key
has_row n [] key a h = cc
has_row n (e ∷ es) key a h = by (is_same key e.0) refl h (has_row n es key a.1)
  where
    by : (b : Bool) → is_same key e.0 ≡ b → (b || is_among (keys_of es) key) ≡ true
        → (is_among (keys_of es) key ≡ true → HasRow n es key) → HasRow n (e ∷ es) key
    by true f g rest = record { row = e.1; is = ap (λ b. cond b (Some e.1) (cell_at es key)) f; long = a.0 }
    by false f g rest =
        let r = rest g in
        record { row = r.row; is = ap (λ b. cond b (Some e.1) (cell_at es key)) f ∙ r.is; long = r.long }

module _ (n : ℕ) (cells : Cells) (key : Tuple) (m : ℕ) (v : Value) (has : HasRow n cells key) where
  put : assigned cells key m v ≡ with_cell cells key (slice_set has.row m v)
  put = ap (λ o. option_map_or (λ measures. with_cell cells key (slice_set measures m v)) o cells) has.is

  pub keys_assigned : IsStrictlySortedBy cmp_key (keys_of cells) → is_among (keys_of cells) key ≡ true
      → keys_of (assigned cells key m v) ≡ keys_of cells
  keys_assigned s h = ap keys_of put ∙ keys_with key (slice_set has.row m v) cells ∙ there_already key (keys_of cells) s h

  pub rows_assigned : Each (λ cell. length cell.1 ≡ n) cells → Each (λ cell. length cell.1 ≡ n) (assigned cells key m v)
  rows_assigned a =
      subst (Each (λ cell. length cell.1 ≡ n)) (sym put)
      (rows_with key (slice_set has.row m v) n (row_length has.row m v ∙ has.long) cells a)

  pub measure_assigned : m < n → (c : CellName)
      → measure_at (assigned cells key m v) c ≡ cond (is_same c.key key && eqb c.measure m) v (measure_at cells c)
  measure_assigned h c = ap (λ cs. measure_at cs c) put ∙ measure_with key (slice_set has.row m v) cells c ∙ by (is_same c.key key) refl
    where
      within : m < length has.row
      within = let e = has.long in omega (arith, h, e)

      by : (b : Bool) → is_same c.key key ≡ b
          → cond b (slice_index_or (slice_set has.row m v) c.measure Null) (measure_at cells c)
          ≡ cond (b && eqb c.measure m) v (measure_at cells c)
      by true e =
          let was : measure_at cells c ≡ slice_index_or has.row c.measure Null =
          ap (λ o. option_map_or (λ measures. slice_index_or measures c.measure Null) o Null) (ap (cell_at cells) (same_is c.key key e) ∙ has.is) in
          row_read has.row m c.measure v within ∙ ap (cond (eqb c.measure m) v) (sym was)
      by false e = refl

-- ---- created cells
no_values : (n i : ℕ) → slice_index_or (replicate n Null) i Null ≡ Null
no_values zero i = refl
no_values (suc n) zero = refl
no_values (suc n) (suc i) = no_values n i

pub nulls_long : (n : ℕ) → length (replicate n Null) ≡ n
nulls_long zero = refl
nulls_long (suc n) = ap suc (nulls_long n)

-- nothing but null stands at a key
abbrev Empty : Cells → Tuple → Type 0
Empty cells key = (m : ℕ) → measure_at cells (record { key = key; measure = m }) ≡ Null

pub empty_where_absent : (cells : Cells) (key : Tuple) → is_among (keys_of cells) key ≡ false → Empty cells key
empty_where_absent [] key h m = refl
empty_where_absent (e ∷ es) key h m = by (is_same key e.0) refl h (λ g. empty_where_absent es key g m)
  where
    by : (b : Bool) → is_same key e.0 ≡ b → (b || is_among (keys_of es) key) ≡ false
        → (is_among (keys_of es) key ≡ false → measure_at es (record { key = key; measure = m }) ≡ Null)
        → measure_at (e ∷ es) (record { key = key; measure = m }) ≡ Null
    by true f g rest = cc
    by false f g rest =
        ap (λ b. option_map_or (λ measures. slice_index_or measures m Null) (cond b (Some e.1) (cell_at es key)) Null) f ∙ rest g

empty_with : (n : ℕ) (cells : Cells) (key : Tuple) → Empty cells key → (c : CellName)
    → measure_at (with_cell cells key (replicate n Null)) c ≡ measure_at cells c
empty_with n cells key empty c = measure_with key (replicate n Null) cells c ∙ by (is_same c.key key) refl
  where
    by : (b : Bool) → is_same c.key key ≡ b
        → cond b (slice_index_or (replicate n Null) c.measure Null) (measure_at cells c) ≡ measure_at cells c
    by true e =
        no_values n c.measure
        ∙ sym (ap (λ k. measure_at cells (record { key = k; measure = c.measure })) (same_is c.key key e) ∙ empty c.measure)
    by false e = refl

module _ (model : Model) where
  abbrev nulls : Tuple
  nulls = replicate (length model.part.measures) Null

  pub keys_created : (keys : List Tuple) (cells : Cells) → keys_of (with_created model cells keys) ≡ with_keys (keys_of cells) keys
  keys_created [] cells = refl
  keys_created (k ∷ ks) cells = keys_created ks (with_cell cells k nulls) ∙ ap (λ set. with_keys set ks) (keys_with k nulls cells)

  pub rows_created : (keys : List Tuple) (cells : Cells) → Each (λ cell. length cell.1 ≡ length model.part.measures) cells
      → Each (λ cell. length cell.1 ≡ length model.part.measures) (with_created model cells keys)
  rows_created [] cells a = a
  rows_created (k ∷ ks) cells a =
      rows_created ks (with_cell cells k nulls) (rows_with k nulls (length model.part.measures) (nulls_long (length model.part.measures)) cells a)

  pub measures_created : (keys : List Tuple) (cells : Cells) → Each (Empty cells) keys → (c : CellName)
      → measure_at (with_created model cells keys) c ≡ measure_at cells c
  measures_created [] cells a c = refl
  measures_created (k ∷ ks) cells a c =
      let same = empty_with (length model.part.measures) cells k a.0 in
      measures_created ks (with_cell cells k nulls)
      (each_map (Empty cells) (Empty (with_cell cells k nulls)) (λ q e m. same (record { key = q; measure = m }) ∙ e m) ks a.1) c
      ∙ same c
