-- The cells of an input by their numbers.
use Rattle.std.proofs.Common.{◌≡◌, ℕ, zero, suc, ◌+◌, ◌<◌, ◌≤◌, ◌==◌, Bool, true, false, cond, List, [], ◌∷◌, ◌++◌, map, length, get_or, take, Option, Some, None, is_some, Ordering, Less, Equal, Greater, if◌then◌else◌, refl, sym, ap, ◌∙◌, arith}
use Rattle.std.specs.BTreeSet.{insert_key}
use Rattle.std.specs.Cmp.{eq_by_cmp_equiv, unsigned_Decides}
use Rattle.std.specs.List.{AllByRecursion, filter, position_from}
use Rattle.std.specs.List.Sorted.{IsStrictlySortedBy}
use Rattle.std.specs.Map.{keys_of, lookup}
use Rattle.std.specs.Option.{option_and_then, option_or}
use Rattle.std.specs.Prelude.{slice_index_or}
use Rattle.std.specs.Ordering.{match_ordering}
use Rattle.std.proofs.lemmas.Iterator.Adapters.{position_from-zero}
use Rattle.mq_values.specs.Order.{cmp_key}
use Rattle.mq_values.specs.OrderLaws.{key_total}
use Rattle.mq_values.specs.OrderTells.{key_itself}
use Rattle.mq_ir.specs.Keys.{Tuple, is_same}
use Rattle.mq_ir.specs.Partitions.{Cells, cell_at}
use Rattle.mq_cells.specs.Ascents.{CellsAscend}
use Rattle.mq_cells.specs.IndexedStores.{IsFree, given_by, input_over}
use Rattle.mq_cells.specs.LaneItems.{PlaceDiffers}
use Rattle.mq_cells.specs.Numberings.{AreNumbered, Grows, Numbering, number_of}
use Rattle.mq_cells.proofs.KeyLemmas.{same_tuple}
use Rattle.mq_cells.proofs.IndexLemmas.{same_input, tells}
use Rattle.mq_cells.proofs.NumberLemmas.{in_order, number_is_place}
use Rattle.mq_cells.proofs.SearchLemmas.{first_cell}

-- nothing else counts where there is nothing
or_none : {X : Type 0} (x : Option X) → x ≡ option_or x None
or_none None = refl
or_none (Some x) = refl

-- measures at a cell that may have come
module _ (before after : Numbering) (given : List (Option Tuple)) (key measures : Tuple) (number : ℕ) (grows : Grows before after) (told : AreNumbered after) (own : number_of after key ≡ Some number)
    (free : IsFree before given) where
  old : (q : Tuple) → input_over after given q ≡ input_over before given q
  old q = ap (λ f. f q) (same_input before after grows given free)

  abbrev with_these : Tuple → Option Tuple
  with_these q = option_or (input_over before given q) (if is_same key q then Some measures else None)

  -- it had none
  pub given_now : (changed : List (Option Tuple)) → slice_index_or given number None ≡ None → PlaceDiffers given changed number (Some measures) → (q : Tuple) → input_over after changed q ≡ with_these q
  given_now changed none differs q = by (number_of after q) (is_same key q) refl refl ∙ ap (λ x. option_or x (if is_same key q then Some measures else None)) (old q)
    where
      by : (o : Option ℕ) (b : Bool) → number_of after q ≡ o → is_same key q ≡ b → given_by changed o ≡ option_or (given_by given o) (if b then Some measures else None)
      by None true found e = let f : None ≡ Some number = sym found ∙ ap (number_of after) (sym (same_tuple key q e)) ∙ own in absurd cc
      by None false found e = refl
      by (Some n) true found e =
          let same = tells after told key 0 number own q n true found e in
          differs n ∙ ap (λ b. if b then Some measures else slice_index_or given n None) same
          ∙ ap (λ x. option_or x (Some measures)) (sym (ap (λ (m : ℕ). slice_index_or given m None) (sym ((unsigned_Decides number n).0 same)) ∙ none))
      by (Some n) false found e =
          differs n ∙ ap (λ b. if b then Some measures else slice_index_or given n None) (tells after told key 0 number own q n false found e) ∙ or_none (slice_index_or given n None)

  -- it had some
  pub given_before : (x : Tuple) → slice_index_or given number None ≡ Some x → (q : Tuple) → input_over after given q ≡ with_these q
  given_before x some q = by (is_same key q) refl ∙ ap (λ o. option_or o (if is_same key q then Some measures else None)) (old q)
    where
      by : (b : Bool) → is_same key q ≡ b → input_over after given q ≡ option_or (input_over after given q) (if b then Some measures else None)
      by true e =
          let f : input_over after given q ≡ Some x = ap (given_by given) (ap (number_of after) (sym (same_tuple key q e)) ∙ own) ∙ some in
          f ∙ ap (λ o. option_or o (Some measures)) (sym f)
      by false e = or_none (input_over after given q)

  pub free_now : (changed : List (Option Tuple)) → PlaceDiffers given changed number (Some measures) → IsFree after changed
  free_now changed differs n l =
      let g = grows.further in
      differs n ∙ ap (λ b. if b then Some measures else slice_index_or given n None) (apart (number == n) refl) ∙ free n (omega (arith, g, l))
    where
      apart : (b : Bool) → (number == n) ≡ b → b ≡ false
      apart true e = let f : number ≡ n = (unsigned_Decides number n).0 e in let low = told.below key number own in absurd (omega (arith, f, l, low))
      apart false e = refl

-- one cell more behind others
pub cell_behind : (cells : Cells) (key measures q : Tuple) → cell_at (cells ++ (key, measures) ∷ []) q ≡ option_or (cell_at cells q) (if is_same key q then Some measures else None)
cell_behind [] key measures q = ap (λ b. cond b (Some measures) None) ((eq_by_cmp_equiv key_total).symm q key)
cell_behind (e ∷ cells) key measures q = by (is_same q e.0) (cell_behind cells key measures q)
  where
    by : (b : Bool) → cell_at (cells ++ (key, measures) ∷ []) q ≡ option_or (cell_at cells q) (if is_same key q then Some measures else None)
        → cond b (Some e.1) (cell_at (cells ++ (key, measures) ∷ []) q) ≡ option_or (cond b (Some e.1) (cell_at cells q)) (if is_same key q then Some measures else None)
    by true rest = refl
    by false rest = rest

-- cells that ascend by their keys have keys that ascend
all_keys : (P : Tuple → Type 0) (cells : Cells) → AllByRecursion (λ e. P e.0) cells → AllByRecursion P (keys_of cells)
all_keys P [] h = tt
all_keys P (e ∷ cells) h = (h.0, all_keys P cells h.1)

all_cells : (P : Tuple → Type 0) (cells : Cells) → AllByRecursion P (keys_of cells) → AllByRecursion (λ e. P e.0) cells
all_cells P [] h = tt
all_cells P (e ∷ cells) h = (h.0, all_cells P cells h.1)

pub keys_ascend : (cells : Cells) → CellsAscend cells → IsStrictlySortedBy cmp_key (keys_of cells)
unfolding IsStrictlySortedBy
keys_ascend [] s = tt
keys_ascend (e ∷ cells) s = (all_keys (λ k. cmp_key e.0 k ≡ Less) cells s.0, keys_ascend cells s.1)

pub cells_ascend : (cells : Cells) → IsStrictlySortedBy cmp_key (keys_of cells) → CellsAscend cells
unfolding IsStrictlySortedBy
cells_ascend [] s = tt
cells_ascend (e ∷ cells) s = (all_cells (λ k. cmp_key e.0 k ≡ Less) cells s.0, cells_ascend cells s.1)

abbrev pub measures_of : Cells → List (Option Tuple)
measures_of cells = map (λ e. Some e.1) cells

-- cells that are numbered in their order
walked : (test : Tuple → Bool) (f : ℕ → Option Tuple) (n : ℕ) (cells : Cells) → ((i : ℕ) → f (n + i) ≡ slice_index_or (measures_of cells) i None)
    → option_and_then f (position_from test n (keys_of cells)) ≡ lookup test cells
walked test f n [] h = refl
walked test f n (e ∷ cells) h = by (test e.0) (walked test f (n + 1) cells (λ i. let s : n + 1 + i ≡ n + suc i = omega arith in ap f s ∙ h (suc i)))
  where
    first : f n ≡ Some e.1
    first = let s : n ≡ n + 0 = omega arith in ap f s ∙ h 0

    by : (b : Bool) → option_and_then f (position_from test (n + 1) (keys_of cells)) ≡ lookup test cells
        → option_and_then f (cond b (Some n) (position_from test (n + 1) (keys_of cells))) ≡ cond b (Some e.1) (lookup test cells)
    by true rest = first
    by false rest = rest

pub ordered_input : (cells : Cells) → input_over (in_order (keys_of cells)) (measures_of cells) ≡ cell_at cells
ordered_input cells = λ i key. at key i
  where
    at : (key : Tuple) → input_over (in_order (keys_of cells)) (measures_of cells) key ≡ cell_at cells key
    at key =
        ap (given_by (measures_of cells)) (number_is_place (keys_of cells) key _ refl ∙ position_from-zero (is_same key) (keys_of cells))
        ∙ walked (is_same key) (λ n. slice_index_or (measures_of cells) n None) 0 cells (λ i. let s : 0 + i ≡ i = omega arith in ap (λ (n : ℕ). slice_index_or (measures_of cells) n None) s)

past_end : {X : Type 0} (xs : List X) (n : ℕ) (d : X) → length xs ≤ n → slice_index_or xs n d ≡ d
past_end [] n d l = refl
past_end (x ∷ xs) zero d l = absurd (omega (arith, l))
past_end (x ∷ xs) (suc n) d l = past_end xs n d (omega (arith, l))

pub ordered_free : (cells : Cells) (numbering : Numbering) → length numbering.numbers ≡ length cells → IsFree numbering (measures_of cells)
ordered_free cells numbering long n l = past_end (measures_of cells) n None (let m : length (measures_of cells) ≡ length cells = mapped cells in omega (arith, long, l, m))
  where
    mapped : (es : Cells) → length (measures_of es) ≡ length es
    mapped [] = refl
    mapped (e ∷ es) = let r = mapped es in omega (arith, r)

-- the keys of an input are those that have one
all_pass : (test : Tuple → Bool) (keys : List Tuple) → ((at : ℕ) (d : Tuple) → at < length keys → test (get_or keys at d) ≡ true) → filter test keys ≡ keys
all_pass test [] h = refl
all_pass test (k ∷ keys) h = ap (λ b. cond b (k ∷ filter test keys) (filter test keys)) (h 0 k (omega arith)) ∙ ap (λ ks. k ∷ ks) (all_pass test keys (λ at d l. h (suc at) d (omega (arith, l))))

key_there : (cells : Cells) (at : ℕ) (d : Tuple) → at < length (keys_of cells) → (at < length cells) × (get_or (keys_of cells) at d ≡ (get_or cells at (d, d)).0)
key_there [] at d l = absurd (omega (arith, l))
key_there (e ∷ cells) zero d l = (omega arith, refl)
key_there (e ∷ cells) (suc at) d l = let r = key_there cells at d (omega (arith, l)) in let b = r.0 in (omega (arith, b), r.1)

pub whole_base : (cells : Cells) → CellsAscend cells → filter (λ key. is_some (cell_at cells key)) (keys_of cells) ≡ keys_of cells
whole_base cells s = all_pass (λ key. is_some (cell_at cells key)) (keys_of cells) (λ at d l. there at d (key_there cells at d l))
  where
    there : (at : ℕ) (d : Tuple) → (at < length cells) × (get_or (keys_of cells) at d ≡ (get_or cells at (d, d)).0) → is_some (cell_at cells (get_or (keys_of cells) at d)) ≡ true
    there at d r =
        ap (λ k. is_some (cell_at cells k)) r.1
        ∙ ap is_some (first_cell (get_or cells at (d, d)).0 cells at (d, d) s r.0 (key_itself (get_or cells at (d, d)).0))

-- a key that does not pass is no matter
pub passed_by : (test : Tuple → Bool) (key : Tuple) (keys : List Tuple) → test key ≡ false → filter test (insert_key cmp_key keys key) ≡ filter test keys
passed_by test key [] h = ap (λ b. cond b (key ∷ []) []) h
passed_by test key (k ∷ keys) h = by (cmp_key key k) (passed_by test key keys h)
  where
    by : (r : Ordering) → filter test (insert_key cmp_key keys key) ≡ filter test keys → filter test (match_ordering r (key ∷ k ∷ keys) (k ∷ keys) (k ∷ insert_key cmp_key keys key)) ≡ filter test (k ∷ keys)
    by Less rest = ap (λ b. cond b (key ∷ filter test (k ∷ keys)) (filter test (k ∷ keys))) h
    by Equal rest = refl
    by Greater rest = ap (λ l. cond (test k) (k ∷ l) l) rest

pub take_whole : {X : Type 0} (xs : List X) (n : ℕ) → length xs ≤ n → take n xs ≡ xs
take_whole [] zero l = refl
take_whole [] (suc n) l = refl
take_whole (x ∷ xs) zero l = absurd (omega (arith, l))
take_whole (x ∷ xs) (suc n) l = ap (λ r. x ∷ r) (take_whole xs n (omega (arith, l)))

pub none_ascend : IsStrictlySortedBy cmp_key []
unfolding IsStrictlySortedBy
none_ascend = tt

-- a key without input is none of the keys of the input
pub base_with : (before after : Numbering) (given : List (Option Tuple)) (key : Tuple) → (is_some (number_of before key) ≡ true → after ≡ before) → after.keys ≡ insert_key cmp_key before.keys key
    → filter (λ k. is_some (input_over before given k)) after.keys ≡ filter (λ k. is_some (input_over before given k)) before.keys
base_with before after given key there keys = by (number_of before key) refl
  where
    test : Tuple → Bool
    test k = is_some (input_over before given k)

    by : (o : Option ℕ) → number_of before key ≡ o → filter test after.keys ≡ filter test before.keys
    by None e = ap (filter test) keys ∙ passed_by test key before.keys (ap (λ o. is_some (given_by given o)) e)
    by (Some n) e = ap (λ (s : Numbering). filter test s.keys) (there (ap is_some e))
