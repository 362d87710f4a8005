-- Cells that are created, and targets that are there then.
use Rattle.std.proofs.Common.{◌≡◌, ℕ, List, [], ◌∷◌, Bool, true, false, not, ◌||◌, cond, get_or, replicate, Option, Some, None, refl, sym, ap, subst, ◌∙◌}
use Rattle.std.specs.Prelude.{if◌then◌else◌, slice_set, IfSome}
use Rattle.std.specs.List.{All, filter, fold}
use Rattle.std.specs.List.Sorted.{IsStrictlySortedBy}
use Rattle.std.specs.Option.{option_map_or}
use Rattle.std.specs.Map.{keys_of}
use Rattle.std.specs.Ordering.{is_eq}
use Rattle.std.proofs.lemmas.Map.Keys.{any_passes_from_place}
use Rattle.std.proofs.lemmas.Option.{slice_get-get_or}
use Rattle.mq_values.specs.KeySetLaws.{among_with}
use Rattle.mq_values.specs.Order.{cmp_key}
use Rattle.mq_values.specs.OrderTells.{key_itself}
use Rattle.mq_values.specs.declared.value.Value.{Value}
use Rattle.mq_values.specs.declared.value.Value.TheVariants.{Null}
use Rattle.mq_ir.specs.EachLaws.{Each, all_of}
use Rattle.mq_ir.specs.Keys.{Tuple, is_among, is_same}
use Rattle.mq_ir.specs.Partitions.{Cells, cell_at, with_cell}
use Rattle.mq_ir.specs.Sequential.{assigned}
use Rattle.mq_dim_index.specs.Places.{is_there, place_of}
use Rattle.mq_seq.specs.Marks.{IsFresh}
use Rattle.mq_seq.specs.Steps.{State, created_in}
use Rattle.mq_seq.specs.Tracks.{Firsts, Track, assign, create, noted_if_any, put}
use Rattle.mq_seq.proofs.NoteLemmas.{found_with, is_equal}
use Rattle.mq_seq.proofs.PlaceLemmas.{keys_with, stands, with_there}

abbrev pub created_one : State → Tuple → State
created_one s key = created_in (key ∷ []) s

-- cells that are created one by one
pub created_all : (s : State) (created : List Tuple) → fold created_one s created ≡ created_in created s
created_all s [] = refl
created_all s (key ∷ created) = created_all (created_one s key) created

-- where no cell is there, null stands in every measure once it is
pub fresh_none : (count : ℕ) (cells : Cells) (key : Tuple) → cell_at cells key ≡ None → IsFresh count cells key
fresh_none count cells key e = subst (λ o. IfSome o (λ measures. measures ≡ replicate count Null)) (sym e) tt

pub fresh_next : (count : ℕ) (cells : Cells) (key k : Tuple) → IsFresh count cells k → IsFresh count (with_cell cells key (replicate count Null)) k
fresh_next count cells key k fresh = subst (λ o. IfSome o (λ measures. measures ≡ replicate count Null)) (sym (found_with key (replicate count Null) k cells)) (by (is_same key k))
  where
    by : (b : Bool) → IfSome (if b then Some (replicate count Null) else cell_at cells k) (λ measures. measures ≡ replicate count Null)
    by true = refl
    by false = fresh

-- a key that is not there has no cell
pub lacking_cell : (cells : Cells) (key : Tuple) → is_there (keys_of cells) key ≡ false → cell_at cells key ≡ None
lacking_cell [] key h = refl
lacking_cell (e ∷ es) key h = by (is_same key e.0) h (lacking_cell es key)
  where
    by : (b : Bool) → (b || is_there (keys_of es) key) ≡ false → (is_there (keys_of es) key ≡ false → cell_at es key ≡ None) → cond b (Some e.1) (cell_at es key) ≡ None
    by true g rest = absurd (cc)
    by false g rest = rest g

moved : (a b c : Bool) → (a || (b || c)) ≡ ((b || a) || c)
moved true true c = refl
moved true false c = refl
moved false true c = refl
moved false false c = refl

-- the keys that are there once some are created
among_created : (count : ℕ) (t : Track) (created : List Tuple) (q : Tuple) → is_among (keys_of (create count t created).cells) q ≡ (is_among created q || is_among (keys_of t.cells) q)
among_created count t [] q = refl
among_created count t (key ∷ created) q =
    among_created count (put t key (replicate count Null)) created q
    ∙ ap (λ keys. is_among created q || is_among keys q) (keys_with t.cells key (replicate count Null))
    ∙ ap (λ b. is_among created q || b) (among_with q key (keys_of t.cells))
    ∙ moved (is_among created q) (is_same q key) (is_among (keys_of t.cells) q)

among_kept : (p : Tuple → Bool) (q : Tuple) (xs : List Tuple) → p q ≡ true → is_among (filter p xs) q ≡ is_among xs q
among_kept p q [] h = refl
among_kept p q (x ∷ xs) h = by (p x) refl (is_same q x) refl (among_kept p q xs h)
  where
    by : (b : Bool) → p x ≡ b → (d : Bool) → is_same q x ≡ d → is_among (filter p xs) q ≡ is_among xs q → is_among (cond b (x ∷ filter p xs) (filter p xs)) q ≡ (is_same q x || is_among xs q)
    by true e d f rest = ap (λ b. is_same q x || b) rest
    by false e true f rest = let g : p q ≡ p x = ap p (is_equal q x f) in absurd (cc)
    by false e false f rest = rest ∙ ap (λ b. b || is_among xs q) (sym f)

-- the targets, once those that were not there are created
module _ (s : State) (cells : List Tuple) where
  abbrev set : List Tuple
  set = keys_of s.track.cells

  abbrev created : List Tuple
  created = filter (λ key. not (is_among set key)) cells

  there_then : (q : Tuple) → is_among cells q ≡ true → is_among (keys_of (created_in created s).track.cells) q ≡ true
  there_then q h = among_created s.count s.track created q ∙ by (is_among set q) refl
    where
      by : (b : Bool) → is_among set q ≡ b → (is_among created q || b) ≡ true
      by true e = either (is_among created q)
        where
          either : (a : Bool) → (a || true) ≡ true
          either true = refl
          either false = refl
      by false e = ap (λ a. a || false) (among_kept (λ key. not (is_among set key)) q cells (ap not e) ∙ h)

  pub all_there : All (λ target. is_there (keys_of (created_in created s).track.cells) target ≡ true) cells
  all_there = λ k d l.
      let q = get_or cells k d in
      there_then q (any_passes_from_place (is_same q) cells k q (slice_get-get_or cells k d l) (ap is_eq (key_itself q)))

  lacking_each : (xs : List Tuple) → Each (λ key. is_there set key ≡ false) (filter (λ key. not (is_among set key)) xs)
  lacking_each [] = tt
  lacking_each (x ∷ xs) = by (is_among set x) refl (lacking_each xs)
    where
      by : (b : Bool) → is_among set x ≡ b → Each (λ key. is_there set key ≡ false) (filter (λ key. not (is_among set key)) xs)
          → Each (λ key. is_there set key ≡ false) (cond (not b) (x ∷ filter (λ key. not (is_among set key)) xs) (filter (λ key. not (is_among set key)) xs))
      by true e rest = rest
      by false e rest = (e, rest)

  pub created_lacking : All (λ key. is_there set key ≡ false) created
  created_lacking = all_of (λ key. is_there set key ≡ false) created (lacking_each cells)

-- where a key stands, there is a cell
no_cell : (cells : Cells) (key : Tuple) → cell_at cells key ≡ None → is_there (keys_of cells) key ≡ false
no_cell [] key h = refl
no_cell (e ∷ es) key h = by (is_same key e.0) h (no_cell es key)
  where
    by : (b : Bool) → cond b (Some e.1) (cell_at es key) ≡ None → (cell_at es key ≡ None → is_there (keys_of es) key ≡ false) → (b || is_there (keys_of es) key) ≡ false
    by true g rest = absurd (cc)
    by false g rest = rest g

abbrev the_track : Cells → Option Firsts → Track
the_track cells firsts = record { cells = cells; firsts = firsts }

pub assign_there : (t : Track) (key : Tuple) (m : ℕ) (v : Value) (at : ℕ) → place_of (keys_of t.cells) key ≡ Some at
    → the_track (assigned t.cells key m v) (noted_if_any t.firsts key t.cells) ≡ assign t key m v
assign_there t key m v at e = by (cell_at t.cells key) refl
  where
    by : (found : Option Tuple) → cell_at t.cells key ≡ found
        → the_track (option_map_or (λ measures. with_cell t.cells key (slice_set measures m v)) found t.cells) (noted_if_any t.firsts key t.cells)
        ≡ option_map_or (λ measures. put t key (slice_set measures m v)) found t
    by None h =
        let there = stands key (keys_of t.cells) at e in
        let none = no_cell t.cells key h in
        absurd (cc)
    by (Some measures) h = refl

pub assigned_keys : (cells : Cells) (key : Tuple) (m : ℕ) (v : Value) (at : ℕ) → IsStrictlySortedBy cmp_key (keys_of cells) → place_of (keys_of cells) key ≡ Some at
    → keys_of (assigned cells key m v) ≡ keys_of cells
assigned_keys cells key m v at s e = by (cell_at cells key)
  where
    by : (found : Option Tuple) → keys_of (option_map_or (λ measures. with_cell cells key (slice_set measures m v)) found cells) ≡ keys_of cells
    by None = refl
    by (Some measures) = keys_with cells key (slice_set measures m v) ∙ with_there key (keys_of cells) s (stands key (keys_of cells) at e)
