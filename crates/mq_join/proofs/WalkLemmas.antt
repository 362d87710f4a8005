-- The walk over all tuples, item by item.
use Rattle.std.proofs.Common.{◌≡◌, ℕ, ◌+◌, ◌-◌, ◌<◌, ◌≤◌, List, [], ◌∷◌, ◌++◌, map, length, drop, get_or, Result, Ok, Err, Some, None, refl, sym, ap, ◌∙◌, append_assoc, add-one, drop-cons, arith, zero, suc, subst}
use Rattle.std.specs.Prelude.{slice_get}
use Rattle.std.specs.List.{flat_map, range_with_len}
use Rattle.std.specs.Option.{option_map}
use Rattle.std.proofs.lemmas.List.{append-nil, drop_all, map-append, map-id}
use Rattle.std.proofs.lemmas.Option.{get_or_from_slice_get, slice_get_past, slice_get_read, slice_get_within, slice_get-map}
use Rattle.mq_values.specs.Answers.{Gives}
use Rattle.mq_values.specs.declared.faults.FaultKind.{FaultKind}
use Rattle.mq_values.specs.declared.memory.Fail.{Fail}
use Rattle.mq_ir.specs.BaseRows.{Places, all_places}
use Rattle.mq_ir.specs.Keys.{Tuple}
use Rattle.mq_ir.specs.Results.{each_in_turn}
use Rattle.mq_join.specs.Rows.{Joined}
use Rattle.mq_join.specs.Walk.{Step, counts_from, rows_at_place, rows_at_places, rows_behind}
use Rattle.mq_join.proofs.TurnLemmas.{bind_ok, exit, rest_fault, rest_next, rest_of, turns_flat}

front_one : (front : Places) (place : ℕ) (rests : List Places) → map (λ rest. front ++ rest) (map (λ rest. place ∷ rest) rests) ≡ map (λ rest. (front ++ place ∷ []) ++ rest) rests
front_one front place [] = refl
front_one front place (rest ∷ rests) = λ i. sym (append_assoc front (place ∷ []) rest) i ∷ front_one front place rests i

-- the tuples that begin with `front`, by the place of the next item
front_each : (front : Places) (rests : List Places) (places : List ℕ)
    → map (λ rest. front ++ rest) (flat_map (λ place. map (λ rest. place ∷ rest) rests) places) ≡ flat_map (λ place. map (λ rest. (front ++ place ∷ []) ++ rest) rests) places
front_each front rests [] = refl
front_each front rests (place ∷ places) =
    map-append (λ rest. front ++ rest) (map (λ rest. place ∷ rest) rests) (flat_map (λ place. map (λ rest. place ∷ rest) rests) places)
    ∙ (λ i. front_one front place rests i ++ front_each front rests places i)

-- where there is one more item, the walk goes over its places
pub behind_item : (step : Step) (n : ℕ) (counts : List ℕ) (front : Places) (kept : List Joined)
    → rows_behind step (n ∷ counts) front kept ≡ rows_at_places step counts front (range_with_len 0 n) kept
behind_item step n counts front kept =
    ap (λ tuples. each_in_turn step tuples kept) (front_each front (all_places counts) (range_with_len 0 n))
    ∙ turns_flat step (λ place. map (λ rest. (front ++ place ∷ []) ++ rest) (all_places counts)) (range_with_len 0 n) kept

-- and where there is none, it is one step
pub behind_all : (step : Step) (front : Places) (kept : List Joined) → rows_behind step [] front kept ≡ step front kept
behind_all step front kept = ap (λ tuple. each_in_turn step (tuple ∷ []) kept) (append-nil front) ∙ bind_ok (step front kept)

pub next_item : {A : Type 0} (xs : List A) (i : ℕ) (x : A) → i < length xs → x ≡ get_or xs i x → drop i xs ≡ x ∷ drop (i + 1) xs
next_item xs i x h e = drop-cons xs i x h ∙ (λ j. sym e j ∷ drop (sym (add-one i) j) xs)

at_place : {A : Type 0} (xs : List A) (i : ℕ) (x : A) → slice_get xs i ≡ Some x → drop i xs ≡ x ∷ drop (i + 1) xs
at_place xs i x e = next_item xs i x (slice_get_within xs i x e) (sym (get_or_from_slice_get xs i x x e))

past_place : {A : Type 0} (xs : List A) (i : ℕ) → slice_get xs i ≡ None → drop i xs ≡ []
past_place [] i e = drop_all i [] (omega arith)
past_place (x ∷ xs) zero e = absurd (cc)
past_place (x ∷ xs) (suc i) e = past_place xs i e

pub behind_some : (step : Step) (items : List (List Tuple)) (front : Places) (rows : List Tuple) (kept : List Joined) → slice_get items (length front) ≡ Some rows
    → rows_behind step (counts_from items (length front)) front kept ≡ rows_at_places step (counts_from items (length front + 1)) front (range_with_len 0 (length rows)) kept
behind_some step items front rows kept e =
    ap (λ counts. rows_behind step counts front kept) (at_place (map length items) (length front) (length rows) (slice_get-map length items (length front) ∙ ap (option_map length) e))
    ∙ behind_item step (length rows) (counts_from items (length front + 1)) front kept

pub behind_none : (step : Step) (items : List (List Tuple)) (front : Places) (kept : List Joined) → slice_get items (length front) ≡ None
    → rows_behind step (counts_from items (length front)) front kept ≡ step front kept
behind_none step items front kept e =
    ap (λ counts. rows_behind step counts front kept) (past_place (map length items) (length front) (slice_get-map length items (length front) ∙ ap (option_map length) e))
    ∙ behind_all step front kept

-- the walk from the first item on
pub from_first : (step : Step) (items : List (List Tuple)) (kept : List Joined) → rows_behind step (counts_from items 0) [] kept ≡ each_in_turn step (all_places (map length items)) kept
from_first step items kept = ap (λ tuples. each_in_turn step tuples kept) (map-id (all_places (map length items)))

-- the step at a place of the next item
abbrev pub place_step : Step → List (List Tuple) → Places → ℕ → List Joined → Result (List Joined) FaultKind
place_step step items front = rows_at_place step (counts_from items (length front + 1)) front

abbrev pub all_rows : Step → List (List Tuple) → Places → ℕ → List Joined → Result (List Joined) FaultKind
all_rows step items front n kept = rows_at_places step (counts_from items (length front + 1)) front (range_with_len 0 n) kept

pub turns_start : (step : Step) (items : List (List Tuple)) (front : Places) (n : ℕ) (kept : List Joined) → rest_of (place_step step items front) n 0 kept ≡ all_rows step items front n kept
turns_start step items front n kept = let e : n - 0 ≡ n = omega arith in ap (λ k. each_in_turn (place_step step items front) (range_with_len 0 k) kept) e

pub turns_next : (step : Step) (items : List (List Tuple)) (front now : Places) (n i : ℕ) (kept more : List Joined) (whole : Result (List Joined) FaultKind) → now ≡ front → i < n
    → place_step step items now i kept ≡ Ok more → rest_of (place_step step items front) n i kept ≡ whole → rest_of (place_step step items front) n (i + 1) more ≡ whole
turns_next step items front now n i kept more whole same h g w =
    rest_next (place_step step items front) n i kept more h (ap (λ (t : Places). place_step step items t i kept) (sym same) ∙ g) ∙ w

pub turns_fault : (step : Step) (items : List (List Tuple)) (front now : Places) (n i : ℕ) (kept : List Joined) (e : Fail FaultKind) (whole : Result (List Joined) FaultKind) → now ≡ front → i < n
    → Gives {T = List Joined} (Err e) (place_step step items now i kept) → rest_of (place_step step items front) n i kept ≡ whole → Gives {T = List Joined} (Err e) whole
turns_fault step items front now n i kept e whole same h g w =
    exit (place_step step items now i kept) whole e g
    (λ fault is. sym w ∙ rest_fault (place_step step items front) n i kept fault h (ap (λ (t : Places). place_step step items t i kept) (sym same) ∙ is))

-- there is one more item, as a look-up by place tells it
pub some_item : (step : Step) (items : List (List Tuple)) (front : Places) (rows : List Tuple) (kept : List Joined) (at count : ℕ) → at ≡ length front → at < length items → rows ≡ get_or items at rows → count ≡ length rows
    → rows_behind step (counts_from items (length front)) front kept ≡ all_rows step items front count kept
some_item step items front rows kept at count e h r n =
    behind_some step items front rows kept (subst (λ k. slice_get items k ≡ Some rows) e (slice_get_read items (length items) at rows refl h r))
    ∙ ap (λ k. all_rows step items front k kept) (sym n)

pub last_item : (step : Step) (items : List (List Tuple)) (front : Places) (kept : List Joined) (at : ℕ) → at ≡ length front → length items ≤ at
    → rows_behind step (counts_from items (length front)) front kept ≡ step front kept
last_item step items front kept at e h = behind_none step items front kept (subst (λ k. slice_get items k ≡ None) e (slice_get_past items at h))
