-- Old places of rows, after a change touched the rows.
use Rattle.std.proofs.Common.{◌≡◌, ℕ, zero, suc, ◌+◌, ◌≤◌, List, [], ◌∷◌, ◌++◌, Bool, true, false, not, Option, Some, None, length, map, drop, get_or, set, refl, sym, ap, ◌∙◌, arith, append_assoc, length-append}
use Rattle.std.specs.Prelude.{if◌then◌else◌}
use Rattle.std.specs.List.{enumerate_from, filter, range_with_len, zip}
use Rattle.std.proofs.lemmas.List.{append-nil, length-map, map-append}
use Rattle.std.proofs.lemmas.List.FromFn.{length-range_with_len}
use Rattle.mq_ir.specs.Changes.{Visited}
use Rattle.mq_ir.specs.Keys.{Tuple}
use Rattle.mq_tables.specs.InPlace.{items_left, rows_left}
use Rattle.mq_tables.specs.OldPlaces.{with_none}
use Rattle.mq_tables.specs.Pending.{through}
use Rattle.mq_tables.specs.Staging.{new_places, place_unless_true, places_left, stays}
use Rattle.mq_tables.specs.Touching.{forgotten}
use Rattle.mq_tables.specs.Visits.{flags_of, taken}
use Rattle.mq_tables.proofs.VisitLemmas.{is_true, stood}

-- places of which some are forgotten
abbrev pub without : List (Option ℕ) → List Bool → List (Option ℕ)
without [] flags = []
without (p ∷ places) [] = []
without (p ∷ places) (f ∷ flags) = (if f then None else p) ∷ without places flags

-- ---- places before a step, found through the places after it
-- these places are those of all from number k on
abbrev StandFrom : List (Option ℕ) → ℕ → List (Option ℕ) → Type 0
StandFrom all k places = (i : ℕ) → get_or places i None ≡ get_or all (k + i) None

further : (all : List (Option ℕ)) (k : ℕ) (p : Option ℕ) (places : List (Option ℕ)) → StandFrom all k (p ∷ places) → StandFrom all (k + 1) places
further all k p places h i = h (suc i) ∙ ap (λ n. get_or all n None) (let e : k + suc i ≡ (k + 1) + i = omega arith in e)

first_of : (all : List (Option ℕ)) (k : ℕ) (p : Option ℕ) (places : List (Option ℕ)) → StandFrom all k (p ∷ places) → get_or all k None ≡ p
first_of all k p places h = ap (λ n. get_or all n None) (let e : k ≡ k + 0 = omega arith in e) ∙ sym (h 0)

all_stand : (all : List (Option ℕ)) → StandFrom all 0 all
all_stand all i = ap (λ n. get_or all n None) (let e : i ≡ 0 + i = omega arith in e)

stays_from : {A : Type 0} (all : List (Option ℕ)) (k : ℕ) (places : List (Option ℕ)) (rows : List A) → length places ≡ length rows → StandFrom all k places
    → map (through all) (map Some (range_with_len k (length rows))) ≡ places
stays_from all k [] [] l h = refl
stays_from all k [] (r ∷ rows) l h = absurd (omega (arith, l))
stays_from all k (p ∷ places) [] l h = absurd (omega (arith, l))
stays_from all k (p ∷ places) (r ∷ rows) l h =
    let first = first_of all k p places h in
    let rest = stays_from all (k + 1) places rows (omega (arith, l)) (further all k p places h) in
    λ i. first i ∷ rest i

updated_from : (all : List (Option ℕ)) (k : ℕ) (places : List (Option ℕ)) (vs : List Visited) → length places ≡ length vs → StandFrom all k places
    → map (through all) (map place_unless_true (enumerate_from k vs)) ≡ without places (flags_of vs)
updated_from all k [] [] l h = refl
updated_from all k [] (v ∷ vs) l h = absurd (omega (arith, l))
updated_from all k (p ∷ places) [] l h = absurd (omega (arith, l))
updated_from all k (p ∷ places) (v ∷ vs) l h =
    let first = by v.1 in
    let rest = updated_from all (k + 1) places vs (omega (arith, l)) (further all k p places h) in
    λ i. first i ∷ rest i
  where
    by : (b : Bool) → through all (if b then None else Some k) ≡ (if b then None else p)
    by true = refl
    by false = first_of all k p places h

abbrev has_place : ℕ × Visited → Option ℕ
has_place row = Some row.0

abbrev is_left : ℕ × Visited → Bool
is_left row = not row.1.1

left_from : (all : List (Option ℕ)) (k : ℕ) (places : List (Option ℕ)) (vs : List Visited) → length places ≡ length vs → StandFrom all k places
    → map (through all) (map has_place (filter is_left (enumerate_from k vs))) ≡ items_left places (flags_of vs)
left_from all k [] [] l h = refl
left_from all k [] (v ∷ vs) l h = absurd (omega (arith, l))
left_from all k (p ∷ places) [] l h = absurd (omega (arith, l))
left_from all k (p ∷ places) (v ∷ vs) l h = by v.1 (left_from all (k + 1) places vs (omega (arith, l)) (further all k p places h))
  where
    keep : Option ℕ × Bool → Bool
    keep = λ item. not item.1

    by : (b : Bool) → map (through all) (map has_place (filter is_left (enumerate_from (k + 1) vs))) ≡ items_left places (flags_of vs)
        → map (through all) (map has_place (if not b then (k, v) ∷ filter is_left (enumerate_from (k + 1) vs) else filter is_left (enumerate_from (k + 1) vs)))
        ≡ map (λ (item : Option ℕ × Bool). item.0) (if not b then (p, b) ∷ filter (λ (item : Option ℕ × Bool). not item.1) (zip places (flags_of vs)) else filter (λ (item : Option ℕ × Bool). not item.1) (zip places (flags_of vs)))
    by true e = e
    by false e = let first = first_of all k p places h in λ i. first i ∷ e i

-- ---- the places of a table that is untouched
pub as_many : (rows : List Tuple) → length (stays rows) ≡ length rows
as_many rows = length-map (range_with_len 0 (length rows)) Some ∙ length-range_with_len 0 (length rows)

updated_is : (k : ℕ) (vs : List Visited) → map place_unless_true (enumerate_from k vs) ≡ without (map Some (range_with_len k (length vs))) (flags_of vs)
updated_is k [] = refl
updated_is k (v ∷ vs) = let rest = updated_is (k + 1) vs in λ i. (if v.1 then None else Some k) ∷ rest i

left_is : (k : ℕ) (vs : List Visited) → map has_place (filter is_left (enumerate_from k vs)) ≡ items_left (map Some (range_with_len k (length vs))) (flags_of vs)
left_is k [] = refl
left_is k (v ∷ vs) = by v.1 (left_is (k + 1) vs)
  where
    places : List (Option ℕ)
    places = map Some (range_with_len (k + 1) (length vs))

    by : (b : Bool) → map has_place (filter is_left (enumerate_from (k + 1) vs)) ≡ items_left places (flags_of vs)
        → map has_place (if not b then (k, v) ∷ filter is_left (enumerate_from (k + 1) vs) else filter is_left (enumerate_from (k + 1) vs))
        ≡ map (λ (item : Option ℕ × Bool). item.0) (if not b then (Some k, b) ∷ filter (λ (item : Option ℕ × Bool). not item.1) (zip places (flags_of vs)) else filter (λ (item : Option ℕ × Bool). not item.1) (zip places (flags_of vs)))
    by true e = e
    by false e = ap (λ l. Some k ∷ l) e

-- ---- the places of the first rows, and none of the others
pub with_all : (places : List (Option ℕ)) (rows : List Tuple) → length places ≡ length rows → with_none places rows ≡ places
with_all [] [] l = refl
with_all [] (r ∷ rows) l = absurd (omega (arith, l))
with_all (p ∷ places) [] l = absurd (omega (arith, l))
with_all (p ∷ places) (r ∷ rows) l = ap (λ t. p ∷ t) (with_all places rows (omega (arith, l)))

new_long : {A : Type 0} (rows : List A) → length (new_places rows) ≡ length rows
new_long rows = length-map rows (λ _. None)

pub with_none_long : (places : List (Option ℕ)) (rows : List Tuple) → length places ≤ length rows → length (with_none places rows) ≡ length rows
with_none_long [] rows l = new_long rows
with_none_long (p ∷ places) [] l = absurd (omega (arith, l))
with_none_long (p ∷ places) (r ∷ rows) l = ap suc (with_none_long places rows (omega (arith, l)))

-- the others have none
pub none_of_new : (rows : List Tuple) (i : ℕ) → get_or (new_places rows) i None ≡ None
none_of_new [] i = refl
none_of_new (r ∷ rows) zero = refl
none_of_new (r ∷ rows) (suc i) = none_of_new rows i

none_past : (places : List (Option ℕ)) (rows : List Tuple) (i : ℕ) → length places ≤ i → get_or (places ++ new_places rows) i None ≡ None
none_past [] rows i l = none_of_new rows i
none_past (p ∷ places) rows zero l = absurd (omega (arith, l))
none_past (p ∷ places) rows (suc i) l = none_past places rows i (omega (arith, l))

pub none_behind : (places : List (Option ℕ)) (rows : List Tuple) (i : ℕ) → length places ≤ i → get_or (with_none places rows) i None ≡ None
none_behind places rows i l = none_past places (drop (length places) rows) i l

-- INSERT
pub with_new : {A : Type 0} (places : List (Option ℕ)) (rows new : List Tuple) (known : List A) → length places ≤ length rows → new_places known ≡ new_places new
    → with_none places (rows ++ new) ≡ with_none places rows ++ new_places known
with_new [] rows new known l e = map-append (λ _. None) rows new ∙ ap (λ p. new_places rows ++ p) (sym e)
with_new (p ∷ places) [] new known l e = absurd (omega (arith, l))
with_new (p ∷ places) (r ∷ rows) new known l e = ap (λ t. p ∷ t) (with_new places rows new known (omega (arith, l)) e)

new_through : {A : Type 0} (all : List (Option ℕ)) (new : List A) → map (through all) (new_places new) ≡ new_places new
new_through all [] = refl
new_through all (x ∷ new) = ap (λ t. None ∷ t) (new_through all new)

pub behind_through : {A : Type 0} (all : List (Option ℕ)) (rows : List Tuple) (new : List A) → length all ≡ length rows → map (through all) (stays rows ++ new_places new) ≡ all ++ new_places new
behind_through all rows new l =
    map-append (through all) (stays rows) (new_places new)
    ∙ ap (λ t. t ++ map (through all) (new_places new)) (stays_from all 0 all rows l (all_stand all))
    ∙ ap (λ t. all ++ t) (new_through all new)

-- UPDATE
abbrev cut : List (Option ℕ) → List (Tuple × Bool) → List (Option ℕ)
cut [] zs = []
cut (p ∷ places) [] = p ∷ places
cut (p ∷ places) (z ∷ zs) = (if z.1 then None else p) ∷ cut places zs

set_past : (front : List (Option ℕ)) (n : ℕ) (y : Option ℕ) → length front ≤ n → set front n y ≡ front
set_past [] n y l = refl
set_past (f ∷ front) zero y l = absurd (omega (arith, l))
set_past (f ∷ front) (suc n) y l = ap (λ t. f ∷ t) (set_past front n y (omega (arith, l)))

set_between : (front : List (Option ℕ)) (x y : Option ℕ) (behind : List (Option ℕ)) (n : ℕ) → length front ≡ n → set (front ++ x ∷ behind) n y ≡ front ++ y ∷ behind
set_between [] x y behind zero e = refl
set_between [] x y behind (suc n) e = absurd (omega (arith, e))
set_between (f ∷ front) x y behind zero e = absurd (omega (arith, e))
set_between (f ∷ front) x y behind (suc n) e = ap (λ l. f ∷ l) (set_between front x y behind n (omega (arith, e)))

past : (front : List (Option ℕ)) (n : ℕ) (zs : List (Tuple × Bool)) → length front ≤ n → forgotten (map stood (filter is_true (enumerate_from n zs))) front ≡ front
past front n [] l = refl
past front n (z ∷ zs) l = by z.1 (past front (n + 1) zs (omega (arith, l)))
  where
    by : (b : Bool) → forgotten (map stood (filter is_true (enumerate_from (n + 1) zs))) front ≡ front
        → forgotten (map stood (if b then (n, z) ∷ filter is_true (enumerate_from (n + 1) zs) else filter is_true (enumerate_from (n + 1) zs))) front ≡ front
    by true e = ap (λ f. forgotten (map stood (filter is_true (enumerate_from (n + 1) zs))) f) (set_past front n None l) ∙ e
    by false e = e

cut_from : (front places : List (Option ℕ)) (n : ℕ) (zs : List (Tuple × Bool)) → length front ≡ n → forgotten (map stood (filter is_true (enumerate_from n zs))) (front ++ places) ≡ front ++ cut places zs
cut_from front [] n zs l =
    ap (forgotten (map stood (filter is_true (enumerate_from n zs)))) (append-nil front) ∙ past front n zs (omega (arith, l)) ∙ sym (append-nil front)
cut_from front (p ∷ places) n [] l = refl
cut_from front (p ∷ places) n (z ∷ zs) l = by z.1 (λ q. cut_from (front ++ q ∷ []) places (n + 1) zs (length-append front (q ∷ []) ∙ ap (λ k. k + 1) l))
  where
    goes : (rest : List (ℕ × Tuple)) → ((q : Option ℕ) → forgotten rest ((front ++ q ∷ []) ++ places) ≡ (front ++ q ∷ []) ++ cut places zs)
        → (q : Option ℕ) → forgotten rest (front ++ q ∷ places) ≡ front ++ q ∷ cut places zs
    goes rest g q = ap (forgotten rest) (sym (append_assoc front (q ∷ []) places)) ∙ g q ∙ append_assoc front (q ∷ []) (cut places zs)

    by : (b : Bool)
        → ((q : Option ℕ) → forgotten (map stood (filter is_true (enumerate_from (n + 1) zs))) ((front ++ q ∷ []) ++ places) ≡ (front ++ q ∷ []) ++ cut places zs)
        → forgotten (map stood (if b then (n, z) ∷ filter is_true (enumerate_from (n + 1) zs) else filter is_true (enumerate_from (n + 1) zs))) (front ++ p ∷ places)
        ≡ front ++ (if b then None else p) ∷ cut places zs
    by true g =
        ap (forgotten (map stood (filter is_true (enumerate_from (n + 1) zs)))) (set_between front p None places n l)
        ∙ goes (map stood (filter is_true (enumerate_from (n + 1) zs))) g None
    by false g = goes (map stood (filter is_true (enumerate_from (n + 1) zs))) g p

new_without : {A B : Type 0} (rows : List A) (after : List B) (flags : List Bool) → length after ≡ length rows → length flags ≡ length rows → new_places after ≡ without (new_places rows) flags
new_without [] [] [] l m = refl
new_without [] [] (f ∷ flags) l m = absurd (omega (arith, m))
new_without [] (a ∷ after) flags l m = absurd (omega (arith, l))
new_without (r ∷ rows) [] flags l m = absurd (omega (arith, l))
new_without (r ∷ rows) (a ∷ after) [] l m = absurd (omega (arith, m))
new_without (r ∷ rows) (a ∷ after) (true ∷ flags) l m = ap (λ t. None ∷ t) (new_without rows after flags (omega (arith, l)) (omega (arith, m)))
new_without (r ∷ rows) (a ∷ after) (false ∷ flags) l m = ap (λ t. None ∷ t) (new_without rows after flags (omega (arith, l)) (omega (arith, m)))

cut_none : (places : List (Option ℕ)) (rows after : List Tuple) (flags : List Bool) → length places ≤ length rows → length after ≡ length rows → length flags ≡ length rows
    → with_none (cut places (zip rows flags)) after ≡ without (with_none places rows) flags
cut_none [] rows after flags p l m = new_without rows after flags l m
cut_none (q ∷ places) [] after flags p l m = absurd (omega (arith, p))
cut_none (q ∷ places) (r ∷ rows) [] flags p l m = absurd (omega (arith, l))
cut_none (q ∷ places) (r ∷ rows) (a ∷ after) [] p l m = absurd (omega (arith, m))
cut_none (q ∷ places) (r ∷ rows) (a ∷ after) (f ∷ flags) p l m =
    ap (λ t. (if f then None else q) ∷ t) (cut_none places rows after flags (omega (arith, p)) (omega (arith, l)) (omega (arith, m)))

cut_long : (places : List (Option ℕ)) (zs : List (Tuple × Bool)) → length (cut places zs) ≡ length places
cut_long [] zs = refl
cut_long (p ∷ places) [] = refl
cut_long (p ∷ places) (z ∷ zs) = ap suc (cut_long places zs)

module _ (places : List (Option ℕ)) (rows after : List Tuple) (vs : List Visited) (p : length places ≤ length rows) (l : length after ≡ length rows) (m : length vs ≡ length rows) where
  flags_many : length (flags_of vs) ≡ length rows
  flags_many = length-map vs (λ (row : Visited). row.1) ∙ m

  forgotten_is : forgotten (taken rows vs) places ≡ cut places (zip rows (flags_of vs))
  forgotten_is = cut_from [] places 0 (zip rows (flags_of vs)) refl

  pub update_noted : with_none (forgotten (taken rows vs) places) after ≡ map (through (with_none places rows)) (map place_unless_true (enumerate_from 0 vs))
  update_noted =
      ap (λ t. with_none t after) forgotten_is
      ∙ cut_none places rows after (flags_of vs) p l flags_many
      ∙ sym (updated_from (with_none places rows) 0 (with_none places rows) vs (with_none_long places rows p ∙ sym m) (all_stand (with_none places rows)))

  pub update_short : length (forgotten (taken rows vs) places) ≤ length after
  update_short = let a = ap length forgotten_is ∙ cut_long places (zip rows (flags_of vs)) in omega (arith, a, p, l)

-- DELETE
new_left : (rows : List Tuple) (flags : List Bool) → new_places (rows_left rows flags) ≡ items_left (new_places rows) flags
new_left [] flags = refl
new_left (r ∷ rows) [] = refl
new_left (r ∷ rows) (true ∷ flags) = new_left rows flags
new_left (r ∷ rows) (false ∷ flags) = ap (λ t. None ∷ t) (new_left rows flags)

left_none : (places : List (Option ℕ)) (rows : List Tuple) (flags : List Bool) → length places ≤ length rows → with_none (items_left places flags) (rows_left rows flags) ≡ items_left (with_none places rows) flags
left_none [] rows flags p = new_left rows flags
left_none (q ∷ places) [] flags p = absurd (omega (arith, p))
left_none (q ∷ places) (r ∷ rows) [] p = refl
left_none (q ∷ places) (r ∷ rows) (true ∷ flags) p = left_none places rows flags (omega (arith, p))
left_none (q ∷ places) (r ∷ rows) (false ∷ flags) p = ap (λ t. q ∷ t) (left_none places rows flags (omega (arith, p)))

pub left_short : (places : List (Option ℕ)) (rows : List Tuple) (flags : List Bool) → length places ≤ length rows → length (items_left places flags) ≤ length (rows_left rows flags)
left_short [] rows flags p = omega arith
left_short (q ∷ places) [] flags p = absurd (omega (arith, p))
left_short (q ∷ places) (r ∷ rows) [] p = omega arith
left_short (q ∷ places) (r ∷ rows) (true ∷ flags) p = left_short places rows flags (omega (arith, p))
left_short (q ∷ places) (r ∷ rows) (false ∷ flags) p = let t = left_short places rows flags (omega (arith, p)) in omega (arith, t)

pub delete_noted : (places : List (Option ℕ)) (rows : List Tuple) (vs : List Visited) → length places ≤ length rows → length vs ≡ length rows
    → with_none (items_left places (flags_of vs)) (rows_left rows (flags_of vs)) ≡ map (through (with_none places rows)) (places_left vs)
delete_noted places rows vs p m =
    left_none places rows (flags_of vs) p
    ∙ sym (left_from (with_none places rows) 0 (with_none places rows) vs (with_none_long places rows p ∙ sym m) (all_stand (with_none places rows)))

-- ---- a first step, through the places of a table that is untouched
module _ (rows : List Tuple) where
  pub behind_first : {A : Type 0} (new : List A) → map (through (stays rows)) (stays rows ++ new_places new) ≡ stays rows ++ new_places new
  behind_first new = behind_through (stays rows) rows new (as_many rows)

  module _ (vs : List Visited) (m : length vs ≡ length rows) where
    same_places : map Some (range_with_len 0 (length vs)) ≡ stays rows
    same_places = ap (λ n. map Some (range_with_len 0 n)) m

    pub update_first : map (through (stays rows)) (map place_unless_true (enumerate_from 0 vs)) ≡ map place_unless_true (enumerate_from 0 vs)
    update_first =
        updated_from (stays rows) 0 (stays rows) vs (as_many rows ∙ sym m) (all_stand (stays rows))
        ∙ ap (λ t. without t (flags_of vs)) (sym same_places)
        ∙ sym (updated_is 0 vs)

    pub delete_first : map (through (stays rows)) (places_left vs) ≡ places_left vs
    delete_first =
        left_from (stays rows) 0 (stays rows) vs (as_many rows ∙ sym m) (all_stand (stays rows))
        ∙ ap (λ t. items_left t (flags_of vs)) (sym same_places)
        ∙ sym (left_is 0 vs)
