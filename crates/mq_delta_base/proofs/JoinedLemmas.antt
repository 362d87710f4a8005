-- Base rows, and the places of their rows.
use Rattle.std.proofs.Common.{◌≡◌, ℕ, zero, suc, ◌+◌, ◌<◌, Bool, true, false, Option, List, [], ◌∷◌, map, length, Result, Ok, Err, refl, sym, ap, subst, ◌∙◌, ◌⊎◌, inl, inr, arith}
use Rattle.std.specs.Prelude.{slice_index_or, slice_set}
use Rattle.mq_values.specs.declared.faults.FaultKind.{FaultKind}
use Rattle.mq_ir.specs.declared.query.FromPart.{FromPart}
use Rattle.mq_values.specs.declared.faults.QueryFault.{QueryFault}
use Rattle.mq_ir.specs.Answer.{plain_fault}
use Rattle.mq_ir.specs.BaseRows.{Places, items_of, kept_places}
use Rattle.mq_ir.specs.Keys.{Tuple}
use Rattle.mq_ir.specs.Results.{◌>>=◌, marked}
use Rattle.mq_ir.specs.Tables.{Tables, rows_of}
use Rattle.mq_join.specs.Chosen.{choosing, rows_at_places}
use Rattle.mq_join.specs.Kept.{PlaceRows}
use Rattle.mq_join.specs.Rows.{Joined, joined_at, joined_rows, places_in, rows_over}
use Rattle.std.proofs.lemmas.List.{length-map}
use Rattle.mq_delta_base.specs.Gathered.{AddsTouched, ArePlaces, Gathered, KeptBefore, kept_rows_meant}
use Rattle.mq_delta_base.specs.Moves.{AllFollow, through}
use Rattle.mq_delta_base.specs.Sets.{In, union}
use Rattle.mq_delta_base.specs.Verdicts.{Within, limited}
use Rattle.mq_delta_base.proofs.GatherLemmas.{gathered_all, kept_sound, next_changed, next_same}

places_back : (items : List (List Tuple)) (t : Places) → Within (map length items) t → places_in (joined_at items t) ≡ t
places_back [] [] w = refl
places_back [] (p ∷ t) w = elim w [ ]
places_back (rows ∷ items) [] w = elim w [ ]
places_back (rows ∷ items) (p ∷ t) w = ap (λ l. p ∷ l) (places_back items t w.1)

pub as_long : (counts : List ℕ) (t : Places) → Within counts t → length t ≡ length counts
as_long [] [] w = refl
as_long [] (p ∷ t) w = elim w [ ]
as_long (n ∷ counts) [] w = elim w [ ]
as_long (n ∷ counts) (p ∷ t) w = let r = as_long counts t w.1 in omega (arith, r)

lengths_long : (items : List (List Tuple)) → length (map length items) ≡ length items
lengths_long [] = refl
lengths_long (rows ∷ items) = let r = lengths_long items in omega (arith, r)

all_back : (items : List (List Tuple)) (kept : List Places) → ((t : Places) → In t kept → Within (map length items) t) → map places_in (map (joined_at items) kept) ≡ kept
all_back items [] h = refl
all_back items (t ∷ kept) h = let p = places_back items t (h t (inl refl)) in let r = all_back items kept (λ u i. h u (inr i)) in λ i. p i ∷ r i

all_long : (n : ℕ) (rows : List Joined) → ((t : Places) → In t (map places_in rows) → length t ≡ n) → (i : ℕ) → i < length rows → length (places_in (slice_index_or rows i [])) ≡ n
all_long n [] h i l = absurd (omega (arith, l))
all_long n (row ∷ rows) h zero l = h (places_in row) (inl refl)
all_long n (row ∷ rows) h (suc i) l = all_long n rows (λ t m. h t (inr m)) i (omega (arith, l))

-- base rows have the places that are kept
pub are_places : (from : FromPart) (items : List (List Tuple)) (rows : List Joined) → rows_over from items ≡ Ok rows → ArePlaces from items rows
are_places from items rows e = by (kept_places from items) refl e
  where
    by : (r : Result (List Places) FaultKind) → kept_places from items ≡ r → (r >>= (λ kept. Ok (map (joined_at items) kept))) ≡ Ok rows → ArePlaces from items rows
    by (Err fault) k e = absurd (cc)
    by (Ok kept) k e =
        let same : map (joined_at items) kept ≡ rows = cc in
        let back : map places_in rows ≡ kept = ap (map places_in) (sym same) ∙ all_back items kept (λ t i. (kept_sound from items kept k t i).0) in
        record {
          kept = k ∙ ap Ok (sym back);
          wide = all_long (length items) rows (λ t i. as_long (map length items) t (kept_sound from items kept k t (subst (In t) back i)).0 ∙ lengths_long items);
        }

pub chosen_long : (k : ℕ) (items : List (List Tuple)) (new : List Tuple) → length (slice_set items k new) ≡ length items
chosen_long k [] new = refl
chosen_long zero (rows ∷ items) new = refl
chosen_long (suc k) (rows ∷ items) new = let r = chosen_long k items new in omega (arith, r)

olds_long : (changed : List Bool) (moved : List (Option ℕ)) (touched : List ℕ) (olds news : List (List Tuple)) → AllFollow moved touched changed olds news → length olds ≡ length changed
olds_long [] moved touched [] [] f = refl
olds_long [] moved touched [] (new ∷ news) f = elim f [ ]
olds_long [] moved touched (old ∷ olds) news f = elim f [ ]
olds_long (c ∷ changed) moved touched [] news f = elim f [ ]
olds_long (c ∷ changed) moved touched (old ∷ olds) [] f = elim f [ ]
olds_long (true ∷ changed) moved touched (old ∷ olds) (new ∷ news) f = let r = olds_long changed moved touched olds news f.1 in omega (arith, r)
olds_long (false ∷ changed) moved touched (old ∷ olds) (new ∷ news) f = let r = olds_long changed moved touched olds news f.1 in omega (arith, r)

at_place : (ts : List Places) (i : ℕ) → i < length ts → In (slice_index_or ts i []) ts
at_place [] i h = absurd (omega (arith, h))
at_place (t ∷ ts) zero h = inl refl
at_place (t ∷ ts) (suc i) h = inr (at_place ts i (omega (arith, h)))

-- the kept tuples have a place for each FROM item
pub old_long : (from : FromPart) (changed : List Bool) (moved : List (Option ℕ)) (touched : List ℕ) (old : List Places) (news : List (List Tuple)) → KeptBefore from changed moved touched old news
    → (i : ℕ) → i < length old → length (slice_index_or old i []) ≡ length changed
old_long from changed moved touched old news b i h =
    let t = slice_index_or old i [] in
    as_long (map length b.olds) t (kept_sound from b.olds old b.kept t (at_place old i h)).0 ∙ lengths_long b.olds ∙ olds_long changed moved touched b.olds news b.follow

-- ---- a FROM item more
pub added : (from : FromPart) (changed : List Bool) (moved : List (Option ℕ)) (touched : List ℕ) (old : List Places) (news : List (List Tuple)) → KeptBefore from changed moved touched old news
    → (n : ℕ) (before after : PlaceRows) → slice_index_or changed n false ≡ true → AddsTouched from n touched news before after
    → Gathered from changed moved touched old news n before.rows → Gathered from changed moved touched old news (n + 1) after.rows
added from changed moved touched old news b n before after e a g =
    subst (Gathered from changed moved touched old news (n + 1)) (sym a.rows) (next_changed from changed moved touched old news b n e a.kept a.chosen before.rows g)

pub adds : (from : FromPart) (n : ℕ) (touched : List ℕ) (news : List (List Tuple)) (rows : List Joined) (before after : PlaceRows) → rows_over from (choosing n touched news) ≡ Ok rows
    → after ≡ record { width = before.width; rows = union before.rows (map (through n touched) (map places_in rows)) } → AddsTouched from n touched news before after
adds from n touched news rows before after e a = record {
  kept = map places_in rows;
  chosen = (are_places from (choosing n touched news) rows e).kept;
  wide = ap (λ (p : PlaceRows). p.width) a;
  rows = ap (λ (p : PlaceRows). p.rows) a;
}

pub items_long : (tables : Tables) (from : FromPart) → length (items_of tables from) ≡ length from.tables
items_long tables from = length-map from.tables (rows_of tables)

-- the rows over chosen rows have a place for each FROM item
pub chosen_wide : (tables : Tables) (from : FromPart) (n : ℕ) (touched : List ℕ) (rows : List Joined) → rows_over from (choosing n touched (items_of tables from)) ≡ Ok rows
    → (i : ℕ) → i < length rows → length (places_in (slice_index_or rows i [])) ≡ length from.tables
chosen_wide tables from n touched rows e i h =
    (are_places from (choosing n touched (items_of tables from)) rows e).wide i h ∙ chosen_long n (items_of tables from) (rows_at_places (slice_index_or (items_of tables from) n []) touched) ∙ items_long tables from

pub rows_wide : (tables : Tables) (from : FromPart) (rows : List Joined) → rows_over from (items_of tables from) ≡ Ok rows
    → (i : ℕ) → i < length rows → length (places_in (slice_index_or rows i [])) ≡ length from.tables
rows_wide tables from rows e i h = (are_places from (items_of tables from) rows e).wide i h ∙ items_long tables from

-- ---- what a query answers
unmarked : {A E F : Type 0} (mark : E → F) (r : Result A E) (x : A) → marked mark r ≡ Ok x → r ≡ Ok x
unmarked mark (Ok y) x e = let p : y ≡ x = cc in ap Ok p
unmarked mark (Err f) x e = absurd (cc)

pub rows_from : (tables : Tables) (from : FromPart) (rows : List Joined) → marked (plain_fault 0) (joined_rows tables from) ≡ Ok rows → rows_over from (items_of tables from) ≡ Ok rows
rows_from tables from rows e = unmarked (plain_fault 0) (joined_rows tables from) rows e

pub kept_from : (tables : Tables) (from : FromPart) (rows : List Joined) → marked (plain_fault 0) (joined_rows tables from) ≡ Ok rows → Ok (map places_in rows) ≡ kept_rows_meant from (items_of tables from)
kept_from tables from rows e = ap (marked (plain_fault 0)) (sym (are_places from (items_of tables from) rows (rows_from tables from rows e)).kept)

pub all_gathered : (from : FromPart) (changed : List Bool) (moved : List (Option ℕ)) (touched : List ℕ) (old : List Places) (news : List (List Tuple)) → KeptBefore from changed moved touched old news
    → (out : List Places) → Gathered from changed moved touched old news (length changed) out → marked (plain_fault 0) (limited out) ≡ kept_rows_meant from news
all_gathered from changed moved touched old news b out g = ap (marked (plain_fault 0)) (sym (gathered_all from changed moved touched old news b (length changed) (omega arith) out g))

news_long : (changed : List Bool) (moved : List (Option ℕ)) (touched : List ℕ) (olds news : List (List Tuple)) → AllFollow moved touched changed olds news → length changed ≡ length news
news_long [] moved touched [] [] f = refl
news_long [] moved touched [] (new ∷ news) f = elim f [ ]
news_long [] moved touched (old ∷ olds) news f = elim f [ ]
news_long (c ∷ changed) moved touched [] news f = elim f [ ]
news_long (c ∷ changed) moved touched (old ∷ olds) [] f = elim f [ ]
news_long (true ∷ changed) moved touched (old ∷ olds) (new ∷ news) f = let r = news_long changed moved touched olds news f.1 in omega (arith, r)
news_long (false ∷ changed) moved touched (old ∷ olds) (new ∷ news) f = let r = news_long changed moved touched olds news f.1 in omega (arith, r)

pub changed_long : (tables : Tables) (from : FromPart) (changed : List Bool) (moved : List (Option ℕ)) (touched : List ℕ) (old : List Places) → KeptBefore from changed moved touched old (items_of tables from)
    → length changed ≡ length from.tables
changed_long tables from changed moved touched old b = news_long changed moved touched b.olds (items_of tables from) b.follow ∙ items_long tables from

-- a FROM item is done, whether its table was changed or not
pub next_gathered : (from : FromPart) (changed : List Bool) (moved : List (Option ℕ)) (touched : List ℕ) (old : List Places) (news : List (List Tuple)) → KeptBefore from changed moved touched old news
    → (n : ℕ) (before after : PlaceRows) → (slice_index_or changed n false ≡ true → AddsTouched from n touched news before after) → (slice_index_or changed n false ≡ false → after ≡ before)
    → Gathered from changed moved touched old news n before.rows → (after.width ≡ before.width) × Gathered from changed moved touched old news (n + 1) after.rows
next_gathered from changed moved touched old news b n before after adds same g = by (slice_index_or changed n false) refl
  where
    by : (c : Bool) → slice_index_or changed n false ≡ c → (after.width ≡ before.width) × Gathered from changed moved touched old news (n + 1) after.rows
    by true e = let a = adds e in (a.wide, added from changed moved touched old news b n before after e a g)
    by false e = let s = same e in (ap (λ (p : PlaceRows). p.width) s, subst (λ (p : PlaceRows). Gathered from changed moved touched old news (n + 1) p.rows) (sym s) (next_same from changed moved touched old news b n before.rows g e))
