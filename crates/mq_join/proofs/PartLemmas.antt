-- The parts of base rows, and where they come from.
use Rattle.std.proofs.Common.{◌≡◌, ℕ, zero, suc, ◌+◌, ◌<◌, ◌≤◌, List, [], ◌∷◌, ◌++◌, length, min, take, get_or, Option, Some, None, refl, sym, ap, ◌∙◌, arith}
use Rattle.std.specs.Prelude.{map, slice_get, slice_index_or, slice_set}
use Rattle.std.specs.List.{filter_map, zip}
use Rattle.std.specs.Option.{option_map, option_map_or, option_to_list, unwrap_or}
use Rattle.std.proofs.lemmas.List.{get_or-map, get_or_default, length-map, take_more}
use Rattle.std.proofs.lemmas.List.Elements.{filter_map-append}
use Rattle.std.proofs.lemmas.Slice.Zip.{get_or-zip, length-zip}
use Rattle.mq_ir.specs.declared.expression.Expr.{Expr}
use Rattle.mq_ir.specs.BaseRows.{Places, rows_at}
use Rattle.mq_ir.specs.Keys.{Tuple}
use Rattle.mq_ir.specs.Tables.{Table, Tables, rows_of, table_at}
use Rattle.mq_tables.specs.Rows.{rows_at as table_rows}
use Rattle.mq_join.specs.Chosen.{choosing, rows_at_places}
use Rattle.mq_join.specs.Rows.{joined_at, part_at}

-- the rows of a table that is there, and of one that is not
rows_or : (o : Option Table) (found : Option (List Tuple)) → option_map (λ (t : Table). t.rows) o ≡ found → option_map_or (λ (t : Table). t.rows) o [] ≡ unwrap_or found []
rows_or None found e = ap (λ o. unwrap_or o []) e
rows_or (Some t) found e = ap (λ o. unwrap_or o []) e

pub rows_found : (tables : Tables) (name : List ℕ) (found : Option (List Tuple)) → found ≡ table_rows tables name → rows_of tables name ≡ unwrap_or found []
rows_found tables name found e = rows_or (table_at tables name) found (sym e)

pub joined_long : (items : List (List Tuple)) (places : Places) → length (joined_at items places) ≡ min (length items) (length places)
joined_long items places = length-map (zip items places) part_at ∙ length-zip items places

pub part_is : (items : List (List Tuple)) (places : Places) (i : ℕ) (rows : List Tuple) (place : ℕ) (d : Tuple × ℕ) → i < length items → i < length places → rows ≡ get_or items i rows → place ≡ get_or places i place
    → (slice_index_or rows place [], place) ≡ get_or (joined_at items places) i d
part_is items places i rows place d a b e f =
    let within : i < length (zip items places) = omega (arith, a, b, length-zip items places) in
    let pair : ◌≡◌ {A = List Tuple × ℕ} (get_or items i rows, get_or places i place) (rows, place) = λ j. (sym e j, sym f j) in
    sym (get_or-map part_at (zip items places) i (rows, place) d within ∙ ap part_at (get_or-zip items places i (rows, place) a b ∙ pair))

-- the row of an item in a tuple
pub row_there : (items : List (List Tuple)) (places : Places) (k : ℕ) (rows : List Tuple) (place : ℕ) → slice_get items k ≡ Some rows → slice_get places k ≡ Some place
    → slice_index_or (rows_at items places) k [] ≡ slice_index_or rows place []
row_there [] places k rows place a b = absurd (cc)
row_there (one ∷ items) [] k rows place a b = absurd (cc)
row_there (one ∷ items) (p ∷ places) zero rows place a b = let x : one ≡ rows = cc in let y : p ≡ place = cc in λ i. slice_index_or (x i) (y i) []
row_there (one ∷ items) (p ∷ places) (suc k) rows place a b = row_there items places k rows place a b

pub no_item : (items : List (List Tuple)) (places : Places) (k : ℕ) → slice_get items k ≡ None → slice_index_or (rows_at items places) k [] ≡ []
no_item [] places k a = refl
no_item (one ∷ items) [] k a = refl
no_item (one ∷ items) (p ∷ places) zero a = absurd (cc)
no_item (one ∷ items) (p ∷ places) (suc k) a = no_item items places k a

pub no_place : (items : List (List Tuple)) (places : Places) (k : ℕ) → slice_get places k ≡ None → slice_index_or (rows_at items places) k [] ≡ []
no_place [] places k a = refl
no_place (one ∷ items) [] k a = refl
no_place (one ∷ items) (p ∷ places) zero a = absurd (cc)
no_place (one ∷ items) (p ∷ places) (suc k) a = no_place items places k a

-- the conditions as a loop has come to them
one_condition : (x : Option Expr) → filter_map (λ (on : Option Expr). on) (x ∷ []) ≡ option_to_list x
one_condition None = refl
one_condition (Some e) = refl

pub conditions_more : (ons : List (Option Expr)) (i : ℕ) (x : Option Expr) → i < length ons → x ≡ get_or ons i x
    → filter_map (λ (on : Option Expr). on) (take (i + 1) ons) ≡ filter_map (λ (on : Option Expr). on) (take i ons) ++ option_to_list x
conditions_more ons i x h e =
    ap (filter_map (λ (on : Option Expr). on)) (take_more ons i x h)
    ∙ filter_map-append (λ (on : Option Expr). on) (take i ons) (get_or ons i x ∷ [])
    ∙ ap (λ ys. filter_map (λ (on : Option Expr). on) (take i ons) ++ ys) (one_condition (get_or ons i x))
    ∙ ap (λ y. filter_map (λ (on : Option Expr). on) (take i ons) ++ option_to_list y) (sym e)

pub placed_part : (items : List (List Tuple)) (places : Places) (i : ℕ) (rows : List Tuple) (row : Tuple) (part : Tuple × ℕ) → i < length items → i < length places → rows ≡ get_or items i rows
    → row ≡ get_or rows (get_or places i 0) [] → part ≡ (row, get_or places i 0) → part ≡ get_or (joined_at items places) i part
placed_part items places i rows row part a b e f g =
    g
    ∙ (λ j. (f j, get_or places i 0))
    ∙ part_is items places i rows (get_or places i 0) part a b e (get_or_default places i 0 (get_or places i 0) b)

-- one item more, as a loop pushes it
pub one_pushed : {X : Type 0} (xs : List X) (i : ℕ) (before after : List X) (x : X) → i < length xs → x ≡ get_or xs i x → before ≡ take i xs → after ≡ before ++ x ∷ [] → after ≡ take (i + 1) xs
one_pushed xs i before after x h e b a = a ∙ ap (λ ys. ys ++ x ∷ []) b ∙ (λ j. take i xs ++ e j ∷ []) ∙ sym (take_more xs i x h)

-- one FROM item with some of its rows alone
pub chosen_there : (tables : Tables) (names : List (List ℕ)) (items : List (List Tuple)) (item : ℕ) (name : List ℕ) (places : List ℕ) (rows chosen : List Tuple) → items ≡ map (rows_of tables) names
    → slice_get names item ≡ Some name → rows ≡ rows_of tables name → chosen ≡ rows_at_places rows places → slice_set items item chosen ≡ choosing item places items
chosen_there tables names items item name places rows chosen i g r c =
    ap (slice_set items item) (c ∙ ap (λ l. rows_at_places l places) (r ∙ sym (found names item g) ∙ ap (λ l. slice_index_or l item []) (sym i)))
  where
    found : (names : List (List ℕ)) (item : ℕ) → slice_get names item ≡ Some name → slice_index_or (map (rows_of tables) names) item [] ≡ rows_of tables name
    found [] item g = absurd (cc)
    found (n ∷ names) zero g = let e : n ≡ name = cc in ap (rows_of tables) e
    found (n ∷ names) (suc item) g = found names item g

pub chosen_past : (tables : Tables) (names : List (List ℕ)) (items : List (List Tuple)) (item : ℕ) (places : List ℕ) → items ≡ map (rows_of tables) names → slice_get names item ≡ None → items ≡ choosing item places items
chosen_past tables names items item places i g =
    ap (λ l. l) (sym (past items item (rows_at_places (slice_index_or items item []) places) (behind names item g (ap length i ∙ length-map names (rows_of tables)))))
  where
    behind : (names : List (List ℕ)) (item : ℕ) → slice_get names item ≡ None → length items ≡ length names → length items ≤ item
    behind names item g e = omega (arith, e, less names item g)
      where
        less : (names : List (List ℕ)) (item : ℕ) → slice_get names item ≡ None → length names ≤ item
        less [] item g = omega arith
        less (n ∷ names) zero g = absurd (cc)
        less (n ∷ names) (suc item) g = let r = less names item g in omega (arith, r)

    past : (xs : List (List Tuple)) (k : ℕ) (x : List Tuple) → length xs ≤ k → slice_set xs k x ≡ xs
    past [] k x h = refl
    past (y ∷ xs) zero x h = absurd (omega (arith, h))
    past (y ∷ xs) (suc k) x h = ap (λ l. y ∷ l) (past xs k x (omega (arith, h)))

pub ruleset chosen_steps = (chosen_there, chosen_past)
