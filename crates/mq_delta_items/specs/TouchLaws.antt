-- What mq_tables tells of a change says how the tables stand to those before it.
use Rattle.std.proofs.Common.{◌≡◌, ℕ, suc, ◌+◌, Bool, true, false, not, ◌&&◌, List, [], ◌∷◌, ◌++◌, length, map, take, Option, Some, None}
use Rattle.std.proofs.Common.{Result, Ok, Err, refl, sym, ap, ◌∙◌, subst, nat_eq}
use Rattle.std.specs.Prelude.{if◌then◌else◌}
use Rattle.std.specs.Cmp.Lexicographic.{pointwise}
use Rattle.std.specs.List.{AllZip, enumerate_from, filter, zip}
use Rattle.std.specs.Option.{ok_or, option_map_or}
use Rattle.std.proofs.lemmas.Bool.{eqb-true}
use Rattle.std.proofs.lemmas.List.{take_at}
use Rattle.mq_values.specs.declared.faults.Refused.{Refused}
use Rattle.mq_values.specs.declared.faults.Refused.TheVariants as refused
use Rattle.mq_values.specs.declared.value.Value.{Value}
use Rattle.mq_ir.specs.declared.expression.Expr.{Expr}
use Rattle.mq_ir.specs.declared.statement.Change.{Change}
use Rattle.mq_ir.specs.declared.statement.Change.TheVariants.{Insert, Append, Update, Delete}
use Rattle.mq_ir.specs.declared.statement.Schema.{Schema}
use Rattle.mq_ir.specs.Changes.{Changed, Visited, deleted_row, inserted_row, is_chosen, key_fault, rows_added, rows_changed, set_values}
use Rattle.mq_ir.specs.Changes.{size_fault, table_of, updated_row, visited_as, with_values}
use Rattle.mq_ir.specs.Keys.{Tuple}
use Rattle.mq_ir.specs.Results.{◌>>=◌, each}
use Rattle.mq_ir.specs.Statement.{staged, unless_refused, with_rows}
use Rattle.mq_ir.specs.Tables.{Table, Tables, is_name, rows_of, table_at}
use Rattle.mq_tables.specs.declared.touched.Touched.{Touched}
use Rattle.mq_tables.specs.declared.touched.Touched.TheVariants.{Added, Replaced, Gone}
use Rattle.mq_tables.specs.InPlace.{applied, items_left}
use Rattle.mq_tables.specs.Staging.{Staged, origins_of, staging}
use Rattle.mq_tables.specs.Touching.{touched_by, touching}
use Rattle.mq_tables.specs.Visits.{flags_of, taken}
use Rattle.mq_delta_items.specs.Touching.{ChangesTouch, IsReplaced, IsTouchedBy, SameUnmarked, TableChanges}
use Rattle.mq_delta_items.specs.Touching.{same_end, same_marked, same_unmarked}

-- ---- steps that may fail
pub ok_same : {A E : Type 0} (a b : A) → ◌≡◌ {A = Result A E} (Ok a) (Ok b) → a ≡ b
ok_same a b h = cc

pub then_is : {A B E : Type 0} (r : Result A E) (f : A → Result B E) (y : B) → (r >>= f) ≡ Ok y → (x : A) × (r ≡ Ok x) × (f x ≡ Ok y)
then_is (Ok x) f y h = (x, refl, h)
then_is (Err e) f y h = absurd (cc)

pub mapped_is : {A B E : Type 0} (r : Result A E) (g : A → B) (y : B) → (r >>= (λ x. Ok (g x))) ≡ Ok y → (x : A) × (r ≡ Ok x) × (g x ≡ y)
mapped_is (Ok x) g y h = (x, refl, ok_same (g x) y h)
mapped_is (Err e) g y h = absurd (cc)

-- what two things are made of the same value
both_are : {A B C E : Type 0} (r : Result A E) (f : A → B) (g : A → C) (y : B) (z : C) → (r >>= (λ x. Ok (f x))) ≡ Ok y
    → (r >>= (λ x. Ok (g x))) ≡ Ok z → (x : A) × (r ≡ Ok x) × (f x ≡ y) × (g x ≡ z)
both_are (Ok x) f g y z h k = (x, refl, ok_same (f x) y h, ok_same (g x) z k)
both_are (Err e) f g y z h k = absurd (cc)

found_is : {A E : Type 0} (o : Option A) (e : E) (x : A) → ok_or o e ≡ Ok x → o ≡ Some x
found_is None e x h = absurd (cc)
found_is (Some y) e x h = ap Some (ok_same y x h)

unless_is : {A : Type 0} (o : Option Refused) (r : Result A Refused) (y : A) → unless_refused o r ≡ Ok y → r ≡ Ok y
unless_is None r y h = h
unless_is (Some e) r y h = absurd (cc)

-- ---- names
name_is : (a b : List ℕ) → is_name a b ≡ true → a ≡ b
name_is [] [] h = refl
name_is [] (y ∷ ys) h = absurd (cc)
name_is (x ∷ xs) [] h = absurd (cc)
name_is (x ∷ xs) (y ∷ ys) h = by (nat_eq x y) refl (name_is xs ys) h
  where
    by : (b : Bool) → nat_eq x y ≡ b → (is_name xs ys ≡ true → xs ≡ ys) → (b && pointwise nat_eq xs ys) ≡ true → x ∷ xs ≡ y ∷ ys
    by true e k g = let p : x ≡ y = eqb-true x y e in let q : xs ≡ ys = k g in cc
    by false e k g = absurd (cc)

-- a table that was found has the name
own_name : (tables : Tables) (name : List ℕ) (t : Table) → table_at tables name ≡ Some t → name ≡ t.name
own_name [] name t h = absurd (cc)
own_name (u ∷ tables) name t h = by (is_name name u.name) refl (own_name tables name t) h
  where
    by : (b : Bool) → is_name name u.name ≡ b → (table_at tables name ≡ Some t → name ≡ t.name)
        → (if b then Some u else table_at tables name) ≡ Some t → name ≡ t.name
    by true e k g = let q : u ≡ t = cc in name_is name u.name e ∙ ap (λ (z : Table). z.name) q
    by false e k g = k g

abbrev rows_in : Option Table → List Tuple
rows_in o = option_map_or (λ (t : Table). t.rows) o []

-- the rows of a table that are put
module _ (name : List ℕ) (rows : List Tuple) where
  abbrev put : Table → Table
  put t = if is_name name t.name then record t { rows = rows } else t

  put_there : (tables : Tables) (t : Table) → table_at tables name ≡ Some t → rows_of (with_rows tables name rows) name ≡ rows
  put_there [] t h = absurd (cc)
  put_there (u ∷ tables) t h = by (is_name name u.name) refl (put_there tables t) h
    where
      found : Bool → Table → List Tuple
      found b t = rows_in (if b then Some t else table_at (with_rows tables name rows) name)

      by : (b : Bool) → is_name name u.name ≡ b → (table_at tables name ≡ Some t → rows_of (with_rows tables name rows) name ≡ rows)
          → (if b then Some u else table_at tables name) ≡ Some t
          → rows_of ((if b then record u { rows = rows } else u) ∷ with_rows tables name rows) name ≡ rows
      by true e k g = ap (λ b. found b (record u { rows = rows })) e
      by false e k g = ap (λ b. found b u) e ∙ k g

  -- those of another name stay
  put_elsewhere : (other : List ℕ) → is_name name other ≡ false → (tables : Tables)
      → rows_of (with_rows tables name rows) other ≡ rows_of tables other
  put_elsewhere other apart [] = refl
  put_elsewhere other apart (u ∷ tables) = by (is_name name u.name) refl (is_name other u.name) refl (put_elsewhere other apart tables)
    where
      -- the rows of the other name, where b tells whether the first table has it
      found : Bool → Table → List Tuple
      found b t = rows_in (if b then Some t else table_at (with_rows tables name rows) other)

      by : (a : Bool) → is_name name u.name ≡ a → (b : Bool) → is_name other u.name ≡ b
          → rows_of (with_rows tables name rows) other ≡ rows_of tables other
          → rows_of ((if a then record u { rows = rows } else u) ∷ with_rows tables name rows) other
          ≡ rows_in (if b then Some u else table_at tables other)
      by true e true f k =
          let same : other ≡ u.name = name_is other u.name f in
          let q : true ≡ false = sym e ∙ ap (is_name name) (sym same) ∙ apart in
          absurd (cc)
      by true e false f k = ap (λ b. found b (record u { rows = rows })) f ∙ k
      by false e true f k = ap (λ b. found b u) f
      by false e false f k = ap (λ b. found b u) f ∙ k

-- ---- rows that are visited one by one
module _ (f : ℕ × Tuple → Result Visited Refused) (P : Tuple → Visited → Type 0)
    (told : (n : ℕ) (row : Tuple) (v : Visited) → f (n, row) ≡ Ok v → P row v) where
  visits : (n : ℕ) (rows : List Tuple) (visited : List Visited) → each f (enumerate_from n rows) ≡ Ok visited → AllZip P rows visited
  visits n [] visited h = subst (AllZip P []) (ok_same [] visited h) tt
  visits n (row ∷ rows) visited h =
      let rest = each f (enumerate_from (n + 1) rows) in
      let first = then_is (f (n, row)) (λ v. rest >>= (λ vs. Ok (v ∷ vs))) visited h in
      let others = mapped_is rest (λ vs. first.0 ∷ vs) visited first.2 in
      subst (AllZip P (row ∷ rows)) others.2 (told n row first.0 first.1, visits (n + 1) rows others.0 others.1)

flags_many : (P : Tuple → Visited → Type 0) (rows : List Tuple) (visited : List Visited) → AllZip P rows visited
    → length (flags_of visited) ≡ length rows
flags_many P [] [] all = refl
flags_many P [] (v ∷ visited) all = absurd all
flags_many P (row ∷ rows) [] all = absurd all
flags_many P (row ∷ rows) (v ∷ visited) all = ap suc (flags_many P rows visited all.1)

-- ---- UPDATE
-- a row that is not visited as true stays
abbrev StaysUnless : Tuple → Visited → Type 0
StaysUnless row v = v.1 ≡ false → v.0 ≡ row

stays : (schema : Schema) (sets : List (ℕ × Expr)) (test : Option Expr) (n : ℕ) (row : Tuple) (v : Visited)
    → updated_row schema sets test (n, row) ≡ Ok v → StaysUnless row v
stays schema sets test n row v h unless = by (is_chosen test (n, row)) h
  where
    chosen : (r : Result (List (ℕ × Value)) Refused) → (r >>= (λ values. Ok (with_values row values, true))) ≡ Ok v → v.0 ≡ row
    chosen r g =
        let it = mapped_is r (λ values. (with_values row values, true)) v g in
        let q : true ≡ false = ap (λ (w : Visited). w.1) it.2 ∙ unless in
        absurd (cc)

    by : (r : Result Bool Refused)
        → (r >>= (λ chosen.
        elim chosen [
          | true ↦ set_values schema sets (n, row) >>= (λ values. Ok (with_values row values, true))
          | false ↦ Ok (row, false)
        ])) ≡ Ok v
        → v.0 ≡ row
    by (Ok true) g = chosen (set_values schema sets (n, row)) g
    by (Ok false) g = ap (λ (w : Visited). w.0) (sym (ok_same (row, false) v g))
    by (Err d) g = absurd (cc)

abbrev place : {A : Type 0} → ℕ × A → ℕ
place row = row.0

abbrev is_taken : ℕ × (Tuple × Bool) → Bool
is_taken row = row.1.1

abbrev stood : ℕ × (Tuple × Bool) → ℕ × Tuple
stood row = (row.0, row.1.0)

abbrev is_marked : ℕ × Bool → Bool
is_marked mark = mark.1

-- rows that are taken, and marks that are set, from a place on
abbrev taken_from : ℕ → List Tuple → List Visited → List (ℕ × (Tuple × Bool))
taken_from n rows visited = filter is_taken (enumerate_from n (zip rows (flags_of visited)))

abbrev marks_from : ℕ → List Visited → List (ℕ × Bool)
marks_from n visited = filter is_marked (enumerate_from n (flags_of visited))

places_from : (n : ℕ) (rows : List Tuple) (visited : List Visited) → AllZip StaysUnless rows visited
    → map place (map stood (taken_from n rows visited)) ≡ map place (marks_from n visited)
places_from n [] [] all = refl
places_from n [] (v ∷ visited) all = absurd all
places_from n (row ∷ rows) [] all = absurd all
places_from n (row ∷ rows) (v ∷ visited) all = by v.1 (places_from (n + 1) rows visited all.1)
  where
    by : (b : Bool) → map place (map stood (taken_from (n + 1) rows visited)) ≡ map place (marks_from (n + 1) visited)
        → map place (map stood (if b then (n, (row, b)) ∷ taken_from (n + 1) rows visited else taken_from (n + 1) rows visited))
        ≡ map place (if b then (n, b) ∷ marks_from (n + 1) visited else marks_from (n + 1) visited)
    by true e = ap (λ l. n ∷ l) e
    by false e = e

abbrev rows_now : List Visited → List Tuple
rows_now visited = map (λ (v : Visited). v.0) visited

same_from : (rows : List Tuple) (visited : List Visited) → AllZip StaysUnless rows visited
    → SameUnmarked (flags_of visited) rows (rows_now visited)
same_from [] [] all = same_end
same_from [] (v ∷ visited) all = absurd all
same_from (row ∷ rows) [] all = absurd all
same_from (row ∷ rows) (v ∷ visited) all = by v.1 all.0 (same_from rows visited all.1)
  where
    by : (b : Bool) → (b ≡ false → v.0 ≡ row) → SameUnmarked (flags_of visited) rows (rows_now visited)
        → SameUnmarked (b ∷ flags_of visited) (row ∷ rows) (v.0 ∷ rows_now visited)
    by true h rest = same_marked rest
    by false h rest =
        subst (λ (is : Tuple). SameUnmarked (false ∷ flags_of visited) (row ∷ rows) (is ∷ rows_now visited)) (sym (h refl))
        (same_unmarked rest)

replaced : (rows : List Tuple) (visited : List Visited) → AllZip StaysUnless rows visited
    → IsReplaced (map place (taken rows visited)) rows (rows_now visited)
replaced rows visited all =
    record { marks = flags_of visited; places_are = places_from 0 rows visited all; same = same_from rows visited all }

-- ---- DELETE
abbrev IsRow : Tuple → Visited → Type 0
IsRow row v = v.0 ≡ row

keeps_row : (test : Option Expr) (n : ℕ) (row : Tuple) (v : Visited) → deleted_row test (n, row) ≡ Ok v → IsRow row v
keeps_row test n row v h = ap (λ (w : Visited). w.0) (sym (mapped_is (is_chosen test (n, row)) (λ chosen. (row, chosen)) v h).2)

paired : (rows : List Tuple) (visited : List Visited) → AllZip IsRow rows visited → zip rows (flags_of visited) ≡ visited
paired [] [] all = refl
paired [] (v ∷ visited) all = absurd all
paired (row ∷ rows) [] all = absurd all
paired (row ∷ rows) (v ∷ visited) all = let rest = paired rows visited all.1 in λ i. (sym all.0 i, v.1) ∷ rest i

left : (rows : List Tuple) (visited : List Visited) → AllZip IsRow rows visited
    → visited_as false visited ≡ items_left rows (flags_of visited)
left rows visited all = ap (λ (vs : List Visited). rows_now (filter (λ (v : Visited). not v.1) vs)) (sym (paired rows visited all))

-- ---- the rows of the table that is changed
behind : (rows new : List Tuple) (n count : ℕ) (changed : Changed) (touched : Touched) → (rows ++ new, n) ≡ changed
    → Added (length rows) count ≡ touched → IsTouchedBy touched rows changed.0
behind rows new n count changed touched h t =
    subst (λ (it : Touched). IsTouchedBy it rows changed.0) t
    (refl, ap (λ (it : Changed). take (length rows) it.0) (sym h) ∙ take_at rows new (length rows) refl)

rows_follow : (table : Table) (c : Change) (changed : Changed) (touched : Touched) → rows_changed table c ≡ Ok changed
    → touching table.schema table.rows c ≡ Ok touched → IsTouchedBy touched table.rows changed.0
rows_follow table (Insert name rows) changed touched h t =
    let made = each (inserted_row table.schema) (enumerate_from 1 rows) in
    let both =
    both_are made (λ new. (table.rows ++ new, length new)) (λ new. Added (length table.rows) (length new)) changed touched h t in
    behind table.rows both.0 (length both.0) (length both.0) changed touched both.2 both.3
rows_follow table (Append name rows) changed touched h t =
    behind table.rows rows (length rows) (length rows) changed touched (ok_same _ changed h) (ok_same _ touched t)
rows_follow table (Update name sets test) changed touched h t =
    let f = updated_row table.schema sets test in
    let made = each f (enumerate_from 1 table.rows) in
    let both =
    both_are made (λ (vs : List Visited). (rows_now vs, length (visited_as true vs))) (λ vs. Replaced (taken table.rows vs))
    changed touched h t in
    let all = visits f StaysUnless (stays table.schema sets test) 1 table.rows both.0 both.1 in
    subst (λ (it : Touched). IsTouchedBy it table.rows changed.0) both.3
    (subst (λ (it : Changed). IsReplaced (map place (taken table.rows both.0)) table.rows it.0) both.2 (replaced table.rows both.0 all))
rows_follow table (Delete name test) changed touched h t =
    let made = each (deleted_row test) (enumerate_from 1 table.rows) in
    let both =
    both_are made (λ (vs : List Visited). (visited_as false vs, length (visited_as true vs)))
    (λ vs. Gone (flags_of vs) (taken table.rows vs)) changed touched h t in
    let all = visits (deleted_row test) IsRow (keeps_row test) 1 table.rows both.0 both.1 in
    subst (λ (it : Touched). IsTouchedBy it table.rows changed.0) both.3
    (flags_many IsRow table.rows both.0 all, ap (λ (it : Changed). it.0) (sym both.2) ∙ left table.rows both.0 all)

-- ---- the tables
module _ (before now : Tables) (c : Change) (count : ℕ) (touched : Touched) (h : applied before c ≡ Ok (now, count))
    (t : touched_by before c ≡ Ok touched) where
  abbrev name : List ℕ
  name = table_of c

  abbrev unknown : Refused
  unknown = refused.UnknownName name

  done : (s : Staged) × (staging before c ≡ Ok s) × ◌≡◌ {A = Tables × ℕ} (with_rows before s.table s.rows, s.counted) (now, count)
  done = mapped_is (staging before c) (λ (s : Staged). (with_rows before s.table s.rows, s.counted)) (now, count) h

  abbrev noted : Table → Changed → List (Option ℕ) → Staged
  noted table changed origins =
      record { table = table.name; had = length table.rows; rows = changed.0; counted = changed.1; origins = origins }

  abbrev staged_with : Table → Result Staged Refused
  staged_with table =
      staged before table c >>= (λ changed. origins_of table c >>= (λ origins. Ok (noted table changed origins)))

  there : (table : Table) × (ok_or (table_at before name) unknown ≡ Ok table) × (staged_with table ≡ Ok done.0)
  there = then_is (ok_or (table_at before name) unknown) staged_with done.0 done.1

  abbrev table : Table
  table = there.0

  found : table_at before name ≡ Some table
  found = found_is (table_at before name) unknown table there.1

  -- its rows are changed
  made : (changed : Changed) × (staged before table c ≡ Ok changed)
      × ((origins_of table c >>= (λ origins. Ok (noted table changed origins))) ≡ Ok done.0)
  made =
      then_is (staged before table c) (λ changed. origins_of table c >>= (λ origins. Ok (noted table changed origins))) done.0
      there.2

  is_noted : (origins : List (Option ℕ)) × (origins_of table c ≡ Ok origins) × (noted table made.0 origins ≡ done.0)
  is_noted = mapped_is (origins_of table c) (noted table made.0) done.0 made.2

  rows_are : rows_changed table c ≡ Ok made.0
  rows_are =
      let judged = λ (changed : Changed). unless_refused (key_fault table.schema changed.0) (Ok changed) in
      let sized = unless_is (size_fault before table (rows_added c)) (rows_changed table c >>= judged) made.0 made.1 in
      let it = then_is (rows_changed table c) judged made.0 sized in
      it.1 ∙ unless_is (key_fault table.schema (it.0).0) (Ok it.0) made.0 it.2

  told : touching table.schema table.rows c ≡ Ok touched
  told = ap (λ (r : Result Table Refused). r >>= (λ u. touching u.schema u.rows c)) (sym there.1) ∙ t

  -- and put
  put_are : now ≡ with_rows before name made.0.0
  put_are =
      ap (λ (it : Tables × ℕ). it.0) (sym done.2)
      ∙ ap (λ (s : Staged). with_rows before s.table s.rows) (sym is_noted.2)
      ∙ ap (λ n. with_rows before n made.0.0) (sym (own_name before name table found))

  was : table.rows ≡ rows_of before name
  was = ap rows_in (sym found)

  is : made.0.0 ≡ rows_of now name
  is = sym (ap (λ (ts : Tables). rows_of ts name) put_are ∙ put_there name made.0.0 before table found)

  touches : TableChanges touched name before now
  touches = record {
    rows =
        subst (λ (rows : List Tuple). IsTouchedBy touched rows (rows_of now name)) was
        (subst (IsTouchedBy touched table.rows) is (rows_follow table c made.0 touched rows_are told));
    others =
        λ other apart. ap (λ (ts : Tables). rows_of ts other) put_are ∙ put_elsewhere name made.0.0 other apart before;
  }

pub changes_touch : ChangesTouch
changes_touch = touches
