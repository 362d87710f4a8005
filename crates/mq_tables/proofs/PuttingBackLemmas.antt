-- The rows that an UPDATE replaced, put back.
use Rattle.std.proofs.Common.{◌≡◌, ℕ, suc, ◌+◌, Bool, true, false, List, [], ◌∷◌, ◌++◌, length, map, Option, Some, None, Result, Ok, Err, refl, sym, ap, ◌∙◌, subst, arith, length-append, append_assoc}
use Rattle.std.specs.Prelude.{if◌then◌else◌, slice_set}
use Rattle.std.specs.List.{enumerate_from, filter, list_any, zip}
use Rattle.std.specs.Option.{ok_or, option_map_or}
use Rattle.mq_values.specs.declared.faults.Refused.{Refused}
use Rattle.mq_values.specs.declared.faults.Refused.TheVariants as refused
use Rattle.mq_ir.specs.declared.statement.Change.{Change}
use Rattle.mq_ir.specs.declared.statement.Change.TheVariants.{Insert, Append, Update, Delete}
use Rattle.mq_ir.specs.declared.statement.Schema.{Schema}
use Rattle.mq_ir.specs.Changes.{Changed, Visited, deleted_row, inserted_row, key_fault, row_key, rows_added, rows_changed, size_fault, table_of, updated_row, visited_as}
use Rattle.mq_ir.specs.Keys.{Tuple}
use Rattle.mq_ir.specs.Results.{◌>>=◌, each}
use Rattle.mq_ir.specs.Statement.{unless_refused, with_rows}
use Rattle.mq_ir.specs.Tables.{Table, Tables, is_name, rows_of, table_at}
use Rattle.mq_tables.specs.declared.touched.Touched.TheVariants.{Added, Replaced, Gone}
use Rattle.mq_tables.specs.Columns.{spares_key}
use Rattle.mq_tables.specs.Held.{HaveOwnNames}
use Rattle.mq_tables.specs.InPlace.{applied, put_at}
use Rattle.mq_tables.specs.KeyOrder.{judged}
use Rattle.mq_tables.specs.Pending.{step_of}
use Rattle.mq_tables.specs.PuttingBack.{AreReplaced, HaveSameKeys, ReplacedRows, UpdatesReplace, WasReplaced, sets_no_key}
use Rattle.mq_tables.specs.PuttingBack.{replaced_end, replaced_same, replaced_put}
use Rattle.mq_tables.specs.Staging.{Staged, origins_of, staging}
use Rattle.mq_tables.specs.Touching.{touched_by, touching}
use Rattle.mq_tables.specs.Visits.{flags_of, taken}
use Rattle.mq_tables.proofs.ChangingLemmas.{set_between, some_is, stays}
use Rattle.mq_tables.proofs.FitLemmas.{each_cons, each_nil}
use Rattle.mq_tables.proofs.HeldLemmas.{name_kept, names_same, untouched}
use Rattle.mq_tables.proofs.JudgeLemmas.{no_table, of_table}
use Rattle.mq_tables.proofs.SparedLemmas.{row_spared, rows_spared}
use Rattle.mq_tables.proofs.StandLemmas.{found_passes, name_is, ok_is, then_is}
use Rattle.mq_tables.proofs.VisitLemmas.{is_true, stood}

-- ---- rows that are put back
-- the rows in front stay
back_from : {n : ℕ} {were : List (ℕ × Tuple)} {before now : List Tuple} → AreReplaced n were before now → (front : List Tuple) → length front ≡ n → put_at were (front ++ now) ≡ front ++ before
back_from replaced_end front l = refl
back_from (replaced_same {n = n} {were = were} {row = row} {before = before} {now = now} rest) front l =
    ap (put_at were) (sym (append_assoc front (row ∷ []) now))
    ∙ back_from rest (front ++ row ∷ []) (length-append front (row ∷ []) ∙ (let e : length front + 1 ≡ suc n = omega (arith, l) in e))
    ∙ append_assoc front (row ∷ []) before
back_from (replaced_put {n = n} {were = were} {was = was} {is = is} {before = before} {now = now} rest) front l =
    ap (λ rows. slice_set (put_at were rows) n was) (sym (append_assoc front (is ∷ []) now))
    ∙ ap (λ rows. slice_set rows n was)
    (back_from rest (front ++ is ∷ []) (length-append front (is ∷ []) ∙ (let e : length front + 1 ≡ suc n = omega (arith, l) in e)) ∙ append_assoc front (is ∷ []) before)
    ∙ set_between front is was before n l

pub put_back : {were : List (ℕ × Tuple)} {before now : List Tuple} → AreReplaced 0 were before now → put_at were now ≡ before
put_back r = back_from r [] refl

-- ---- rows that UPDATE visits
abbrev rows_now : List Visited → List Tuple
rows_now visited = map (λ (row : Visited). row.0) visited

abbrev taken_from : ℕ → List Tuple → List Visited → List (ℕ × Tuple)
taken_from n rows visited = map stood (filter is_true (enumerate_from n (zip rows (flags_of visited))))

visits_replace : (f : ℕ × Tuple → Result Visited Refused) → ((n : ℕ) (row : Tuple) (v : Visited) → f (n, row) ≡ Ok v → v.1 ≡ false → v.0 ≡ row)
    → (m n : ℕ) (rows : List Tuple) (visited : List Visited) → each f (enumerate_from m rows) ≡ Ok visited → AreReplaced n (taken_from n rows visited) rows (rows_now visited)
visits_replace f s m n [] visited h = each_nil f visited (λ vs. AreReplaced n (taken_from n [] vs) [] (rows_now vs)) h replaced_end
visits_replace f s m n (row ∷ rows) visited h =
    each_cons f (m, row) (enumerate_from (m + 1) rows) visited (λ vs. AreReplaced n (taken_from n (row ∷ rows) vs) (row ∷ rows) (rows_now vs)) h (λ v rest e g.
    by v.1 v rest refl (s m row v e)
    (subst (λ k. AreReplaced k (taken_from (n + 1) rows rest) rows (rows_now rest)) (let q : n + 1 ≡ suc n = omega arith in q) (visits_replace f s (m + 1) (n + 1) rows rest g)))
  where
    by : (b : Bool) (v : Visited) (rest : List Visited) → v.1 ≡ b → (v.1 ≡ false → v.0 ≡ row) → AreReplaced (suc n) (taken_from (n + 1) rows rest) rows (rows_now rest)
        → AreReplaced n (map stood (if b then (n, (row, b)) ∷ filter is_true (enumerate_from (n + 1) (zip rows (flags_of rest))) else filter is_true (enumerate_from (n + 1) (zip rows (flags_of rest))))) (row ∷ rows) (v.0 ∷ rows_now rest)
    by true v rest e k p = replaced_put p
    by false v rest e k p = subst (λ (is : Tuple). AreReplaced n (taken_from (n + 1) rows rest) (row ∷ rows) (is ∷ rows_now rest)) (sym (k e)) (replaced_same p)

-- ---- the rows of a table are changed
table_put : (name : List ℕ) (rows : List Tuple) (ts : Tables) (t : Table) → table_at ts name ≡ Some t → table_at (with_rows ts name rows) name ≡ Some (record t { rows = rows })
table_put name rows [] t h = absurd (cc)
table_put name rows (u ∷ us) t h = by (is_name name u.name) refl (table_put name rows us t) h
  where
    by : (b : Bool) → is_name name u.name ≡ b → (table_at us name ≡ Some t → table_at (with_rows us name rows) name ≡ Some (record t { rows = rows })) → (if b then Some u else table_at us name) ≡ Some t
        → table_at ((if b then record u { rows = rows } else u) ∷ with_rows us name rows) name ≡ Some (record t { rows = rows })
    by true e k g =
        ap (λ b. if b then Some (record u { rows = rows }) else table_at (with_rows us name rows) name) e
        ∙ ap (λ (z : Table). Some (record z { rows = rows })) (let q : u ≡ t = cc in q)
    by false e k g = ap (λ b. if b then Some u else table_at (with_rows us name rows) name) e ∙ k g

-- those of another name are as they were
others_stay : (name : List ℕ) (rows : List Tuple) (other : List ℕ) → is_name name other ≡ false → (ts : Tables) → rows_of (with_rows ts name rows) other ≡ rows_of ts other
others_stay name rows other apart [] = refl
others_stay name rows other apart (u ∷ us) = by (is_name name u.name) refl (is_name other u.name) refl (others_stay name rows other apart us)
  where
    rows_in : Option Table → List Tuple
    rows_in o = option_map_or (λ (t : Table). t.rows) o []

    -- where b tells whether the first table has the other name
    found : Bool → Table → List Tuple
    found b t = rows_in (if b then Some t else table_at (with_rows us name rows) other)

    by : (a : Bool) → is_name name u.name ≡ a → (b : Bool) → is_name other u.name ≡ b → rows_of (with_rows us name rows) other ≡ rows_of us other
        → rows_of ((if a then record u { rows = rows } else u) ∷ with_rows us name rows) other ≡ rows_in (if b then Some u else table_at us other)
    by true e true f k = absurd (let q : true ≡ false = sym e ∙ ap (is_name name) (sym (name_is other u.name f)) ∙ apart in cc)
    by true e false f k = ap (λ b. found b (record u { rows = rows })) f ∙ k
    by false e true f k = ap (λ b. found b u) f
    by false e false f k = ap (λ b. found b u) f ∙ k

-- rows that come after others
rows_twice : (name : List ℕ) (first second : List Tuple) (ts : Tables) → with_rows (with_rows ts name first) name second ≡ with_rows ts name second
rows_twice name first second [] = refl
rows_twice name first second (u ∷ us) =
    ap (λ t. t ∷ with_rows (with_rows us name first) name second) (by (is_name name u.name) refl)
    ∙ ap (λ l. (if is_name name u.name then record u { rows = second } else u) ∷ l) (rows_twice name first second us)
  where
    put : Bool → List Tuple → Table → Table
    put b rows t = if b then record t { rows = rows } else t

    by : (b : Bool) → is_name name u.name ≡ b → put (is_name name (put b first u).name) second (put b first u) ≡ put b second u
    by true e = ap (λ b. put b second (record u { rows = first })) e
    by false e = ap (λ b. put b second u) e

-- a table that comes to its own rows
rows_same : (name : List ℕ) (ts : Tables) (t : Table) → HaveOwnNames ts → table_at ts name ≡ Some t → with_rows ts name t.rows ≡ ts
rows_same name [] t own h = refl
rows_same name (u ∷ us) t own h = by (is_name name u.name) refl (rows_same name us t own.1) h
  where
    by : (b : Bool) → is_name name u.name ≡ b → (table_at us name ≡ Some t → with_rows us name t.rows ≡ us) → (if b then Some u else table_at us name) ≡ Some t
        → (if b then record u { rows = t.rows } else u) ∷ with_rows us name t.rows ≡ u ∷ us
    by true e k g =
        ap (λ (z : Table). record u { rows = z.rows } ∷ with_rows us name t.rows) (let q : t ≡ u = cc in q)
        ∙ ap (λ l. u ∷ l) (untouched name t.rows us (ap (λ n. list_any (λ (v : Table). is_name n v.name) us) (name_is name u.name e) ∙ own.0))
    by false e k g = ap (λ l. u ∷ l) (k g)

names_before : (name : List ℕ) (rows : List Tuple) (ts : Tables) → HaveOwnNames (with_rows ts name rows) → HaveOwnNames ts
names_before name rows [] h = tt
names_before name rows (u ∷ us) h = (
  sym (names_same name rows us u.name) ∙ ap (λ m. list_any (λ (v : Table). is_name m v.name) (with_rows us name rows)) (sym (name_kept (is_name name u.name) rows u)) ∙ h.0,
  names_before name rows us h.1,
)

-- ---- an UPDATE that was made
-- its table, what the rows of it came to, and which of them were replaced
pub record Updated (before now : Tables) (c : Change) (were : List (ℕ × Tuple)) : Type 0 where
  pub table : Table
  pub there : table_at before (table_of c) ≡ Some table
  pub rows : List Tuple
  pub put : now ≡ with_rows before (table_of c) rows
  pub replaced : AreReplaced 0 were table.rows rows
  pub keys : sets_no_key before c ≡ true → map (row_key table.schema) rows ≡ map (row_key table.schema) table.rows

-- what is touched as replaced was visited by an UPDATE
record Visits (t : Table) (were : List (ℕ × Tuple)) (rows : List Tuple) (spared : Bool) : Type 0 where
  replaced : AreReplaced 0 were t.rows rows
  keys : spared ≡ true → map (row_key t.schema) rows ≡ map (row_key t.schema) t.rows

abbrev spares : Change → Schema → Bool
spares (Insert name rows) schema = false
spares (Append name rows) schema = false
spares (Update name sets filter) schema = spares_key sets schema.key
spares (Delete name filter) schema = false

visits : (t : Table) (c : Change) (changed : Changed) (were : List (ℕ × Tuple)) → rows_changed t c ≡ Ok changed → touching t.schema t.rows c ≡ Ok (Replaced were)
    → Visits t were changed.0 (spares c t.schema)
visits t (Insert name rows) changed were h k =
    let it = some_is (each (inserted_row t.schema) (enumerate_from 1 rows)) (λ new. Added (length t.rows) (length new)) (Replaced were) k in
    absurd (let q : Added (length t.rows) (length it.0) ≡ Replaced were = it.2 in cc)
visits t (Append name rows) changed were h k = absurd (cc)
visits t (Update name sets filter) changed were h k =
    let f = updated_row t.schema sets filter in
    let it = some_is (each f (enumerate_from 1 t.rows)) (λ vs. Replaced (taken t.rows vs)) (Replaced were) k in
    let are : (rows_now it.0, length (visited_as true it.0)) ≡ changed = ok_is _ changed (ap (λ (r : Result (List Visited) Refused). r >>= (λ vs. Ok (rows_now vs, length (visited_as true vs)))) (sym it.1) ∙ h) in
    let rows : rows_now it.0 ≡ changed.0 = ap (λ (m : Changed). m.0) are in
    record {
      replaced =
          subst (λ (l : List Tuple). AreReplaced 0 were t.rows l) rows
          (subst (λ (l : List (ℕ × Tuple)). AreReplaced 0 l t.rows (rows_now it.0)) (let q : taken t.rows it.0 ≡ were = cc in q) (visits_replace f (stays t.schema sets filter) 1 0 t.rows it.0 it.1));
      keys = λ s. ap (map (row_key t.schema)) (sym rows) ∙ rows_spared (row_key t.schema) f (row_spared t.schema sets filter s) 1 t.rows it.0 it.1;
    }
visits t (Delete name filter) changed were h k =
    let it = some_is (each (deleted_row filter) (enumerate_from 1 t.rows)) (λ vs. Gone (flags_of vs) (taken t.rows vs)) (Replaced were) k in
    absurd (let q : Gone (flags_of it.0) (taken t.rows it.0) ≡ Replaced were = it.2 in cc)

module _ (before now : Tables) (c : Change) (count : ℕ) (were : List (ℕ × Tuple)) (h : applied before c ≡ Ok (now, count)) (k : touched_by before c ≡ Ok (Replaced were)) where
  abbrev name : List ℕ
  name = table_of c

  done : (s : Staged) × (staging before c ≡ Ok s) × ◌≡◌ {A = Tables × ℕ} (with_rows before s.table s.rows, s.counted) (now, count)
  done = some_is (staging before c) (λ (s : Staged). (with_rows before s.table s.rows, s.counted)) (now, count) h

  -- its table is there
  of_this : (t : Table) → table_at before name ≡ Some t → Updated before now c were
  of_this t e =
      then_is (rows_changed t c) (λ changed. judged t.schema changed.0 >>= placed changed) s (Updated before now c were) stepped (λ changed d g.
      then_is (judged t.schema changed.0) (placed changed) s (Updated before now c were) g (λ after j l.
      then_is (origins_of t c) (λ origins. Ok (noted changed after origins)) s (Updated before now c were) l (λ origins o m.
      it changed after d (judged_same (key_fault t.schema changed.0) changed.0 after j) (ok_is (noted changed after origins) s m))))
    where
      s : Staged
      s = done.0

      noted : Changed → List Tuple → List (Option ℕ) → Staged
      noted changed after origins = record { table = t.name; had = length t.rows; rows = after; counted = changed.1; origins = origins }

      placed : Changed → List Tuple → Result Staged Refused
      placed changed after = origins_of t c >>= (λ origins. Ok (noted changed after origins))

      sized : (o : Option Refused) → unless_refused o (step_of t c) ≡ Ok s → step_of t c ≡ Ok s
      sized None g = g
      sized (Some d) g = absurd (cc)

      stepped : step_of t c ≡ Ok s
      stepped = sized (size_fault before t (rows_added c)) (sym (of_table before c t e) ∙ done.1)

      judged_same : (o : Option Refused) (rows after : List Tuple) → unless_refused o (Ok rows) ≡ Ok after → rows ≡ after
      judged_same None rows after g = ok_is rows after g
      judged_same (Some d) rows after g = absurd (cc)

      touched : touching t.schema t.rows c ≡ Ok (Replaced were)
      touched = ap (λ o. ok_or o (refused.UnknownName name) >>= (λ (u : Table). touching u.schema u.rows c)) (sym e) ∙ k

      spares_it : (c : Change) → table_at before (table_of c) ≡ Some t → sets_no_key before c ≡ spares c t.schema
      spares_it (Insert to rows) e = refl
      spares_it (Append to rows) e = refl
      spares_it (Update to sets filter) e = ap (λ o. option_map_or (λ (u : Table). spares_key sets u.schema.key) o false) e
      spares_it (Delete to filter) e = refl

      it : (changed : Changed) (after : List Tuple) → rows_changed t c ≡ Ok changed → changed.0 ≡ after → {origins : List (Option ℕ)} → noted changed after origins ≡ s → Updated before now c were
      it changed after d j m =
          let seen = visits t c changed were d touched in
          record {
            table = t;
            there = e;
            rows = changed.0;
            put =
                ap (λ (u : Tables × ℕ). u.0) (sym done.2)
                ∙ ap (λ (z : Staged). with_rows before z.table z.rows) (sym m)
                ∙ ap (λ n. with_rows before n after) (sym (own_name name t e))
                ∙ ap (with_rows before name) (sym j);
            replaced = seen.replaced;
            keys = λ z. seen.keys (sym (spares_it c e) ∙ z);
          }
        where
          own_name : (name : List ℕ) (t : Table) → table_at before name ≡ Some t → name ≡ t.name
          own_name name t e = name_is name t.name (found_passes (λ (u : Table). is_name name u.name) before t e)

  pub updated : Updated before now c were
  updated = by (table_at before name) refl
    where
      by : (o : Option Table) → table_at before name ≡ o → Updated before now c were
      by None e = absurd (let q : Err (refused.UnknownName name) ≡ Ok done.0 = sym (no_table before c e) ∙ done.1 in cc)
      by (Some t) e = of_this t e

  rows_are : (it : Updated before now c were) → rows_of now name ≡ it.rows
  rows_are it = ap (λ (ts : Tables). rows_of ts name) it.put ∙ ap (λ o. option_map_or (λ (t : Table). t.rows) o []) (table_put name it.rows before it.table it.there)

  pub replaces : ReplacedRows name were before now
  replaces =
      let it = updated in
      record {
        rows =
            subst (λ (l : List Tuple). AreReplaced 0 were l (rows_of now name)) (ap (λ o. option_map_or (λ (t : Table). t.rows) o []) (sym it.there))
            (subst (AreReplaced 0 were it.table.rows) (sym (rows_are it)) it.replaced);
        others = λ other apart. ap (λ (ts : Tables). rows_of ts other) it.put ∙ others_stay name it.rows other apart before;
      }

pub updates_replace : UpdatesReplace
updates_replace = replaces

-- ---- the rows that it replaced come back
module _ (c : Change) (were : List (ℕ × Tuple)) (before now : Tables) (w : WasReplaced c were before now) where
  abbrev it : Updated before now c were
  it = updated before now c w.count were w.made w.touched

  pub same_keys : HaveSameKeys now (table_of c) were
  same_keys t h =
      let q : Some (record it.table { rows = it.rows }) ≡ Some t = sym (table_put (table_of c) it.rows before it.table it.there) ∙ ap (λ (ts : Tables). table_at ts (table_of c)) (sym it.put) ∙ h in
      subst (λ (u : Table). map (row_key u.schema) (put_at were u.rows) ≡ map (row_key u.schema) u.rows) (let e : record it.table { rows = it.rows } ≡ t = cc in e)
      (ap (map (row_key it.table.schema)) (put_back it.replaced) ∙ sym (it.keys w.spared))

  pub restored : HaveOwnNames now → with_rows now (table_of c) (put_at were (rows_of now (table_of c))) ≡ before
  restored own =
      ap (λ (rows : List Tuple). with_rows now (table_of c) (put_at were rows)) (rows_are before now c w.count were w.made w.touched it)
      ∙ ap (with_rows now (table_of c)) (put_back it.replaced)
      ∙ ap (λ (ts : Tables). with_rows ts (table_of c) it.table.rows) it.put
      ∙ rows_twice (table_of c) it.rows it.table.rows before
      ∙ rows_same (table_of c) before it.table (names_before (table_of c) it.rows before (subst HaveOwnNames it.put own)) it.there
