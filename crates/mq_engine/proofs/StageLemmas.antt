-- What a staged change is of, and how many rows it counts at most.
use Rattle.std.proofs.Common.{◌≡◌, ℕ, ◌+◌, ◌*◌, ◌≤◌, List, [], ◌∷◌, ◌++◌, Bool, true, false, cond, length, map, Option, Some, None, Result, Ok, Err, refl, sym, ap, ◌∙◌, subst, arith}
use Rattle.std.specs.Prelude.{if◌then◌else◌, nat_lt}
use Rattle.std.specs.List.{enumerate_from, filter}
use Rattle.std.specs.Option.{ok_or}
use Rattle.std.proofs.lemmas.Bool.{ltb-false}
use Rattle.std.proofs.lemmas.List.{length-map}
use Rattle.std.proofs.lemmas.List.FromFn.{length-enumerate_from}
use Rattle.mq_values.specs.declared.faults.Refused.{Refused}
use Rattle.mq_values.specs.declared.faults.Refused.TheVariants as refused
use Rattle.mq_values.specs.declared.limits.TheConstants.{MAX_ROWS, MAX_VALUES}
use Rattle.mq_ir.specs.declared.limit_numbers.TheConstants.{LIMIT_OF_ROWS, LIMIT_OF_VALUES}
use Rattle.mq_ir.specs.declared.statement.Change.{Change}
use Rattle.mq_ir.specs.declared.statement.Change.TheVariants.{Insert, Append, Update, Delete}
use Rattle.mq_ir.specs.Changes.{Changed, Visited, deleted_row, inserted_row, key_fault, rows_added, rows_changed, size_fault, table_of, updated_row, value_count, visited_as}
use Rattle.mq_ir.specs.Partitions.{Tuple}
use Rattle.mq_ir.specs.Results.{◌>>=◌, each}
use Rattle.mq_ir.specs.Statement.{staged, unless_refused}
use Rattle.mq_ir.specs.Tables.{Table, Tables, is_name, table_at}
use Rattle.mq_tables.specs.Pending.{held, holding, with_pending}
use Rattle.mq_tables.specs.Staging.{Staged, origins_of, staging}
use Rattle.mq_kept.specs.ReadyLaws.{each_length}
use Rattle.mq_engine.proofs.NameLemmas.{name_is}

-- the table that is found has the name
found_name : (tables : Tables) (name : List ℕ) (t : Table) → table_at tables name ≡ Some t → name ≡ t.name
found_name [] name t h = absurd (cc)
found_name (u ∷ us) name t h = by (is_name name u.name) refl (found_name us name t) h
  where
    by : (b : Bool) → is_name name u.name ≡ b → (table_at us name ≡ Some t → name ≡ t.name) → (if b then Some u else table_at us name) ≡ Some t → name ≡ t.name
    by true e k g = name_is name u.name e ∙ ap (λ (v : Table). v.name) (let q : u ≡ t = cc in q)
    by false e k g = k g

-- ---- how many rows are counted
some_kept : {A : Type 0} (p : A → Bool) (xs : List A) → length (filter p xs) ≤ length xs
some_kept p [] = omega arith
some_kept p (x ∷ xs) = by (p x) (some_kept p xs)
  where
    by : (b : Bool) → length (filter p xs) ≤ length xs → length (cond b (x ∷ filter p xs) (filter p xs)) ≤ length (x ∷ xs)
    by true h = omega arith
    by false h = omega arith

visited_count : (rows : List Visited) → length (visited_as true rows) ≤ length rows
visited_count rows =
    omega (arith, length-map (filter (λ (row : Visited). row.1) rows) (λ (row : Visited). row.0), some_kept (λ (row : Visited). row.1) rows)

abbrev Within : Table → Change → Changed → Type 0
Within t change c = c.1 ≤ length t.rows + rows_added change

then_counted : {A : Type 0} (r : Result (List A) Refused) (f : List A → Changed) (c : Changed) (n : ℕ) → (r >>= (λ xs. Ok (f xs))) ≡ Ok c
    → ((xs : List A) → r ≡ Ok xs → (f xs).1 ≤ n) → c.1 ≤ n
then_counted (Ok xs) f c n h k = let q : f xs ≡ c = cc in subst (λ (c : Changed). c.1 ≤ n) q (k xs refl)
then_counted (Err e) f c n h k = absurd (cc)

rows_counted : (t : Table) (change : Change) (c : Changed) → rows_changed t change ≡ Ok c → Within t change c
rows_counted t (Insert name rows) c h =
    then_counted (each (inserted_row t.schema) (enumerate_from 1 rows)) (λ (new : List Tuple). (t.rows ++ new, length new)) c (length t.rows + length rows) h
    (λ new e. omega (arith, each_length (inserted_row t.schema) (enumerate_from 1 rows) new e, length-enumerate_from 1 rows))
rows_counted t (Append name rows) c h =
    let q : (t.rows ++ rows, length rows) ≡ c = cc in subst (λ (c : Changed). c.1 ≤ length t.rows + length rows) q (omega arith)
rows_counted t (Update name sets filter) c h =
    then_counted (each (updated_row t.schema sets filter) (enumerate_from 1 t.rows)) (λ (rows : List Visited). (map (λ (row : Visited). row.0) rows, length (visited_as true rows))) c
    (length t.rows + 0) h
    (λ rows e. omega (arith, visited_count rows, each_length (updated_row t.schema sets filter) (enumerate_from 1 t.rows) rows e, length-enumerate_from 1 t.rows))
rows_counted t (Delete name filter) c h =
    then_counted (each (deleted_row filter) (enumerate_from 1 t.rows)) (λ (rows : List Visited). (visited_as false rows, length (visited_as true rows))) c (length t.rows + 0) h
    (λ rows e. omega (arith, visited_count rows, each_length (deleted_row filter) (enumerate_from 1 t.rows) rows e, length-enumerate_from 1 t.rows))

first_none : (b : Bool) (e : Refused) (later : Option Refused) → (if b then Some e else later) ≡ None → b ≡ false
first_none true e later h = absurd (cc)
first_none false e later h = refl

within_limit : (tables : Tables) (t : Table) (added : ℕ) → size_fault tables t added ≡ None → length t.rows + added ≤ MAX_ROWS
within_limit tables t added h =
    let many : Option Refused =
    if nat_lt MAX_VALUES (value_count tables + added * length t.schema.cols) then Some (refused.Limit LIMIT_OF_VALUES) else None in
    ltb-false MAX_ROWS (length t.rows + added) (first_none (nat_lt MAX_ROWS (length t.rows + added)) (refused.Limit LIMIT_OF_ROWS) many h)

staged_counted : (tables : Tables) (t : Table) (change : Change) (c : Changed) → staged tables t change ≡ Ok c → c.1 ≤ MAX_ROWS
staged_counted tables t change c h = by (size_fault tables t (rows_added change)) refl (rows_changed t change) refl h
  where
    last : (o : Option Refused) (d : Changed) → unless_refused o (Ok d) ≡ Ok c → d ≡ c
    last None d g = cc
    last (Some e) d g = absurd (cc)

    by : (o : Option Refused) → size_fault tables t (rows_added change) ≡ o → (r : Result Changed Refused) → rows_changed t change ≡ r
        → unless_refused o (r >>= (λ d. unless_refused (key_fault t.schema d.0) (Ok d))) ≡ Ok c → c.1 ≤ MAX_ROWS
    by None s (Ok d) e g =
        let q : d ≡ c = last (key_fault t.schema d.0) d g in
        let most = within_limit tables t (rows_added change) s in
        let counted = rows_counted t change d e in
        subst (λ (c : Changed). c.1 ≤ MAX_ROWS) q (omega (arith, most, counted))
    by None s (Err f) e g = absurd (cc)
    by (Some f) s r e g = absurd (cc)

-- ---- what is staged
record IsOfChange (change : Change) (s : Staged) : Type 0 where
  name : s.table ≡ table_of change
  counted : s.counted ≤ MAX_ROWS

staged_as : (tables : Tables) (change : Change) (s : Staged) → staging tables change ≡ Ok s → IsOfChange change s
staged_as tables change s h = by (table_at tables (table_of change)) refl h
  where
    one : (t : Table) → table_of change ≡ t.name → (r : Result Changed Refused) → staged tables t change ≡ r → (o : Result (List (Option ℕ)) Refused)
        → (r >>= (λ changed. o >>= (λ origins. Ok (record { table = t.name; had = length t.rows; rows = changed.0; counted = changed.1; origins = origins })))) ≡ Ok s → IsOfChange change s
    one t n (Ok changed) e (Ok origins) g =
        let q : record { table = t.name; had = length t.rows; rows = changed.0; counted = changed.1; origins = origins } ≡ s = cc in
        subst (IsOfChange change) q (record { name = sym n; counted = staged_counted tables t change changed e })
    one t n (Ok changed) e (Err f) g = absurd (cc)
    one t n (Err f) e o g = absurd (cc)

    by : (o : Option Table) → table_at tables (table_of change) ≡ o
        → (ok_or o (refused.UnknownName (table_of change)) >>= (λ (t : Table).
        staged tables t change >>= (λ changed. origins_of t change >>= (λ origins.
        Ok (record { table = t.name; had = length t.rows; rows = changed.0; counted = changed.1; origins = origins })))))
        ≡ Ok s → IsOfChange change s
    by None e g = absurd (cc)
    by (Some t) e g = one t (found_name tables (table_of change) t e) (staged tables t change) refl (origins_of t change) g

pub staged_name : (tables : Tables) (change : Change) (s : Staged) → staging tables change ≡ Ok s → s.table ≡ table_of change
staged_name tables change s h = (staged_as tables change s h).name

-- holding a change counts no more rows than a table may have
abbrev kept : List Staged → Change → Staged → Result (List Staged × ℕ) Refused
kept pending change step = Ok (held (table_of change) pending step, step.counted)

pub held_count : (tables : Tables) (pending after : List Staged) (change : Change) (count : ℕ) → holding tables pending change ≡ Ok (after, count) → count ≤ MAX_ROWS
held_count tables pending after change count h = by (staging (with_pending tables pending) change) refl h
  where
    by : (r : Result Staged Refused) → staging (with_pending tables pending) change ≡ r → (r >>= kept pending change) ≡ Ok (after, count) → count ≤ MAX_ROWS
    by (Ok step) e g =
        let q : ◌≡◌ {A = List Staged × ℕ} (held (table_of change) pending step, step.counted) (after, count) = cc in
        let most = (staged_as (with_pending tables pending) change step e).counted in
        subst (λ (n : ℕ). n ≤ MAX_ROWS) (ap (λ (it : List Staged × ℕ). it.1) q) most
    by (Err f) e g = absurd (cc)
