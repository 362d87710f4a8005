-- Rows that are held beside tables, and what holding a change comes to.
use Rattle.std.proofs.Common.{◌≡◌, ℕ, List, [], ◌∷◌, ◌++◌, Bool, true, false, length, map, Some, Result, Ok, Err, refl, sym, ap, ◌∙◌, arith}
use Rattle.std.specs.Prelude.{if◌then◌else◌}
use Rattle.std.specs.List.{find}
use Rattle.std.specs.Option.{option_map_or}
use Rattle.std.proofs.lemmas.Cmp.{nat_list_eq_equiv}
use Rattle.mq_values.specs.Answers.{result_map}
use Rattle.mq_values.specs.declared.faults.Refused.{Refused}
use Rattle.mq_ir.specs.declared.statement.Change.{Change}
use Rattle.mq_ir.specs.Changes.{table_of}
use Rattle.mq_ir.specs.Partitions.{Tuple}
use Rattle.mq_ir.specs.Results.{◌>>=◌}
use Rattle.mq_ir.specs.Statement.{change_of_tables, with_rows}
use Rattle.mq_ir.specs.Tables.{Table, Tables, is_name}
use Rattle.mq_tables.specs.Pending.{combined, held, holding, is_of, with_held, with_pending}
use Rattle.mq_tables.specs.Staging.{Staged, staging}
use Rattle.mq_compared.specs.Applied.{applied_is}
use Rattle.mq_engine.specs.Catalogs.{entry_of_table}
use Rattle.mq_engine.proofs.NameLemmas.{name_is, one_name}
use Rattle.mq_engine.proofs.StageLemmas.{staged_name}

-- ---- rows that are put into a table
abbrev put : List ℕ → List Tuple → Table → Table
put name rows t = if is_name name t.name then record t { rows = rows } else t

put_twice : (name : List ℕ) (first rows : List Tuple) (t : Table) → put name rows (put name first t) ≡ put name rows t
put_twice name first rows t = by (is_name name t.name) refl
  where
    by : (b : Bool) → is_name name t.name ≡ b → put name rows (if b then record t { rows = first } else t) ≡ (if b then record t { rows = rows } else t)
    by true e = ap (λ (c : Bool). if c then record t { rows = rows } else record t { rows = first }) e
    by false e = ap (λ (c : Bool). if c then record t { rows = rows } else t) e

puts_apart : (a b : List ℕ) (xs ys : List Tuple) (t : Table) → is_name a b ≡ false → put a xs (put b ys t) ≡ put b ys (put a xs t)
puts_apart a b xs ys t apart = by (is_name a t.name) refl (is_name b t.name) refl
  where
    by : (p : Bool) → is_name a t.name ≡ p → (q : Bool) → is_name b t.name ≡ q
        → put a xs (if q then record t { rows = ys } else t) ≡ put b ys (if p then record t { rows = xs } else t)
    by true e true f = absurd (let same : is_name a b ≡ true = one_name a b t.name e f in cc)
    by true e false f =
        ap (λ (c : Bool). if c then record t { rows = xs } else t) e ∙ sym (ap (λ (c : Bool). if c then record t { rows = ys } else record t { rows = xs }) f)
    by false e true f =
        ap (λ (c : Bool). if c then record t { rows = xs } else record t { rows = ys }) e ∙ sym (ap (λ (c : Bool). if c then record t { rows = ys } else t) f)
    by false e false f = ap (λ (c : Bool). if c then record t { rows = xs } else t) e ∙ sym (ap (λ (c : Bool). if c then record t { rows = ys } else t) f)

rows_twice : (name : List ℕ) (first rows : List Tuple) (ts : Tables) → with_rows (with_rows ts name first) name rows ≡ with_rows ts name rows
rows_twice name first rows [] = refl
rows_twice name first rows (t ∷ ts) = λ i. put_twice name first rows t i ∷ rows_twice name first rows ts i

rows_apart : (a b : List ℕ) (xs ys : List Tuple) (ts : Tables) → is_name a b ≡ false → with_rows (with_rows ts b ys) a xs ≡ with_rows (with_rows ts a xs) b ys
rows_apart a b xs ys [] apart = refl
rows_apart a b xs ys (t ∷ ts) apart = λ i. puts_apart a b xs ys t apart i ∷ rows_apart a b xs ys ts apart i

-- ---- tables as held rows leave them
pub nothing_held : (tables : Tables) → with_pending tables [] ≡ tables
nothing_held [] = refl
nothing_held (t ∷ ts) = ap (λ l. t ∷ l) (nothing_held ts)

-- what is held first decides
first_held : (s : Staged) (pending : List Staged) (tables : Tables) → with_pending tables (s ∷ pending) ≡ with_rows (with_pending tables pending) s.table s.rows
first_held s pending [] = refl
first_held s pending (t ∷ ts) = λ i. one i ∷ first_held s pending ts i
  where
    by : (b : Bool) → record t { rows = option_map_or (λ (s : Staged). s.rows) (if b then Some s else find (is_of t.name) pending) t.rows }
        ≡ (if b then record (with_held pending t) { rows = s.rows } else with_held pending t)
    by true = refl
    by false = refl

    one : with_held (s ∷ pending) t ≡ put s.table s.rows (with_held pending t)
    one =
        ap (λ (b : Bool). record t { rows = option_map_or (λ (s : Staged). s.rows) (if b then Some s else find (is_of t.name) pending) t.rows })
        (nat_list_eq_equiv.symm t.name s.table)
        ∙ by (is_name s.table t.name)

-- what is held last is put into the tables, where nothing before it decides
pub last_held : (tables : Tables) (pending : List Staged) (s : Staged) → with_pending tables (pending ++ s ∷ []) ≡ with_pending (with_rows tables s.table s.rows) pending
last_held tables [] s =
    first_held s [] tables ∙ ap (λ (ts : Tables). with_rows ts s.table s.rows) (nothing_held tables) ∙ sym (nothing_held (with_rows tables s.table s.rows))
last_held tables (x ∷ pending) s =
    first_held x (pending ++ s ∷ []) tables
    ∙ ap (λ (ts : Tables). with_rows ts x.table x.rows) (last_held tables pending s)
    ∙ sym (first_held x pending (with_rows tables s.table s.rows))

-- where nothing is left, what was to be put is put
pub none_left : (tables meant : Tables) (pending : List Staged) → length pending ≡ 0 → with_pending tables pending ≡ meant → tables ≡ meant
none_left tables meant [] l h = sym (nothing_held tables) ∙ h
none_left tables meant (s ∷ pending) l h = absurd (omega arith)

-- held rows keep the names
pub entries_held : (tables : Tables) (pending : List Staged) → map entry_of_table (with_pending tables pending) ≡ map entry_of_table tables
entries_held [] pending = refl
entries_held (t ∷ ts) pending = ap (λ es. entry_of_table t ∷ es) (entries_held ts pending)

-- ---- a step more is held
step_held : (name : List ℕ) (step : Staged) → step.table ≡ name → (tables : Tables) (pending : List Staged)
    → with_pending tables (held name pending step) ≡ with_rows (with_pending tables pending) name step.rows
step_held name step own tables [] = first_held step [] tables ∙ ap (λ n. with_rows (with_pending tables []) n step.rows) own
step_held name step own tables (s ∷ pending) = by (is_name name s.table) refl (step_held name step own tables pending)
  where
    by : (b : Bool) → is_name name s.table ≡ b → with_pending tables (held name pending step) ≡ with_rows (with_pending tables pending) name step.rows
        → with_pending tables (if b then combined s step ∷ pending else s ∷ held name pending step) ≡ with_rows (with_pending tables (s ∷ pending)) name step.rows
    by true e rest =
        let same : name ≡ s.table = name_is name s.table e in
        first_held (combined s step) pending tables
        ∙ ap (λ n. with_rows (with_pending tables pending) n step.rows) (sym same)
        ∙ sym (rows_twice name s.rows step.rows (with_pending tables pending))
        ∙ ap (λ n. with_rows (with_rows (with_pending tables pending) n s.rows) name step.rows) same
        ∙ ap (λ (ts : Tables). with_rows ts name step.rows) (sym (first_held s pending tables))
    by false e rest =
        first_held s (held name pending step) tables
        ∙ ap (λ (ts : Tables). with_rows ts s.table s.rows) rest
        ∙ sym (rows_apart name s.table step.rows s.rows (with_pending tables pending) e)
        ∙ ap (λ (ts : Tables). with_rows ts name step.rows) (sym (first_held s pending tables))

-- ---- so holding a change is the change of the tables as what is held leaves them
module _ (tables : Tables) (pending : List Staged) (change : Change) where
  abbrev shown : Tables
  shown = with_pending tables pending

  abbrev told : List Staged × ℕ → Tables × ℕ
  told after = (with_pending tables after.0, after.1)

  told_of : (r : Result Staged Refused) → ((s : Staged) → r ≡ Ok s → s.table ≡ table_of change)
      → result_map told (r >>= (λ step. Ok (held (table_of change) pending step, step.counted))) ≡ (r >>= (λ s. Ok (with_rows shown s.table s.rows, s.counted)))
  told_of (Ok s) own =
      ap (λ (ts : Tables). Ok (ts, s.counted))
      (step_held (table_of change) s (own s refl) tables pending ∙ ap (λ n. with_rows (with_pending tables pending) n s.rows) (sym (own s refl)))
  told_of (Err e) own = refl

  pub holding_is : result_map told (holding tables pending change) ≡ change_of_tables (with_pending tables pending) change
  holding_is = told_of (staging shown change) (staged_name shown change) ∙ applied_is shown change
