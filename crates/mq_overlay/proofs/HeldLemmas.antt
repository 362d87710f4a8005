-- What is held leaves the tables with the rows of the changes.
use Rattle.std.proofs.Common.{◌≡◌, ℕ, List, [], ◌∷◌, Bool, true, false, ◌&&◌, Option, Some, None, refl, sym, ap, ◌∙◌}
use Rattle.std.specs.Prelude.{if◌then◌else◌, nat_eq}
use Rattle.std.specs.List.{find}
use Rattle.std.specs.Option.{option_map, option_map_or}
use Rattle.std.proofs.lemmas.Bool.{eqb-true}
use Rattle.std.proofs.lemmas.Cmp.{nat_list_eq_equiv}
use Rattle.mq_ir.specs.Keys.{Tuple}
use Rattle.mq_ir.specs.Statement.{with_rows}
use Rattle.mq_ir.specs.Tables.{Table, Tables, is_name, table_at}
use Rattle.mq_tables.specs.Pending.{combined, held, is_of, pending_rows, rows_held, with_held, with_pending}
use Rattle.mq_tables.specs.Rows.{rows_at}
use Rattle.mq_tables.specs.Staging.{Staged}

-- ---- names
pub name_is : (a b : List ℕ) → is_name a b ≡ true → a ≡ b
name_is [] [] h = refl
name_is [] (y ∷ ys) h = absurd (cc)
name_is (x ∷ xs) [] h = absurd (cc)
name_is (x ∷ xs) (y ∷ ys) h = by (nat_eq x y) refl (name_is xs ys) h
  where
    by : (b : Bool) → nat_eq x y ≡ b → (is_name xs ys ≡ true → xs ≡ ys) → (b && is_name xs ys) ≡ true → x ∷ xs ≡ y ∷ ys
    by true e k g = let p : x ≡ y = eqb-true x y e in let q : xs ≡ ys = k g in cc
    by false e k g = absurd (cc)

-- the table that is found has the name
pub found_name : (tables : Tables) (name : List ℕ) (t : Table) → table_at tables name ≡ Some t → name ≡ t.name
found_name [] name t h = absurd (cc)
found_name (u ∷ us) name t h = by (is_name name u.name) refl (found_name us name t) h
  where
    by : (b : Bool) → is_name name u.name ≡ b → (table_at us name ≡ Some t → name ≡ t.name) → (if b then Some u else table_at us name) ≡ Some t → name ≡ t.name
    by true e k g = name_is name u.name e ∙ ap (λ (v : Table). v.name) (let q : u ≡ t = cc in q)
    by false e k g = k g

-- ---- where nothing is held, the tables are as they stand
pub nothing_held : (tables : Tables) → with_pending tables [] ≡ tables
nothing_held [] = refl
nothing_held (t ∷ ts) = ap (λ l. t ∷ l) (nothing_held ts)

-- ---- a table as what is held leaves it
pub held_table_at : (tables : Tables) (pending : List Staged) (name : List ℕ) → table_at (with_pending tables pending) name ≡ option_map (with_held pending) (table_at tables name)
held_table_at [] pending name = refl
held_table_at (t ∷ ts) pending name = by (is_name name t.name) (held_table_at ts pending name)
  where
    by : (b : Bool) → table_at (with_pending ts pending) name ≡ option_map (with_held pending) (table_at ts name)
        → (if b then Some (with_held pending t) else table_at (with_pending ts pending) name) ≡ option_map (with_held pending) (if b then Some t else table_at ts name)
    by true e = refl
    by false e = e

-- the rows of a table that is not there, of one that is touched, and of one that is not
pub absent_rows : (tables : Tables) (pending : List Staged) (name : List ℕ) → rows_at tables name ≡ None → rows_at (with_pending tables pending) name ≡ None
absent_rows tables pending name h = by (table_at tables name) refl h
  where
    by : (o : Option Table) → table_at tables name ≡ o → option_map (λ (t : Table). t.rows) o ≡ None → rows_at (with_pending tables pending) name ≡ None
    by None e g = ap (option_map (λ (t : Table). t.rows)) (held_table_at tables pending name ∙ ap (option_map (with_held pending)) e)
    by (Some t) e g = absurd (cc)

pub shown_rows : (tables : Tables) (pending : List Staged) (name : List ℕ) (rows : List Tuple) → rows_at tables name ≡ Some rows
    → rows_at (with_pending tables pending) name ≡ Some (option_map_or (λ (r : List Tuple). r) (rows_held pending name) rows)
shown_rows tables pending name rows h = by (table_at tables name) refl h
  where
    one : (o : Option Staged) (t : Table) → t.rows ≡ rows → option_map_or (λ (s : Staged). s.rows) o t.rows ≡ option_map_or (λ (r : List Tuple). r) (option_map (λ (s : Staged). s.rows) o) rows
    one None t e = e
    one (Some s) t e = refl

    by : (o : Option Table) → table_at tables name ≡ o → option_map (λ (t : Table). t.rows) o ≡ Some rows
        → rows_at (with_pending tables pending) name ≡ Some (option_map_or (λ (r : List Tuple). r) (rows_held pending name) rows)
    by None e g = absurd (cc)
    by (Some t) e g =
        ap (option_map (λ (t : Table). t.rows)) (held_table_at tables pending name ∙ ap (option_map (with_held pending)) e)
        ∙ ap (λ n. Some (option_map_or (λ (s : Staged). s.rows) (find (is_of n) pending) t.rows)) (sym (found_name tables name t e))
        ∙ ap Some (one (find (is_of name) pending) t (let q : t.rows ≡ rows = cc in q))

-- ---- a step more is held
module _ (name : List ℕ) (step : Staged) (own : step.table ≡ name) where
  -- of a table of the name, and of others
  same_rows : (pending : List Staged) (t : Table) → is_name name t.name ≡ true → pending_rows (held name pending step) t ≡ step.rows
  same_rows pending t h = ap (λ n. option_map_or (λ (s : Staged). s.rows) (find (is_of n) (held name pending step)) t.rows) (sym (name_is name t.name h)) ∙ by pending
    where
      by : (pending : List Staged) → option_map_or (λ (s : Staged). s.rows) (find (is_of name) (held name pending step)) t.rows ≡ step.rows
      by [] = ap (λ b. option_map_or (λ (s : Staged). s.rows) (if b then Some step else None) t.rows) (ap (is_name name) own ∙ nat_list_eq_equiv.refl name)
      by (s ∷ pending) = one (is_of name s) refl (by pending)
        where
          one : (b : Bool) → is_of name s ≡ b → option_map_or (λ (s : Staged). s.rows) (find (is_of name) (held name pending step)) t.rows ≡ step.rows
              → option_map_or (λ (s : Staged). s.rows) (find (is_of name) (if b then combined s step ∷ pending else s ∷ held name pending step)) t.rows ≡ step.rows
          one true e k = ap (λ c. option_map_or (λ (s : Staged). s.rows) (if c then Some (combined s step) else find (is_of name) pending) t.rows) e
          one false e k = ap (λ c. option_map_or (λ (s : Staged). s.rows) (if c then Some s else find (is_of name) (held name pending step)) t.rows) e ∙ k

  other_rows : (pending : List Staged) (t : Table) → is_name name t.name ≡ false → pending_rows (held name pending step) t ≡ pending_rows pending t
  other_rows [] t h = ap (λ b. option_map_or (λ (s : Staged). s.rows) (if b then Some step else None) t.rows) (ap (is_name t.name) own ∙ nat_list_eq_equiv.symm t.name name ∙ h)
  other_rows (s ∷ pending) t h = one (is_of name s) refl (other_rows pending t h)
    where
      one : (b : Bool) → is_of name s ≡ b → pending_rows (held name pending step) t ≡ pending_rows pending t
          → option_map_or (λ (s : Staged). s.rows) (find (is_of t.name) (if b then combined s step ∷ pending else s ∷ held name pending step)) t.rows ≡ pending_rows (s ∷ pending) t
      one true e k =
          let apart : is_name t.name s.table ≡ false = ap (is_name t.name) (sym (name_is name s.table e)) ∙ nat_list_eq_equiv.symm t.name name ∙ h in
          ap (λ c. option_map_or (λ (s : Staged). s.rows) (if c then Some (combined s step) else find (is_of t.name) pending) t.rows) apart
          ∙ ap (λ c. option_map_or (λ (s : Staged). s.rows) (if c then Some s else find (is_of t.name) pending) t.rows) (sym apart)
      one false e k = two (is_of t.name s) k
        where
          two : (c : Bool) → pending_rows (held name pending step) t ≡ pending_rows pending t
              → option_map_or (λ (s : Staged). s.rows) (if c then Some s else find (is_of t.name) (held name pending step)) t.rows
              ≡ option_map_or (λ (s : Staged). s.rows) (if c then Some s else find (is_of t.name) pending) t.rows
          two true k = refl
          two false k = k

  pub step_held : (tables : Tables) (pending : List Staged) → with_rows (with_pending tables pending) name step.rows ≡ with_pending tables (held name pending step)
  step_held [] pending = refl
  step_held (t ∷ ts) pending = by (is_name name t.name) refl ∙ ap (λ l. with_held (held name pending step) t ∷ l) (step_held ts pending)
    where
      by : (b : Bool) → is_name name t.name ≡ b
          → (if b then record (with_held pending t) { rows = step.rows } else with_held pending t) ∷ with_rows (with_pending ts pending) name step.rows
          ≡ with_held (held name pending step) t ∷ with_rows (with_pending ts pending) name step.rows
      by true e = ap (λ (r : List Tuple). record t { rows = r } ∷ with_rows (with_pending ts pending) name step.rows) (sym (same_rows pending t e))
      by false e = ap (λ (r : List Tuple). record t { rows = r } ∷ with_rows (with_pending ts pending) name step.rows) (sym (other_rows pending t e))
