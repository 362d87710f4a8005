-- The tables as they will stand after a staged change.
use Rattle.std.proofs.Common.{◌≡◌, ℕ, zero, suc, ◌<◌, Bool, true, false, ◌&&◌, cond, List, [], ◌∷◌, map, length, Option, Some, None, Ok, refl, sym, ap, subst, ◌∙◌, arith}
use Rattle.std.specs.Prelude.{if◌then◌else◌, nat_eq}
use Rattle.std.specs.List.{find}
use Rattle.std.specs.Option.{option_map, option_map_or}
use Rattle.std.proofs.lemmas.Bool.{eqb-true}
use Rattle.mq_ir.specs.declared.query.FromPart.{FromPart}
use Rattle.mq_ir.specs.BaseRows.{Places, items_of, kept_places}
use Rattle.mq_ir.specs.Keys.{Tuple}
use Rattle.mq_ir.specs.Statement.{with_rows}
use Rattle.mq_ir.specs.Tables.{Table, Tables, is_name, rows_of, table_at}
use Rattle.mq_tables.specs.Rows.{rows_at}
use Rattle.mq_tables.specs.Staging.{Staged, StandsOn}
use Rattle.mq_delta_base.specs.Gathered.{KeptBefore, changed_items}
use Rattle.mq_delta_base.specs.Inverts.{Inverts}
use Rattle.mq_delta_base.specs.Moves.{AllFollow, Follows}
use Rattle.mq_delta_base.proofs.InvertLemmas.{follows}

same_name : (a b : List ℕ) → is_name a b ≡ true → a ≡ b
same_name [] [] e = refl
same_name [] (y ∷ b) e = absurd (cc)
same_name (x ∷ a) [] e = absurd (cc)
same_name (x ∷ a) (y ∷ b) e = by (nat_eq x y) refl e (same_name a b)
  where
    by : (c : Bool) → nat_eq x y ≡ c → (c && is_name a b) ≡ true → (is_name a b ≡ true → a ≡ b) → x ∷ a ≡ y ∷ b
    by true c e r = let p : x ≡ y = eqb-true x y c in let q = r e in λ i. p i ∷ q i
    by false c e r = absurd (cc)

module _ (name : List ℕ) (rows : List Tuple) where
  abbrev replaced : Table → Table
  replaced t = if is_name name t.name then record t { rows = rows } else t

  same_table : (t : Table) → (replaced t).name ≡ t.name
  same_table t = by (is_name name t.name)
    where
      by : (b : Bool) → (if b then record t { rows = rows } else t).name ≡ t.name
      by true = refl
      by false = refl

  rows_put : (t : Table) → (replaced t).rows ≡ (if is_name name t.name then rows else t.rows)
  rows_put t = by (is_name name t.name)
    where
      by : (b : Bool) → (if b then record t { rows = rows } else t).rows ≡ (if b then rows else t.rows)
      by true = refl
      by false = refl

  -- the rows of a table as it will stand
  pub rows_will : (tables : Tables) (other : List ℕ) → rows_at (with_rows tables name rows) other ≡ option_map (λ (old : List Tuple). if is_name name other then rows else old) (rows_at tables other)
  rows_will [] other = refl
  rows_will (t ∷ tables) other = by (is_name other t.name) refl (rows_will tables other)
    where
      by : (b : Bool) → is_name other t.name ≡ b → rows_at (with_rows tables name rows) other ≡ option_map (λ (old : List Tuple). if is_name name other then rows else old) (rows_at tables other)
          → option_map (λ (u : Table). u.rows) (cond (is_name other (replaced t).name) (Some (replaced t)) (table_at (with_rows tables name rows) other))
          ≡ option_map (λ (old : List Tuple). if is_name name other then rows else old) (option_map (λ (u : Table). u.rows) (cond (is_name other t.name) (Some t) (table_at tables other)))
      by true e r =
          ap (λ n. option_map (λ (u : Table). u.rows) (cond (is_name other n) (Some (replaced t)) (table_at (with_rows tables name rows) other))) (same_table t)
          ∙ ap (λ b. option_map (λ (u : Table). u.rows) (cond b (Some (replaced t)) (table_at (with_rows tables name rows) other))) e
          ∙ ap Some (rows_put t ∙ ap (λ n. if is_name name n then rows else t.rows) (sym (same_name other t.name e)))
          ∙ ap (λ b. option_map (λ (old : List Tuple). if is_name name other then rows else old) (option_map (λ (u : Table). u.rows) (cond b (Some t) (table_at tables other)))) (sym e)
      by false e r =
          ap (λ n. option_map (λ (u : Table). u.rows) (cond (is_name other n) (Some (replaced t)) (table_at (with_rows tables name rows) other))) (same_table t)
          ∙ ap (λ b. option_map (λ (u : Table). u.rows) (cond b (Some (replaced t)) (table_at (with_rows tables name rows) other))) e
          ∙ r
          ∙ ap (λ b. option_map (λ (old : List Tuple). if is_name name other then rows else old) (option_map (λ (u : Table). u.rows) (cond b (Some t) (table_at tables other)))) (sym e)

rows_or : (o : Option Table) → option_map_or (λ (t : Table). t.rows) o [] ≡ option_map_or (λ (rows : List Tuple). rows) (option_map (λ (t : Table). t.rows) o) []
rows_or None = refl
rows_or (Some t) = refl

module _ (before : Tables) (s : Staged) (stands : StandsOn before s) (places : List (Option ℕ)) (touched : List ℕ) (i : Inverts s.origins (length s.rows) places touched) where
  abbrev after : Tables
  after = with_rows before s.table s.rows

  will : (name : List ℕ) → rows_of after name ≡ option_map_or (λ (rows : List Tuple). rows) (option_map (λ (old : List Tuple). if is_name s.table name then s.rows else old) (rows_at before name)) []
  will name = rows_or (table_at after name) ∙ ap (λ o. option_map_or (λ (rows : List Tuple). rows) o []) (rows_will s.table s.rows before name)

  changed_rows : (name : List ℕ) → is_name s.table name ≡ true → Follows places touched (rows_of before name) (rows_of after name)
  changed_rows name e =
      let n : s.table ≡ name = same_name s.table name e in
      let here : table_at before name ≡ Some stands.table = ap (table_at before) (sym n) ∙ stands.is_there in
      let old : rows_of before name ≡ stands.table.rows = ap (λ (o : Option Table). option_map_or (λ (t : Table). t.rows) o []) here in
      let new : rows_of after name ≡ s.rows =
      will name
      ∙ ap (λ (o : Option Table). option_map_or (λ (rows : List Tuple). rows) (option_map (λ (old : List Tuple). if is_name s.table name then s.rows else old) (option_map (λ (t : Table). t.rows) o)) []) here
      ∙ ap (λ b. if b then s.rows else stands.table.rows) e in
      subst (λ (rows : List Tuple). Follows places touched rows (rows_of after name)) (sym old)
      (subst (λ (rows : List Tuple). Follows places touched stands.table.rows rows) (sym new) (follows stands.table.rows s.rows s.origins places touched stands.kept i))

  other_rows : (name : List ℕ) → is_name s.table name ≡ false → rows_of after name ≡ rows_of before name
  other_rows name e = will name ∙ by (table_at before name)
    where
      by : (o : Option Table) → option_map_or (λ (rows : List Tuple). rows) (option_map (λ (old : List Tuple). if is_name s.table name then s.rows else old) (option_map (λ (t : Table). t.rows) o)) [] ≡ option_map_or (λ (t : Table). t.rows) o []
      by None = refl
      by (Some t) = ap (λ b. if b then s.rows else t.rows) e

  all_follow : (names : List (List ℕ)) → AllFollow places touched (map (is_name s.table) names) (map (rows_of before) names) (map (rows_of after) names)
  all_follow [] = tt
  all_follow (name ∷ names) = by (is_name s.table name) refl (all_follow names)
    where
      by : (b : Bool) → is_name s.table name ≡ b → AllFollow places touched (map (is_name s.table) names) (map (rows_of before) names) (map (rows_of after) names)
          → AllFollow places touched (is_name s.table name ∷ map (is_name s.table) names) (rows_of before name ∷ map (rows_of before) names) (rows_of after name ∷ map (rows_of after) names)
      by true e r = subst (λ b. AllFollow places touched (b ∷ map (is_name s.table) names) (rows_of before name ∷ map (rows_of before) names) (rows_of after name ∷ map (rows_of after) names)) (sym e) (changed_rows name e, r)
      by false e r = subst (λ b. AllFollow places touched (b ∷ map (is_name s.table) names) (rows_of before name ∷ map (rows_of before) names) (rows_of after name ∷ map (rows_of after) names)) (sym e) (other_rows name e, r)

  pub kept_before : (from : FromPart) (old : List Places) → kept_places from (items_of before from) ≡ Ok old → KeptBefore from (changed_items from s.table) places touched old (items_of after from)
  kept_before from old k = record { olds = items_of before from; kept = k; follow = all_follow from.tables }
