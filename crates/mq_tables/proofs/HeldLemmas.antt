-- What holds of tables at all times holds after each change of them.
use Rattle.std.proofs.Common.{◌≡◌, ℕ, zero, suc, ◌<◌, List, [], ◌∷◌, ◌++◌, Bool, true, false, ◌&&◌, ◌||◌, Some, None, length, get_or, set, refl, sym, ap, ◌∙◌, subst, arith, nat_eq}
use Rattle.std.specs.Prelude.{if◌then◌else◌, nat_lt, position}
use Rattle.std.specs.List.{filter, find, list_all, list_any, position_or_len}
use Rattle.std.proofs.lemmas.Bool.{ltb-false}
use Rattle.std.proofs.lemmas.Bool.Decides.{nat_tests}
use Rattle.std.proofs.lemmas.List.Folds.{find_at, list_any-append}
use Rattle.std.proofs.lemmas.List.Quantifiers.{position-Some}
use Rattle.std.proofs.lemmas.Option.{slice_get_past}
use Rattle.mq_ir.specs.FitsStatement.{is_row_of}
use Rattle.mq_ir.specs.Keys.{Tuple}
use Rattle.mq_ir.specs.Statement.{with_rows}
use Rattle.mq_ir.specs.Tables.{Table, Tables, is_name, table_at}
use Rattle.mq_tables.specs.Held.{HaveOwnNames, RowsFit}
use Rattle.mq_tables.specs.Staging.{Staged, StandsOn}
use Rattle.mq_tables.proofs.StandLemmas.{name_is}

same_name : (a : List ℕ) → is_name a a ≡ true
same_name [] = refl
same_name (x ∷ xs) = ap (λ b. b && is_name xs xs) (let e : nat_eq x x ≡ true = grind (arith, nat_tests) in e) ∙ same_name xs

swapped_name : (a b : List ℕ) → is_name a b ≡ false → is_name b a ≡ false
swapped_name a b h = by (is_name b a) refl
  where
    by : (c : Bool) → is_name b a ≡ c → c ≡ false
    by false e = refl
    by true e = absurd (let q : true ≡ false = sym (same_name a) ∙ ap (is_name a) (sym (name_is b a e)) ∙ h in cc)

either : (a b : Bool) → (a || b) ≡ false → (a ≡ false) × (b ≡ false)
either true b h = absurd (cc)
either false b h = (refl, h)

neither : (a b : Bool) → a ≡ false → b ≡ false → (a || b) ≡ false
neither a b h k = ap (λ c. c || b) h ∙ k

absent : (ts : Tables) (u : Table) (name : List ℕ) → table_at (u ∷ ts) name ≡ None → (is_name name u.name ≡ false) × (table_at ts name ≡ None)
absent ts u name h = by (is_name name u.name) refl h
  where
    by : (b : Bool) → is_name name u.name ≡ b → (if b then Some u else table_at ts name) ≡ None → (is_name name u.name ≡ false) × (table_at ts name ≡ None)
    by true e g = absurd (cc)
    by false e g = (e, g)

-- ---- a table is added
pub names_added : (ts : Tables) (t : Table) → HaveOwnNames ts → table_at ts t.name ≡ None → HaveOwnNames (ts ++ t ∷ [])
names_added [] t h a = (refl, tt)
names_added (u ∷ us) t h a =
    let p = absent us u t.name a in (
      list_any-append (λ (v : Table). is_name u.name v.name) us (t ∷ [])
          ∙ neither (list_any (λ (v : Table). is_name u.name v.name) us) (is_name u.name t.name || false) h.0
          (neither (is_name u.name t.name) false (swapped_name t.name u.name p.0) refl),
      names_added us t h.1 p.1,
    )

pub fits_added : (ts : Tables) (t : Table) → RowsFit ts → t.rows ≡ [] → RowsFit (ts ++ t ∷ [])
fits_added [] t h e = (ap (list_all (is_row_of t.schema)) e, tt)
fits_added (u ∷ us) t h e = (h.0, fits_added us t h.1 e)

-- ---- tables are removed
none_filtered : (p q : Table → Bool) (ts : Tables) → list_any q ts ≡ false → list_any q (filter p ts) ≡ false
none_filtered p q [] h = refl
none_filtered p q (u ∷ us) h = let e = either (q u) (list_any q us) h in by (p u) e.0 (none_filtered p q us e.1)
  where
    by : (b : Bool) → q u ≡ false → list_any q (filter p us) ≡ false → list_any q (if b then u ∷ filter p us else filter p us) ≡ false
    by true e k = neither (q u) (list_any q (filter p us)) e k
    by false e k = k

pub names_filtered : (p : Table → Bool) (ts : Tables) → HaveOwnNames ts → HaveOwnNames (filter p ts)
names_filtered p [] h = tt
names_filtered p (u ∷ us) h = by (p u) (names_filtered p us h.1)
  where
    by : (b : Bool) → HaveOwnNames (filter p us) → HaveOwnNames (if b then u ∷ filter p us else filter p us)
    by true k = (none_filtered p (λ (v : Table). is_name u.name v.name) us h.0, k)
    by false k = k

pub fits_filtered : (p : Table → Bool) (ts : Tables) → RowsFit ts → RowsFit (filter p ts)
fits_filtered p [] h = tt
fits_filtered p (u ∷ us) h = by (p u) (fits_filtered p us h.1)
  where
    by : (b : Bool) → RowsFit (filter p us) → RowsFit (if b then u ∷ filter p us else filter p us)
    by true k = (h.0, k)
    by false k = k

-- ---- the rows of a table are changed
abbrev changed : List ℕ → List Tuple → Table → Table
changed name rows t = if is_name name t.name then record t { rows = rows } else t

pub name_kept : (b : Bool) (rows : List Tuple) (t : Table) → (if b then record t { rows = rows } else t).name ≡ t.name
name_kept true rows t = refl
name_kept false rows t = refl

pub names_same : (name : List ℕ) (rows : List Tuple) (ts : Tables) (n : List ℕ) → list_any (λ (v : Table). is_name n v.name) (with_rows ts name rows) ≡ list_any (λ (v : Table). is_name n v.name) ts
names_same name rows [] n = refl
names_same name rows (u ∷ us) n =
    ap (λ m. is_name n m || list_any (λ (v : Table). is_name n v.name) (with_rows us name rows)) (name_kept (is_name name u.name) rows u)
    ∙ ap (λ b. is_name n u.name || b) (names_same name rows us n)

pub names_changed : (name : List ℕ) (rows : List Tuple) (ts : Tables) → HaveOwnNames ts → HaveOwnNames (with_rows ts name rows)
names_changed name rows [] h = tt
names_changed name rows (u ∷ us) h = (
  ap (λ m. list_any (λ (v : Table). is_name m v.name) (with_rows us name rows)) (name_kept (is_name name u.name) rows u) ∙ names_same name rows us u.name ∙ h.0,
  names_changed name rows us h.1,
)

-- tables of another name are as they were
pub untouched : (name : List ℕ) (rows : List Tuple) (ts : Tables) → list_any (λ (v : Table). is_name name v.name) ts ≡ false → with_rows ts name rows ≡ ts
untouched name rows [] h = refl
untouched name rows (u ∷ us) h =
    let e = either (is_name name u.name) (list_any (λ (v : Table). is_name name v.name) us) h in
    ap (λ b. (if b then record u { rows = rows } else u) ∷ with_rows us name rows) e.0 ∙ ap (λ l. u ∷ l) (untouched name rows us e.1)

none_at : (q : Table → Bool) (ts : Tables) (i : ℕ) (d : Table) → list_any q ts ≡ false → i < length ts → q (get_or ts i d) ≡ false
none_at q [] i d h l = absurd (omega arith)
none_at q (u ∷ us) zero d h l = (either (q u) (list_any q us) h).0
none_at q (u ∷ us) (suc i) d h l = none_at q us i d (either (q u) (list_any q us) h).1 (omega arith)

pub rows_set : (name : List ℕ) (rows : List Tuple) (ts : Tables) (i : ℕ) (d : Table) → HaveOwnNames ts → i < length ts → is_name name (get_or ts i d).name ≡ true
    → set ts i (record (get_or ts i d) { rows = rows }) ≡ with_rows ts name rows
rows_set name rows [] i d h l e = absurd (omega arith)
rows_set name rows (u ∷ us) zero d h l e =
    ap (λ t. record u { rows = rows } ∷ t) (sym (untouched name rows us (ap (λ n. list_any (λ (v : Table). is_name n v.name) us) (name_is name u.name e) ∙ h.0)))
    ∙ ap (λ b. (if b then record u { rows = rows } else u) ∷ with_rows us name rows) (sym e)
rows_set name rows (u ∷ us) (suc i) d h l e =
    ap (λ t. u ∷ t) (rows_set name rows us i d h.1 (omega arith) e)
    ∙ ap (λ b. (if b then record u { rows = rows } else u) ∷ with_rows us name rows) (sym other)
  where
    other : is_name name u.name ≡ false
    other = swapped_name u.name name (ap (is_name u.name) (name_is name (get_or us i d).name e) ∙ none_at (λ (v : Table). is_name u.name v.name) us i d h.0 (omega arith))

-- where no table has the name, all are as they were
none_found : (p : Table → Bool) (ts : Tables) → find p ts ≡ None → list_any p ts ≡ false
none_found p [] h = refl
none_found p (u ∷ us) h = by (p u) (none_found p us) h
  where
    by : (b : Bool) → (find p us ≡ None → list_any p us ≡ false) → (if b then Some u else find p us) ≡ None → (b || list_any p us) ≡ false
    by true k g = absurd (cc)
    by false k g = k g

pub rows_not_set : (name : List ℕ) (rows : List Tuple) (ts : Tables) → position (λ (t : Table). is_name name t.name) ts ≡ None → with_rows ts name rows ≡ ts
rows_not_set name rows ts h = by (nat_lt (position_or_len p ts) (length ts)) refl h
  where
    p : Table → Bool
    p = λ t. is_name name t.name

    by : (b : Bool) → nat_lt (position_or_len p ts) (length ts) ≡ b → (if b then Some (position_or_len p ts) else None) ≡ None → with_rows ts name rows ≡ ts
    by true e g = absurd (cc)
    by false e g = untouched name rows ts (none_found p ts (find_at p ts ∙ slice_get_past ts (position_or_len p ts) (ltb-false (position_or_len p ts) (length ts) e)))

-- rows that stand fit the table that has the name
pub fits_changed : (name : List ℕ) (rows : List Tuple) (ts : Tables) (t : Table) → HaveOwnNames ts → RowsFit ts → table_at ts name ≡ Some t → list_all (is_row_of t.schema) rows ≡ true → RowsFit (with_rows ts name rows)
fits_changed name rows [] t o h f k = tt
fits_changed name rows (u ∷ us) t o h f k = by (is_name name u.name) refl (λ g. fits_changed name rows us t o.1 h.1 g k) f
  where
    by : (b : Bool) → is_name name u.name ≡ b → (table_at us name ≡ Some t → RowsFit (with_rows us name rows)) → (if b then Some u else table_at us name) ≡ Some t → RowsFit ((if b then record u { rows = rows } else u) ∷ with_rows us name rows)
    by true e rest g =
        let q : t ≡ u = cc in (
          subst (λ (z : Table). list_all (is_row_of z.schema) rows ≡ true) q k,
          subst RowsFit (sym (untouched name rows us (ap (λ n. list_any (λ (v : Table). is_name n v.name) us) (name_is name u.name e) ∙ o.0))) h.1,
        )
    by false e rest g = (h.0, rest g)

pub rows_put : (name : List ℕ) (rows : List Tuple) (ts : Tables) (i : ℕ) (t : Table) → HaveOwnNames ts → position (λ (t : Table). is_name name t.name) ts ≡ Some i → t ≡ get_or ts i t
    → set ts i (record t { rows = rows }) ≡ with_rows ts name rows
rows_put name rows ts i t h e r =
    let p = position-Some (λ (t : Table). is_name name t.name) ts i t e in
    ap (λ (u : Table). set ts i (record u { rows = rows })) r ∙ rows_set name rows ts i t h p.0 p.1

-- rows that stand are put into their table
pub committed : (ts before after : Tables) (s : Staged) (name : List ℕ) (rows : List Tuple) → ts ≡ before → name ≡ s.table → rows ≡ s.rows → StandsOn before s → HaveOwnNames ts → RowsFit ts
    → after ≡ with_rows ts name rows → RowsFit after
committed ts before after s name rows e n r stands own fit a =
    let t = stands.table in
    let there : table_at ts name ≡ Some t = ap (table_at ts) n ∙ ap (λ (z : Tables). table_at z s.table) e ∙ stands.is_there in
    let rows_fit : list_all (is_row_of t.schema) rows ≡ true = ap (list_all (is_row_of t.schema)) r ∙ stands.fit in
    subst RowsFit (sym a) (fits_changed name rows ts t own fit there rows_fit)
