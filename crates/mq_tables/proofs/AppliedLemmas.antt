-- A change among the tables, made where the rows stand.
use Rattle.std.proofs.Common.{◌≡◌, ℕ, List, Bool, true, false, Some, None, length, get_or, set, Result, Ok, Err, IfOk, OnErr, refl, sym, ap, ◌∙◌, subst}
use Rattle.std.specs.Prelude.{if◌then◌else◌, nat_lt, position, slice_get}
use Rattle.std.specs.List.{position_or_len}
use Rattle.std.specs.Option.{ok_or}
use Rattle.std.proofs.lemmas.Bool.{ltb-false}
use Rattle.std.proofs.lemmas.List.Folds.{find_at}
use Rattle.std.proofs.lemmas.List.Quantifiers.{position-Some}
use Rattle.std.proofs.lemmas.Option.{slice_get_past, slice_get_read}
use Rattle.mq_values.specs.Answers.{Gives, result_map}
use Rattle.mq_values.specs.declared.faults.Refused.{Refused}
use Rattle.mq_values.specs.declared.faults.Refused.TheVariants as refused
use Rattle.mq_values.specs.declared.memory.Fail.{Fail}
use Rattle.mq_ir.specs.declared.statement.Change.{Change}
use Rattle.mq_ir.specs.Changes.{Changed, rows_added, rows_changed, size_fault, table_of}
use Rattle.mq_ir.specs.Keys.{Tuple}
use Rattle.mq_ir.specs.Results.{◌>>=◌}
use Rattle.mq_ir.specs.Statement.{unless_refused, with_rows}
use Rattle.mq_ir.specs.Tables.{Table, Tables, is_name, table_at}
use Rattle.mq_tables.specs.declared.touched.Touched.{Touched}
use Rattle.mq_tables.specs.Held.{HaveOwnNames, RowsFit}
use Rattle.mq_tables.specs.InPlace.{applied}
use Rattle.mq_tables.specs.KeyOrder.{judged}
use Rattle.mq_tables.specs.Pending.{step_of}
use Rattle.mq_tables.specs.Staging.{ChangeFits, Staged, staging}
use Rattle.mq_tables.specs.Touching.{changed_at, count_of, made, table_with, touched_by, touching}
use Rattle.mq_tables.proofs.ChangingLemmas.{some_is}
use Rattle.mq_tables.proofs.HeldLemmas.{committed, names_changed, rows_put}
use Rattle.mq_tables.proofs.JudgeLemmas.{after_size, no_table, size_refused}
use Rattle.mq_tables.proofs.StageLemmas.{step_made, step_refused}
use Rattle.mq_tables.proofs.StandLemmas.{name_is, staging_stands}
use Rattle.mq_tables.proofs.Walks.{exit}

abbrev pub has_name : List ℕ → Table → Bool
has_name name t = is_name name t.name

-- what is staged, committed
abbrev done : Tables → Staged → Result (Tables × ℕ) Refused
done ts s = Ok (with_rows ts s.table s.rows, s.counted)

-- ---- the table of a name
pub at_position : (name : List ℕ) (ts : Tables) (i : ℕ) (t : Table) → position (has_name name) ts ≡ Some i → t ≡ get_or ts i t → table_at ts name ≡ Some t
at_position name ts i t p e =
    find_at (has_name name) ts
    ∙ ap (slice_get ts) (by (nat_lt (position_or_len (has_name name) ts) (length ts)) p)
    ∙ slice_get_read ts (length ts) i t refl (position-Some (has_name name) ts i t p).0 e
  where
    by : (b : Bool) → (if b then Some (position_or_len (has_name name) ts) else None) ≡ Some i → position_or_len (has_name name) ts ≡ i
    by true h = let q : position_or_len (has_name name) ts ≡ i = cc in q
    by false h = absurd (cc)

nowhere : (name : List ℕ) (ts : Tables) → position (has_name name) ts ≡ None → table_at ts name ≡ None
nowhere name ts p = by (nat_lt (position_or_len (has_name name) ts) (length ts)) refl p
  where
    by : (b : Bool) → nat_lt (position_or_len (has_name name) ts) (length ts) ≡ b → (if b then Some (position_or_len (has_name name) ts) else None) ≡ None → table_at ts name ≡ None
    by true e h = absurd (cc)
    by false e h = find_at (has_name name) ts ∙ slice_get_past ts (position_or_len (has_name name) ts) (ltb-false (position_or_len (has_name name) ts) (length ts) e)

pub unknown : (ts tables : Tables) (change : Change) (name : List ℕ) → ts ≡ tables → name ≡ table_of change → position (has_name name) ts ≡ None → applied tables change ≡ Err (refused.UnknownName name)
unknown ts tables change name view n p =
    ap (λ r. r >>= done tables) (no_table tables change (sym (ap (table_at tables) n) ∙ ap (λ (z : Tables). table_at z name) (sym view) ∙ nowhere name ts p))
    ∙ ap (λ m. Err (refused.UnknownName m)) (sym n)

module _ (ts tables : Tables) (view : ts ≡ tables) (own : HaveOwnNames ts) (change : Change) (name : List ℕ) (n : name ≡ table_of change) (i : ℕ) (t : Table)
    (p : position (has_name name) ts ≡ Some i) (e : t ≡ get_or ts i t) where
  pub stands : slice_get ts i ≡ Some t
  stands = slice_get_read ts (length ts) i t refl (position-Some (has_name name) ts i t p).0 e

  there : table_at ts name ≡ Some t
  there = at_position name ts i t p e

  pub size_exit : (seen : Tables) (added : ℕ) (f : Fail Refused) → seen ≡ ts → added ≡ rows_added change → Gives {T = Unit {0}} (Err f) (unless_refused (size_fault seen t added) (Ok tt)) → Gives {T = Tables × ℕ} (Err f) (applied tables change)
  size_exit seen added f s a g =
      exit (unless_refused (size_fault seen t added) (Ok tt)) (applied tables change) f g (λ fault h.
      ap (λ (z : Tables). applied z change) (sym view) ∙ ap (λ r. r >>= done ts) (size_refused ts seen change name t added fault n there s a h))

  module _ (z : size_fault ts t (rows_added change) ≡ None) where
    own_name : t.name ≡ name
    own_name = sym (name_is name t.name (ap (has_name name) e ∙ (position-Some (has_name name) ts i t p).1))

    is_step : applied tables change ≡ (step_of t change >>= done ts)
    is_step = ap (λ (z : Tables). applied z change) (sym view) ∙ ap (λ r. r >>= done ts) (after_size ts change name t n there z)

    abbrev put : List Tuple × Touched → Result (Tables × Touched) Refused
    put m = Ok (set ts i (record t { rows = m.0 }), m.1)

    -- a change that is made in place is the change of the tables
    pub change_made : (after : Tables) (it : Touched) → changed_at ts i t change ≡ Ok (after, it) → applied tables change ≡ Ok (after, count_of it)
    change_made after it g = by (made t.schema t.rows change) refl g
      where
        by : (r : Result (List Tuple × Touched) Refused) → made t.schema t.rows change ≡ r → (r >>= put) ≡ Ok (after, it) → applied tables change ≡ Ok (after, count_of it)
        by (Ok m) k h =
            let q : (set ts i (record t { rows = m.0 }), m.1) ≡ (after, it) = cc in
            subst (λ (u : Tables × Touched). applied tables change ≡ Ok (u.0, count_of u.1)) q
            (is_step
            ∙ ap (λ r. r >>= done ts) (step_made t change m.0 m.1 k).is
            ∙ ap (λ l. Ok (l, count_of m.1)) (ap (λ w. with_rows ts w m.0) own_name ∙ sym (rows_put name m.0 ts i t own p e)))
        by (Err d) k h = absurd (cc)

    pub change_exit : (f : Fail Refused) → Gives {T = Tables × Touched} (Err f) (changed_at ts i t change) → Gives {T = Tables × ℕ} (Err f) (applied tables change)
    change_exit f g = exit (changed_at ts i t change) (applied tables change) f g (λ fault h. by (made t.schema t.rows change) fault refl h)
      where
        by : (r : Result (List Tuple × Touched) Refused) (fault : Refused) → made t.schema t.rows change ≡ r → ◌≡◌ {A = Result (Tables × Touched) Refused} (r >>= put) (Err fault) → applied tables change ≡ Err fault
        by (Ok m) fault k h = absurd (cc)
        by (Err d) fault k h = is_step ∙ ap (λ r. r >>= done ts) (step_refused t change d k) ∙ ap Err (let q : d ≡ fault = cc in q)

    -- what was touched of the rows of the table
    pub touch_made : (after : Tables) (it : Touched) → changed_at ts i t change ≡ Ok (after, it) → touched_by tables change ≡ Ok it
    touch_made after it g =
        ap (λ (z : Tables). touched_by z change) (sym view)
        ∙ ap (λ o. ok_or o (refused.UnknownName (table_of change)) >>= (λ (u : Table). touching u.schema u.rows change)) (ap (table_at ts) (sym n) ∙ there)
        ∙ by (rows_changed (table_with t.schema t.rows) change) g
      where
        told : (rows : List Tuple) (r : Result Touched Refused) → ((r >>= (λ it. Ok (rows, it))) >>= put) ≡ Ok (after, it) → r ≡ Ok it
        told rows (Ok m) h = ap Ok (let q : (set ts i (record t { rows = rows }), m) ≡ (after, it) = cc in ap (λ (u : Tables × Touched). u.1) q)
        told rows (Err d) h = absurd (cc)

        keys : (r : Result (List Tuple) Refused) → ((r >>= (λ rows. touching t.schema t.rows change >>= (λ it. Ok (rows, it)))) >>= put) ≡ Ok (after, it) → touching t.schema t.rows change ≡ Ok it
        keys (Ok rows) h = told rows (touching t.schema t.rows change) h
        keys (Err d) h = absurd (cc)

        by : (r : Result Changed Refused) → ((r >>= (λ changed. judged t.schema changed.0 >>= (λ rows. touching t.schema t.rows change >>= (λ it. Ok (rows, it))))) >>= put) ≡ Ok (after, it) → touching t.schema t.rows change ≡ Ok it
        by (Ok changed) h = keys (judged t.schema changed.0) h
        by (Err d) h = absurd (cc)

-- ---- what holds at all times holds after the change
module _ (tables after : Tables) (change : Change) (count : ℕ) (h : applied tables change ≡ Ok (after, count)) (own : HaveOwnNames tables) where
  abbrev both : Staged → Tables × ℕ
  both s = (with_rows tables s.table s.rows, s.counted)

  staged : (s : Staged) × (staging tables change ≡ Ok s) × ◌≡◌ {A = Tables × ℕ} (both s) (after, count)
  staged = some_is (staging tables change) both (after, count) h

  rows_are : after ≡ with_rows tables staged.0.table staged.0.rows
  rows_are = ap (λ (u : Tables × ℕ). u.0) (sym staged.2)

  pub names_stay : HaveOwnNames after
  names_stay = subst HaveOwnNames (sym rows_are) (names_changed staged.0.table staged.0.rows tables own)

  pub rows_stay : RowsFit tables → ChangeFits tables change → RowsFit after
  rows_stay fit f = committed tables tables after staged.0 staged.0.table staged.0.rows refl refl refl (staging_stands tables change staged.0 fit f staged.1) own fit rows_are

-- ---- what the call answers
module _ (ts tables : Tables) (view : ts ≡ tables) (own : HaveOwnNames ts) (change : Change) (name : List ℕ) (n : name ≡ table_of change) (i : ℕ) (t : Table)
    (p : position (has_name name) ts ≡ Some i) (e : t ≡ get_or ts i t) (z : size_fault ts t (rows_added change) ≡ None) (after : Tables) where
  pub change_gives : (r : Result Touched (Fail Refused)) → Gives {T = Tables × Touched} (result_map (λ it. (after, it)) r) (changed_at ts i t change)
      → Gives {T = Tables × ℕ} (result_map (λ it. (after, count_of it)) r) (applied tables change)
  change_gives (Ok it) g = change_made ts tables view own change name n i t p e z after it g
  change_gives (Err f) g = change_exit ts tables view own change name n i t p e z f g

  pub touch_gives : (r : Result Touched (Fail Refused)) → Gives {T = Tables × Touched} (result_map (λ it. (after, it)) r) (changed_at ts i t change) → IfOk r (λ it. touched_by tables change ≡ Ok it)
  touch_gives (Ok it) g = touch_made ts tables view own change name n i t p e z after it g
  touch_gives (Err f) g = tt

  pub names_after : (r : Result Touched (Fail Refused)) → Gives {T = Tables × Touched} (result_map (λ it. (after, it)) r) (changed_at ts i t change) → OnErr r (after ≡ ts) → HaveOwnNames after
  names_after (Ok it) g f = names_stay tables after change (count_of it) (change_gives (Ok it) g) (subst HaveOwnNames view own)
  names_after (Err d) g f = subst HaveOwnNames (sym f) own

  pub rows_after : (r : Result Touched (Fail Refused)) → Gives {T = Tables × Touched} (result_map (λ it. (after, it)) r) (changed_at ts i t change) → OnErr r (after ≡ ts)
      → RowsFit tables → ChangeFits tables change → RowsFit after
  rows_after (Ok it) g f = rows_stay tables after change (count_of it) (change_gives (Ok it) g) (subst HaveOwnNames view own)
  rows_after (Err d) g f = λ fit c. subst RowsFit (sym (f ∙ view)) fit
