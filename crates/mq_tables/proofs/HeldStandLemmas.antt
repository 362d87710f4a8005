-- What is held stands on the tables.
use Rattle.std.proofs.Common.{◌≡◌, ◌<◌, ℕ, zero, suc, List, [], ◌∷◌, All, Bool, true, false, ◌≤◌, Option, Some, None, length, map, get_or, Result, Ok, Err, refl, sym, ap, ◌∙◌, subst, arith}
use Rattle.std.specs.Prelude.{if◌then◌else◌, slice_get}
use Rattle.std.specs.List.{AllZip, find, list_all}
use Rattle.std.specs.Option.{option_map_or}
use Rattle.mq_values.specs.declared.faults.Refused.{Refused}
use Rattle.mq_values.specs.declared.limits.TheConstants.{MAX_ROWS}
use Rattle.mq_ir.specs.declared.statement.Change.{Change}
use Rattle.mq_ir.specs.Changes.{Changed, key_fault, rows_added, rows_changed, size_fault, table_of}
use Rattle.mq_ir.specs.FitsStatement.{change_fits_schema, is_row_of}
use Rattle.mq_ir.specs.Keys.{Tuple}
use Rattle.mq_ir.specs.Results.{◌>>=◌}
use Rattle.mq_ir.specs.Statement.{unless_refused}
use Rattle.mq_ir.specs.Tables.{Table, Tables, table_at}
use Rattle.mq_tables.specs.Held.{RowsFit}
use Rattle.mq_tables.specs.Pending.{combined, held, held_one, is_of, pending_rows, step_of, through, with_held, with_pending}
use Rattle.mq_tables.specs.KeyOrder.{judged}
use Rattle.mq_tables.specs.Staging.{ChangeFits, Staged, StandsOn, StoodAt, origins_of}
use Rattle.mq_tables.proofs.HoldLemmas.{held_there}
use Rattle.mq_tables.proofs.StandLemmas.{found_fits, found_passes, judged_stands, name_is, ok_is, own_name, then_is}

-- a fact of each, told one after another
abbrev Each : (Staged → Type 0) → List Staged → Type 0
Each P [] = Unit {0}
Each P (s ∷ pending) = P s × Each P pending

one_by_one : (P : Staged → Type 0) (pending : List Staged) → All P pending → Each P pending
one_by_one P [] h = tt
one_by_one P (s ∷ pending) h = (h zero s (omega arith), one_by_one P pending (λ k d l. h (suc k) d (omega (arith, l))))

of_each : (P : Staged → Type 0) (pending : List Staged) → Each P pending → (k : ℕ) (d : Staged) → k < length pending → P (get_or pending k d)
of_each P [] h k d l = absurd (omega (arith, l))
of_each P (s ∷ pending) h zero d l = h.0
of_each P (s ∷ pending) h (suc k) d l = of_each P pending h.1 k d (omega (arith, l))

-- what is held of a table, as one of all that is held
found_stands : (tables : Tables) (name : List ℕ) (pending : List Staged) (s : Staged) → Each (StandsOn tables) pending → find (is_of name) pending ≡ Some s → StandsOn tables s
found_stands tables name [] s h f = absurd (cc)
found_stands tables name (q ∷ pending) s h f = by (is_of name q) (found_stands tables name pending s h.1) f
  where
    by : (b : Bool) → (find (is_of name) pending ≡ Some s → StandsOn tables s) → (if b then Some q else find (is_of name) pending) ≡ Some s → StandsOn tables s
    by true k g = subst (StandsOn tables) (let e : q ≡ s = cc in e) h.0
    by false k g = k g

-- a row that stood at a place stood where the row of that place stood
stood_there : (old rows : List Tuple) (origins : List (Option ℕ)) (row : Tuple) (p : ℕ) → AllZip (StoodAt old) rows origins → slice_get rows p ≡ Some row → StoodAt old row (get_or origins p None)
stood_there old [] origins row p h e = absurd (cc)
stood_there old (x ∷ rows) [] row p h e = absurd h
stood_there old (x ∷ rows) (o ∷ origins) row zero h e = subst (λ (r : Tuple). StoodAt old r o) (let q : x ≡ row = cc in q) h.0
stood_there old (x ∷ rows) (o ∷ origins) row (suc p) h e = stood_there old rows origins row p h.1 e

stood_through : (old rows : List Tuple) (origins : List (Option ℕ)) → AllZip (StoodAt old) rows origins → (after : List Tuple) (places : List (Option ℕ)) → AllZip (StoodAt rows) after places
    → AllZip (StoodAt old) after (map (through origins) places)
stood_through old rows origins h [] [] k = tt
stood_through old rows origins h [] (p ∷ places) k = absurd k
stood_through old rows origins h (x ∷ after) [] k = absurd k
stood_through old rows origins h (x ∷ after) (None ∷ places) k = (tt, stood_through old rows origins h after places k.1)
stood_through old rows origins h (x ∷ after) (Some p ∷ places) k = (stood_there old rows origins x p h k.0, stood_through old rows origins h after places k.1)

step_name : (t : Table) (change : Change) (step : Staged) → step_of t change ≡ Ok step → step.table ≡ t.name
step_name t change step h =
    then_is (rows_changed t change) (λ changed. judged t.schema changed.0 >>= placed changed) step (step.table ≡ t.name) h (λ changed d k.
    then_is (judged t.schema changed.0) (placed changed) step (step.table ≡ t.name) k (λ after j l.
    then_is (origins_of t change) (λ origins. Ok (noted changed after origins)) step (step.table ≡ t.name) l (λ origins o e.
    sym (ap (λ (s : Staged). s.table) (ok_is (noted changed after origins) step e)))))
  where
    noted : Changed → List Tuple → List (Option ℕ) → Staged
    noted changed after origins = record { table = t.name; had = length t.rows; rows = after; counted = changed.1; origins = origins }

    placed : Changed → List Tuple → Result Staged Refused
    placed changed after = origins_of t change >>= (λ origins. Ok (noted changed after origins))

-- a step of rows that stand, told by their table
record Steps (t : Table) (rows : List Tuple) (step : Staged) : Type 0 where
  kept : AllZip (StoodAt rows) step.rows step.origins
  within : length step.rows ≤ MAX_ROWS
  fit : list_all (is_row_of t.schema) step.rows ≡ true
  apart : key_fault t.schema step.rows ≡ None
  had : step.had ≡ length rows

module _ (tables : Tables) (pending : List Staged) (change : Change) (name : List ℕ) (n : name ≡ table_of change) (t : Table) (there : table_at tables name ≡ Some t) (all : All (StandsOn tables) pending)
    (rows_fit : RowsFit tables) (fits : change_fits_schema t.schema change ≡ true) where
  own : table_at tables t.name ≡ Some t
  own = own_name tables name t there

  -- what is held of the table stands on it
  module _ (s : Staged) (f : find (is_of t.name) pending ≡ Some s) where
    stands : StandsOn tables s
    stands = found_stands tables t.name pending s (one_by_one (StandsOn tables) pending all) f

    named : t.name ≡ s.table
    named = name_is t.name s.table (found_passes (is_of t.name) pending s f)

    is_table : stands.table ≡ t
    is_table = let q : Some stands.table ≡ Some t = sym stands.is_there ∙ ap (table_at tables) (sym named) ∙ own in cc

  pending_fit : list_all (is_row_of t.schema) (pending_rows pending t) ≡ true
  pending_fit = by (find (is_of t.name) pending) refl
    where
      by : (o : Option Staged) → find (is_of t.name) pending ≡ o → list_all (is_row_of t.schema) (option_map_or (λ (s : Staged). s.rows) o t.rows) ≡ true
      by None e = found_fits tables name t rows_fit there
      by (Some s) e = subst (λ (u : Table). list_all (is_row_of u.schema) s.rows ≡ true) (is_table s e) (stands s e).fit

  module _ (z : size_fault (with_pending tables pending) (with_held pending t) (rows_added change) ≡ None) (step : Staged) (h : step_of (with_held pending t) change ≡ Ok step) where
    on_pending : StandsOn (with_pending tables pending) step
    on_pending =
        judged_stands (with_pending tables pending) name (with_held pending t) change step (held_there tables pending change name n t there) pending_fit fits
        (ap (λ o. unless_refused o (step_of (with_held pending t) change)) z ∙ h)

    same_table : on_pending.table ≡ with_held pending t
    same_table =
        let q : Some on_pending.table ≡ Some (with_held pending t) =
        sym on_pending.is_there ∙ ap (table_at (with_pending tables pending)) (step_name (with_held pending t) change step h)
        ∙ own_name (with_pending tables pending) name (with_held pending t) (held_there tables pending change name n t there) in
        cc

    steps : Steps t (pending_rows pending t) step
    steps = record {
      kept = subst (λ (u : Table). AllZip (StoodAt u.rows) step.rows step.origins) same_table on_pending.kept;
      within = on_pending.within;
      fit = subst (λ (u : Table). list_all (is_row_of u.schema) step.rows ≡ true) same_table on_pending.fit;
      apart = subst (λ (u : Table). key_fault u.schema step.rows ≡ None) same_table on_pending.apart;
      had = sym on_pending.as_many ∙ ap (λ (u : Table). length u.rows) same_table;
    }

    -- combined with what is held of the table, and by itself
    combined_stands : (s : Staged) (f : find (is_of t.name) pending ≡ Some s) → StandsOn tables (combined s step)
    combined_stands s f =
        let stood = stands s f in
        let is = is_table s f in
        let rows : pending_rows pending t ≡ s.rows = ap (λ o. option_map_or (λ (s : Staged). s.rows) o t.rows) f in
        record {
          table = t;
          is_there = ap (table_at tables) (sym (named s f)) ∙ own;
          as_many = ap (λ (u : Table). length u.rows) (sym is) ∙ stood.as_many;
          kept =
              stood_through t.rows s.rows s.origins (subst (λ (u : Table). AllZip (StoodAt u.rows) s.rows s.origins) is stood.kept) step.rows step.origins
              (subst (λ (l : List Tuple). AllZip (StoodAt l) step.rows step.origins) rows steps.kept);
          within = steps.within;
          fit = steps.fit;
          apart = steps.apart;
        }

    step_stands : find (is_of t.name) pending ≡ None → StandsOn tables step
    step_stands f =
        let rows : pending_rows pending t ≡ t.rows = ap (λ o. option_map_or (λ (s : Staged). s.rows) o t.rows) f in
        record {
          table = t;
          is_there = ap (table_at tables) (step_name (with_held pending t) change step h) ∙ own;
          as_many = ap length (sym rows) ∙ sym steps.had;
          kept = subst (λ (l : List Tuple). AllZip (StoodAt l) step.rows step.origins) rows steps.kept;
          within = steps.within;
          fit = steps.fit;
          apart = steps.apart;
        }

    each_stands : (qs : List Staged) → Each (StandsOn tables) qs → ((s : Staged) → find (is_of t.name) qs ≡ Some s → StandsOn tables (combined s step)) → (find (is_of t.name) qs ≡ None → StandsOn tables step)
        → Each (StandsOn tables) (held t.name qs step)
    each_stands [] h some none = (none refl, tt)
    each_stands (q ∷ qs) h some none = by (is_of t.name q) some none (each_stands qs h.1)
      where
        by : (b : Bool) → ((s : Staged) → (if b then Some q else find (is_of t.name) qs) ≡ Some s → StandsOn tables (combined s step)) → ((if b then Some q else find (is_of t.name) qs) ≡ None → StandsOn tables step)
            → (((s : Staged) → find (is_of t.name) qs ≡ Some s → StandsOn tables (combined s step)) → (find (is_of t.name) qs ≡ None → StandsOn tables step) → Each (StandsOn tables) (held t.name qs step))
            → Each (StandsOn tables) (if b then combined q step ∷ qs else q ∷ held t.name qs step)
        by true some none k = (some q refl, h.1)
        by false some none k = (h.0, k some none)

    pub held_stands : All (StandsOn tables) (held t.name pending step)
    held_stands = of_each (StandsOn tables) (held t.name pending step) (each_stands pending (one_by_one (StandsOn tables) pending all) combined_stands step_stands)

  pub hold_stands : size_fault (with_pending tables pending) (with_held pending t) (rows_added change) ≡ None → (after : List Staged) (count : ℕ) → held_one pending t change ≡ Ok (after, count)
      → All (StandsOn tables) after
  hold_stands z after count g = by (step_of (with_held pending t) change) refl g
    where
      by : (r : Result Staged Refused) → step_of (with_held pending t) change ≡ r → ◌≡◌ {A = Result (List Staged × ℕ) Refused} (r >>= (λ step. Ok (held t.name pending step, step.counted))) (Ok (after, count))
          → All (StandsOn tables) after
      by (Ok step) e h =
          let q : (held t.name pending step, step.counted) ≡ (after, count) = cc in
          subst (λ (m : List Staged × ℕ). All (StandsOn tables) m.0) q (held_stands z step e)
      by (Err d) e h = absurd (cc)

-- a change that fits its table
pub fits_there : (tables : Tables) (change : Change) (name : List ℕ) (t : Table) → name ≡ table_of change → table_at tables name ≡ Some t → ChangeFits tables change → change_fits_schema t.schema change ≡ true
fits_there tables change name t n h f = ap (λ o. option_map_or (λ (t : Table). change_fits_schema t.schema change) o false) (sym (ap (table_at tables) (sym n) ∙ h)) ∙ f
