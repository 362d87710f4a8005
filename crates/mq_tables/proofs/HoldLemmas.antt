-- Changes that are held over earlier ones.
use Rattle.std.proofs.Common.{◌≡◌, ℕ, zero, suc, ◌<◌, List, [], ◌∷◌, ◌++◌, Bool, true, false, Some, None, length, get_or, set, Result, Ok, Err, refl, sym, ap, ◌∙◌, arith}
use Rattle.std.specs.Prelude.{if◌then◌else◌, nat_lt, position}
use Rattle.std.specs.List.{find, position_or_len}
use Rattle.std.specs.Option.{option_map, option_map_or}
use Rattle.std.proofs.lemmas.Bool.{ltb-false}
use Rattle.std.proofs.lemmas.List.Folds.{find_at}
use Rattle.std.proofs.lemmas.List.Quantifiers.{position-Some}
use Rattle.std.proofs.lemmas.Option.{slice_get_past}
use Rattle.mq_values.specs.Answers.{Gives, result_map}
use Rattle.mq_values.specs.declared.faults.Refused.{Refused}
use Rattle.mq_values.specs.declared.faults.Refused.TheVariants as refused
use Rattle.mq_values.specs.declared.memory.Fail.{Fail}
use Rattle.mq_values.specs.declared.memory.Fail.TheVariants as fail
use Rattle.mq_ir.specs.declared.statement.Change.{Change}
use Rattle.mq_ir.specs.Changes.{rows_added, size_fault, table_of}
use Rattle.mq_ir.specs.Results.{◌>>=◌}
use Rattle.mq_ir.specs.Statement.{unless_refused}
use Rattle.mq_ir.specs.Tables.{Table, Tables, is_name, table_at}
use Rattle.mq_tables.specs.Pending.{combined, held, held_one, held_over, holding, is_of, pending_rows, step_of, with_held, with_pending}
use Rattle.mq_tables.specs.Staging.{Staged}
use Rattle.mq_tables.proofs.JudgeLemmas.{after_size, no_table, size_refused}
use Rattle.mq_tables.proofs.StandLemmas.{found_passes, name_is}
use Rattle.mq_tables.proofs.Walks.{exit}

-- ---- what is held of a table
found_at : (name : List ℕ) (pending : List Staged) (i : ℕ) (s : Staged) → i < length pending → s ≡ get_or pending i s → is_of name s ≡ true
    → ((k : ℕ) → k < i → is_of name (get_or pending k s) ≡ false) → find (is_of name) pending ≡ Some s
found_at name [] i s l e t f = absurd (omega (arith, l))
found_at name (q ∷ pending) zero s l e t f =
    ap (λ b. if b then Some q else find (is_of name) pending) (ap (is_of name) (sym e) ∙ t) ∙ ap Some (sym e)
found_at name (q ∷ pending) (suc i) s l e t f =
    ap (λ b. if b then Some q else find (is_of name) pending) (f zero (omega arith)) ∙ found_at name pending i s (omega (arith, l)) e t (λ k lt. f (suc k) (omega (arith, lt)))

held_at : (name : List ℕ) (pending : List Staged) (step : Staged) (i : ℕ) (s : Staged) → i < length pending → s ≡ get_or pending i s → is_of name s ≡ true
    → ((k : ℕ) → k < i → is_of name (get_or pending k s) ≡ false) → held name pending step ≡ set pending i (combined s step)
held_at name [] step i s l e t f = absurd (omega (arith, l))
held_at name (q ∷ pending) step zero s l e t f =
    ap (λ b. if b then combined q step ∷ pending else q ∷ held name pending step) (ap (is_of name) (sym e) ∙ t) ∙ ap (λ z. combined z step ∷ pending) (sym e)
held_at name (q ∷ pending) step (suc i) s l e t f =
    ap (λ b. if b then combined q step ∷ pending else q ∷ held name pending step) (f zero (omega arith))
    ∙ ap (λ r. q ∷ r) (held_at name pending step i s (omega (arith, l)) e t (λ k lt. f (suc k) (omega (arith, lt))))

held_new : (name : List ℕ) (pending : List Staged) (step : Staged) → find (is_of name) pending ≡ None → held name pending step ≡ pending ++ step ∷ []
held_new name [] step h = refl
held_new name (q ∷ pending) step h = by (is_of name q) (held_new name pending step) h
  where
    by : (b : Bool) → (find (is_of name) pending ≡ None → held name pending step ≡ pending ++ step ∷ []) → (if b then Some q else find (is_of name) pending) ≡ None
        → (if b then combined q step ∷ pending else q ∷ held name pending step) ≡ q ∷ (pending ++ step ∷ [])
    by true k g = absurd (cc)
    by false k g = ap (λ r. q ∷ r) (k g)

nowhere : (name : List ℕ) (pending : List Staged) → position (is_of name) pending ≡ None → find (is_of name) pending ≡ None
nowhere name pending p = by (nat_lt (position_or_len (is_of name) pending) (length pending)) refl p
  where
    by : (b : Bool) → nat_lt (position_or_len (is_of name) pending) (length pending) ≡ b → (if b then Some (position_or_len (is_of name) pending) else None) ≡ None → find (is_of name) pending ≡ None
    by true e h = absurd (cc)
    by false e h = find_at (is_of name) pending ∙ slice_get_past pending (position_or_len (is_of name) pending) (ltb-false (position_or_len (is_of name) pending) (length pending) e)

-- ---- a change more of a table
module _ (pending : List Staged) (t : Table) (change : Change) where
  abbrev all : Staged → Result (List Staged × ℕ) Refused
  all step = Ok (held t.name pending step, step.counted)

  -- the table is touched
  module _ (name : List ℕ) (n : name ≡ t.name) (i : ℕ) (s : Staged) (p : position (is_of name) pending ≡ Some i) (e : s ≡ get_or pending i s) where
    where_held : position (is_of t.name) pending ≡ Some i
    where_held = ap (λ w. position (is_of w) pending) (sym n) ∙ p

    is_there : find (is_of t.name) pending ≡ Some s
    is_there =
        let q = position-Some (is_of t.name) pending i s where_held in
        found_at t.name pending i s q.0 e (ap (is_of t.name) e ∙ q.1) q.2

    same_table : with_held pending t ≡ record { name = s.table; schema = t.schema; rows = s.rows }
    same_table =
        ap (λ o. record t { rows = option_map_or (λ (s : Staged). s.rows) o t.rows }) is_there
        ∙ ap (λ w. record { name = w; schema = t.schema; rows = s.rows }) (name_is t.name s.table (ap (is_of t.name) e ∙ (position-Some (is_of t.name) pending i s where_held).1))

    pub rows_are : pending_rows pending t ≡ s.rows
    rows_are = ap (λ (u : Table). u.rows) same_table

    pub some_gives : (after : List Staged) (u : Staged) (r : Result ℕ (Fail Refused)) → after ≡ set pending i u → Gives {T = Staged × ℕ} (result_map (λ count. (u, count)) r) (held_over t.schema s change)
        → Gives {T = List Staged × ℕ} (result_map (λ count. (after, count)) r) (held_one pending t change)
    some_gives after u (Ok count) a g =
        ap (λ (v : Table). step_of v change >>= all) same_table ∙ by (step_of (record { name = s.table; schema = t.schema; rows = s.rows }) change) g
      where
        by : (r : Result Staged Refused) → ◌≡◌ {A = Result (Staged × ℕ) Refused} (r >>= (λ step. Ok (combined s step, step.counted))) (Ok (u, count))
            → ◌≡◌ {A = Result (List Staged × ℕ) Refused} (r >>= all) (Ok (after, count))
        by (Ok step) h =
            let q : (combined s step, step.counted) ≡ (u, count) = cc in
            let m = position-Some (is_of t.name) pending i s where_held in
            ap (λ l. Ok (l, step.counted)) (held_at t.name pending step i s m.0 e (ap (is_of t.name) e ∙ m.1) m.2)
            ∙ ap (λ (w : Staged × ℕ). Ok (set pending i w.0, w.1)) q
            ∙ ap (λ (l : List Staged). Ok (l, count)) (sym a)
        by (Err d) h = absurd (cc)
    some_gives after u (Err (fail.Cause d)) a g =
        ap (λ (v : Table). step_of v change >>= all) same_table ∙ by (step_of (record { name = s.table; schema = t.schema; rows = s.rows }) change) g
      where
        by : (r : Result Staged Refused) → ◌≡◌ {A = Result (Staged × ℕ) Refused} (r >>= (λ step. Ok (combined s step, step.counted))) (Err d) → ◌≡◌ {A = Result (List Staged × ℕ) Refused} (r >>= all) (Err d)
        by (Ok step) h = absurd (cc)
        by (Err f) h = ap Err (let q : f ≡ d = cc in q)
    some_gives after u (Err fail.Memory) a g = tt

  -- it is not
  module _ (name : List ℕ) (n : name ≡ t.name) (p : position (is_of name) pending ≡ None) where
    is_nowhere : find (is_of t.name) pending ≡ None
    is_nowhere = nowhere t.name pending (ap (λ w. position (is_of w) pending) (sym n) ∙ p)

    as_it_stands : with_held pending t ≡ t
    as_it_stands = ap (λ o. record t { rows = option_map_or (λ (s : Staged). s.rows) o t.rows }) is_nowhere

    pub rows_stand : pending_rows pending t ≡ t.rows
    rows_stand = ap (λ (u : Table). u.rows) as_it_stands

    pub none_gives : (after : List Staged) (step : Staged) (count : ℕ) → step_of t change ≡ Ok step → after ≡ pending ++ step ∷ [] → count ≡ step.counted → held_one pending t change ≡ Ok (after, count)
    none_gives after step count g a c =
        ap (λ (v : Table). step_of v change >>= all) as_it_stands
        ∙ ap (λ (r : Result Staged Refused). r >>= all) g
        ∙ ap (λ l. Ok (l, step.counted)) (held_new t.name pending step is_nowhere ∙ sym a)
        ∙ ap (λ k. Ok (after, k)) (sym c)

    pub none_exit : (f : Fail Refused) → Gives {T = Staged} (Err f) (step_of t change) → Gives {T = List Staged × ℕ} (Err f) (held_one pending t change)
    none_exit f g =
        exit (step_of t change) (held_one pending t change) f g (λ fault h.
        ap (λ (v : Table). step_of v change >>= all) as_it_stands ∙ ap (λ (r : Result Staged Refused). r >>= all) h)

-- ---- the tables as what is held leaves them
held_table_at : (tables : Tables) (pending : List Staged) (name : List ℕ) → table_at (with_pending tables pending) name ≡ option_map (with_held pending) (table_at tables name)
held_table_at [] pending name = refl
held_table_at (t ∷ ts) pending name = by (is_name name t.name) (held_table_at ts pending name)
  where
    by : (b : Bool) → table_at (with_pending ts pending) name ≡ option_map (with_held pending) (table_at ts name)
        → (if b then Some (with_held pending t) else table_at (with_pending ts pending) name) ≡ option_map (with_held pending) (if b then Some t else table_at ts name)
    by true e = refl
    by false e = e

abbrev noted : Change → List Staged → Staged → Result (List Staged × ℕ) Refused
noted change pending step = Ok (held (table_of change) pending step, step.counted)

pub hold_unknown : (tables : Tables) (pending : List Staged) (change : Change) → table_at tables (table_of change) ≡ None → holding tables pending change ≡ Err (refused.UnknownName (table_of change))
hold_unknown tables pending change h =
    ap (λ (r : Result Staged Refused). r >>= noted change pending)
    (no_table (with_pending tables pending) change (held_table_at tables pending (table_of change) ∙ ap (option_map (with_held pending)) h))

module _ (tables : Tables) (pending : List Staged) (change : Change) (name : List ℕ) (n : name ≡ table_of change) (t : Table) (h : table_at tables name ≡ Some t) where
  pub held_there : table_at (with_pending tables pending) name ≡ Some (with_held pending t)
  held_there = held_table_at tables pending name ∙ ap (option_map (with_held pending)) h

  own_name : table_of change ≡ t.name
  own_name = sym n ∙ name_is name t.name (found_passes (λ (u : Table). is_name name u.name) tables t h)

  pub hold_is : size_fault (with_pending tables pending) (with_held pending t) (rows_added change) ≡ None → holding tables pending change ≡ held_one pending t change
  hold_is z =
      ap (λ (r : Result Staged Refused). r >>= noted change pending) (after_size (with_pending tables pending) change name (with_held pending t) n held_there z)
      ∙ ap (λ w. step_of (with_held pending t) change >>= (λ step. Ok (held w pending step, step.counted))) own_name

  pub hold_refused : (seen : Tables) (added : ℕ) (f : Fail Refused) → seen ≡ tables → added ≡ rows_added change
      → Gives {T = Unit {0}} (Err f) (unless_refused (size_fault (with_pending seen pending) (with_held pending t) added) (Ok tt)) → Gives {T = List Staged × ℕ} (Err f) (holding tables pending change)
  hold_refused seen added f s a g =
      exit (unless_refused (size_fault (with_pending seen pending) (with_held pending t) added) (Ok tt)) (holding tables pending change) f g (λ fault k.
      ap (λ (r : Result Staged Refused). r >>= noted change pending)
      (size_refused (with_pending tables pending) (with_pending seen pending) change name (with_held pending t) added fault n held_there (ap (λ (z : Tables). with_pending z pending) s) a k))
