-- A change that is made of rows, with the old places of the first of them.
use Rattle.std.proofs.Common.{◌≡◌, ℕ, ◌+◌, ◌≤◌, List, Option, length, map, Result, Ok, Err, sym, ap, ◌∙◌, subst, arith}
use Rattle.mq_values.specs.Answers.{Gives}
use Rattle.mq_values.specs.declared.faults.Refused.{Refused}
use Rattle.mq_values.specs.declared.memory.Fail.{Fail}
use Rattle.mq_ir.specs.declared.statement.Change.{Change}
use Rattle.mq_ir.specs.declared.statement.Schema.{Schema}
use Rattle.mq_ir.specs.Keys.{Tuple}
use Rattle.mq_ir.specs.Results.{◌>>=◌}
use Rattle.mq_ir.specs.Tables.{Table}
use Rattle.mq_tables.specs.declared.touched.Touched.{Touched}
use Rattle.mq_tables.specs.declared.touched.Touched.TheVariants as touched
use Rattle.mq_tables.specs.OldPlaces.{with_none}
use Rattle.mq_tables.specs.Pending.{combined, held_over, step_of, through}
use Rattle.mq_tables.specs.Sizes.{capped}
use Rattle.mq_tables.specs.Staging.{Staged, stays}
use Rattle.mq_tables.specs.Touching.{IsOf, count_of, made, noted, table_with}
use Rattle.mq_tables.proofs.NoteLemmas.{as_many, with_all}
use Rattle.mq_tables.proofs.StageLemmas.{Stepped, step_made, step_refused}
use Rattle.mq_tables.proofs.Walks.{exit}

fewer : (n m : ℕ) (it : Touched) → n ≤ m → IsOf m it → IsOf n it
fewer n m (touched.Added first count) l h = tt
fewer n m (touched.Replaced rows) l h = tt
fewer n m (touched.Gone flags rows) l h = omega (arith, l, h)

pub is_told : (schema : Schema) (rows after : List Tuple) (change : Change) (it : Touched) (n : ℕ) → n ≤ length rows → made schema rows change ≡ Ok (after, it) → IsOf n it
is_told schema rows after change it n l h = fewer n (length rows) it l (step_made (table_with schema rows) change after it h).whole

-- ---- a first change, of a copy of the rows
module _ (t : Table) (change : Change) (copy : List Tuple) (c : copy ≡ t.rows) where
  pub staged_is : (after : List Tuple) (known places : List (Option ℕ)) (it : Touched) (name : List ℕ) (had counted : ℕ) → made t.schema copy change ≡ Ok (after, it) → known ≡ stays t.rows
      → places ≡ noted known it → name ≡ t.name → had ≡ length t.rows → counted ≡ count_of it
      → step_of t change ≡ Ok (record { table = name; had = had; rows = after; counted = counted; origins = with_none places after })
  staged_is after known places it name had counted h k p n m l =
      s.is
      ∙ ap (λ o. Ok (record { table = t.name; had = length t.rows; rows = after; counted = count_of it; origins = o })) (sym origins)
      ∙ ap (λ w. Ok (record { table = w; had = length t.rows; rows = after; counted = count_of it; origins = with_none places after })) (sym n)
      ∙ ap (λ w. Ok (record { table = name; had = w; rows = after; counted = count_of it; origins = with_none places after })) (sym m)
      ∙ ap (λ w. Ok (record { table = name; had = had; rows = after; counted = w; origins = with_none places after })) (sym l)
    where
      s : Stepped t change after it
      s = step_made t change after it (ap (λ (rows : List Tuple). made t.schema rows change) (sym c) ∙ h)

      origins : with_none places after ≡ s.places
      origins =
          ap (λ l. with_none l after) (p ∙ ap (λ l. noted l it) k)
          ∙ s.later (stays t.rows) (let a = as_many t.rows in omega (arith, a))
          ∙ ap (λ l. map (through l) s.places) (with_all (stays t.rows) t.rows (as_many t.rows))
          ∙ s.first

  pub staged_short : (after : List Tuple) (known places : List (Option ℕ)) (it : Touched) → made t.schema copy change ≡ Ok (after, it) → known ≡ stays t.rows → places ≡ noted known it → length places ≤ length after
  staged_short after known places it h k p =
      let s = step_made t change after it (ap (λ (rows : List Tuple). made t.schema rows change) (sym c) ∙ h) in
      subst (λ (l : List (Option ℕ)). length l ≤ length after) (sym (p ∙ ap (λ l. noted l it) k)) (s.short (stays t.rows) (let a = as_many t.rows in omega (arith, a)))

  pub staged_exit : (e : Fail Refused) → Gives {T = List Tuple × Touched} (Err e) (made t.schema copy change) → Gives {T = Staged} (Err e) (step_of t change)
  staged_exit e g =
      exit (made t.schema copy change) (step_of t change) e g (λ fault h. step_refused t change fault (ap (λ (rows : List Tuple). made t.schema rows change) (sym c) ∙ h))

-- ---- a change more, of the rows that are held
module _ (schema : Schema) (s : Staged) (table : List ℕ) (had counted : ℕ) (rows : List Tuple) (known : List (Option ℕ))
    (v : record { table = table; had = had; rows = rows; counted = counted; origins = with_none known rows } ≡ s) (l : length known ≤ length rows) (change : Change) where
  abbrev held_table : Table
  held_table = record { name = table; schema = schema; rows = rows }

  abbrev seen : Staged
  seen = record { table = table; had = had; rows = rows; counted = counted; origins = with_none known rows }

  pub held_is : (after : List Tuple) (places : List (Option ℕ)) (it : Touched) (sum n : ℕ) → made schema rows change ≡ Ok (after, it) → places ≡ noted known it → n ≡ count_of it → sum ≡ capped (counted + n)
      → held_over schema s change ≡ Ok (record { table = table; had = had; rows = after; counted = sum; origins = with_none places after }, n)
  held_is after places it sum n h p c m =
      ap (λ (z : Staged). held_over schema z change) (sym v)
      ∙ ap (λ (r : Result Staged Refused). r >>= (λ step. Ok (combined seen step, step.counted))) made_step.is
      ∙ ap (λ k. Ok (record { table = table; had = had; rows = after; counted = capped (counted + k); origins = map (through (with_none known rows)) made_step.places }, k)) (sym c)
      ∙ ap (λ k. Ok (record { table = table; had = had; rows = after; counted = k; origins = map (through (with_none known rows)) made_step.places }, n)) (sym m)
      ∙ ap (λ o. Ok (record { table = table; had = had; rows = after; counted = sum; origins = o }, n)) (sym (ap (λ l. with_none l after) p ∙ made_step.later known l))
    where
      made_step : Stepped held_table change after it
      made_step = step_made held_table change after it h

  pub held_short : (after : List Tuple) (places : List (Option ℕ)) (it : Touched) → made schema rows change ≡ Ok (after, it) → places ≡ noted known it → length places ≤ length after
  held_short after places it h p = subst (λ (l : List (Option ℕ)). length l ≤ length after) (sym p) ((step_made held_table change after it h).short known l)

  pub held_exit : (e : Fail Refused) → Gives {T = List Tuple × Touched} (Err e) (made schema rows change) → Gives {T = Staged × ℕ} (Err e) (held_over schema s change)
  held_exit e g =
      exit (made schema rows change) (held_over schema s change) e g (λ fault h.
      ap (λ (z : Staged). held_over schema z change) (sym v)
      ∙ ap (λ (r : Result Staged Refused). r >>= (λ step. Ok (combined seen step, step.counted))) (step_refused held_table change fault h))
