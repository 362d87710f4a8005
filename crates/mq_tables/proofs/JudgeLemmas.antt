-- What a change comes to, judgement by judgement.
use Rattle.std.proofs.Common.{◌≡◌, ℕ, ◌≤◌, List, Option, Some, None, length, Result, Ok, Err, IfOk, refl, sym, ap, ◌∙◌, arith}
use Rattle.std.specs.Option.{ok_or}
use Rattle.mq_values.specs.Answers.{Gives}
use Rattle.mq_values.specs.declared.memory.Fail.{Fail}
use Rattle.mq_values.specs.declared.faults.Refused.{Refused}
use Rattle.mq_values.specs.declared.faults.Refused.TheVariants as refused
use Rattle.mq_values.specs.declared.limits.TheConstants.{MAX_ROWS}
use Rattle.mq_ir.specs.declared.statement.Change.{Change}
use Rattle.mq_ir.specs.Changes.{rows_added, rows_changed, size_fault, table_of}
use Rattle.mq_ir.specs.Results.{◌>>=◌}
use Rattle.mq_ir.specs.Statement.{staged, unless_refused}
use Rattle.mq_ir.specs.Tables.{Table, Tables, table_at}
use Rattle.mq_tables.specs.Held.{RowsFit}
use Rattle.mq_tables.specs.Pending.{step_of}
use Rattle.mq_tables.specs.Staging.{ChangeFits, Staged, StandsOn, origins_of, staging}
use Rattle.mq_tables.proofs.StageLemmas.{in_order}
use Rattle.mq_tables.proofs.StandLemmas.{staging_stands, within_limit}

-- what a judgement said
pub judged_none : (o : Option Refused) (u : Unit {0}) → unless_refused o (Ok tt) ≡ Ok u → o ≡ None
judged_none None u h = refl
judged_none (Some e) u h = absurd (cc)

judged_some : (o : Option Refused) (e : Refused) → ◌≡◌ {A = Result (Unit {0}) Refused} (unless_refused o (Ok tt)) (Err e) → o ≡ Some e
judged_some None e h = absurd (cc)
judged_some (Some d) e h = ap Some (let q : d ≡ e = cc in q)

pub no_table : (tables : Tables) (change : Change) → table_at tables (table_of change) ≡ None → staging tables change ≡ Err (refused.UnknownName (table_of change))
no_table tables change h =
    ap (λ o. ok_or o (refused.UnknownName (table_of change)) >>= (λ (t : Table).
    staged tables t change >>= (λ changed. origins_of t change >>= (λ origins.
    Ok (record { table = t.name; had = length t.rows; rows = changed.0; counted = changed.1; origins = origins }))))) h

pub of_table : (tables : Tables) (change : Change) (t : Table) → table_at tables (table_of change) ≡ Some t
    → staging tables change ≡ unless_refused (size_fault tables t (rows_added change)) (step_of t change)
of_table tables change t h =
    ap (λ o. ok_or o (refused.UnknownName (table_of change)) >>= (λ (t : Table).
    staged tables t change >>= (λ changed. origins_of t change >>= (λ origins.
    Ok (record { table = t.name; had = length t.rows; rows = changed.0; counted = changed.1; origins = origins }))))) h
    ∙ in_order (size_fault tables t (rows_added change)) t (rows_changed t change) (origins_of t change)

-- a change whose size is no refusal adds rows within the limit
pub sized : (tables seen : Tables) (change : Change) (t : Table) (added : ℕ) (u : Unit {0}) → seen ≡ tables → added ≡ rows_added change → unless_refused (size_fault seen t added) (Ok tt) ≡ Ok u
    → size_fault tables t (rows_added change) ≡ None
sized tables seen change t added u e n h =
    ap (λ (ts : Tables). size_fault ts t (rows_added change)) (sym e) ∙ ap (size_fault seen t) (sym n) ∙ judged_none (size_fault seen t added) u h

pub rows_within : (tables : Tables) (change : Change) (t : Table) → size_fault tables t (rows_added change) ≡ None → length t.rows ≤ MAX_ROWS
rows_within tables change t s = let w = within_limit tables t (rows_added change) s in omega (arith, w)

pub added_within : (tables : Tables) (change : Change) (t : Table) → size_fault tables t (rows_added change) ≡ None → rows_added change ≤ MAX_ROWS
added_within tables change t s = let w = within_limit tables t (rows_added change) s in omega (arith, w)

-- where each judgement is refused, and where none is
pub size_refused : (tables seen : Tables) (change : Change) (name : List ℕ) (t : Table) (added : ℕ) (e : Refused) → name ≡ table_of change → table_at tables name ≡ Some t → seen ≡ tables
    → added ≡ rows_added change → ◌≡◌ {A = Result (Unit {0}) Refused} (unless_refused (size_fault seen t added) (Ok tt)) (Err e) → staging tables change ≡ Err e
size_refused tables seen change name t added e n h q a s =
    of_table tables change t (ap (table_at tables) (sym n) ∙ h)
    ∙ ap (λ o. unless_refused o (step_of t change))
    (ap (λ (ts : Tables). size_fault ts t (rows_added change)) (sym q) ∙ ap (size_fault seen t) (sym a) ∙ judged_some (size_fault seen t added) e s)

pub after_size : (tables : Tables) (change : Change) (name : List ℕ) (t : Table) → name ≡ table_of change → table_at tables name ≡ Some t → size_fault tables t (rows_added change) ≡ None
    → staging tables change ≡ step_of t change
after_size tables change name t n h s =
    of_table tables change t (ap (table_at tables) (sym n) ∙ h) ∙ ap (λ o. unless_refused o (step_of t change)) s

-- what comes of a change stands on the tables
pub gives_stands : (tables : Tables) (change : Change) (r : Result Staged (Fail Refused)) → Gives r (staging tables change) → RowsFit tables → ChangeFits tables change → IfOk r (StandsOn tables)
gives_stands tables change (Ok s) g fit f = staging_stands tables change s fit f g
gives_stands tables change (Err e) g fit f = tt
