use Rattle.std.proofs.Common.{ℕ, List, Err, sym, ap, ◌∙◌, subst}
use Rattle.std.proofs.lemmas.Result.{err_from_is_err_and}
use Rattle.mq_values.specs.Answers.{Gives}
use Rattle.mq_values.specs.declared.faults.Refused.TheVariants as refused
use Rattle.mq_ir.specs.Tables.{Tables, table_at}
use Rattle.mq_tables.specs.Pending.{with_held, with_pending}
use Rattle.mq_tables.specs.Staging.{Staged}
use Rattle.mq_tables.proofs.HeldStandLemmas.{fits_there, hold_stands}
use Rattle.mq_tables.proofs.HoldLemmas.{hold_is, hold_refused, hold_unknown}
use Rattle.mq_tables.proofs.JudgeLemmas.{rows_within, sized}
use Rattle.mq_tables.proofs.tables.Tables.hold.Goals as goal

pub returns-in_default-clause-exact : goal.returns-in_default-clause-exact
returns-in_default-clause-exact c =
    hold_unknown c.args.self.now c.args.pending.now c.args.c.now (ap (table_at c.args.self.now) (sym (c.as_str.ensures ∙ c.table_of-name.ensures)) ∙ sym c.in_default.ensures)
    ∙ ap (λ name. Err (refused.UnknownName name)) (sym c.table_of-name.ensures ∙ sym c.in_ok-copy.ensures)

pub returns-in_err-judge_pending_size-clause-exact : goal.returns-in_err-judge_pending_size-clause-exact
returns-in_err-judge_pending_size-clause-exact c =
    let p = err_from_is_err_and c.from_residual-in_err-judge_pending_size.result c.from_residual-in_err-judge_pending_size.ensures.1 in
    rw (p.1, p.2)
    (hold_refused c.args.self.now c.args.pending.now c.args.c.now c.as_str.result.now (c.as_str.ensures ∙ c.table_of-name.ensures) c.in-Some.table.now (sym c.in-Some.ensures)
    c.as_slice.result.now c.rows_added.result c.in_err-judge_pending_size.field-0.0 c.as_slice.ensures c.rows_added.ensures c.in_err-judge_pending_size.ensures)

pub hold-requires-clause-within : goal.hold-requires-clause-within
hold-requires-clause-within c =
    rows_within (with_pending c.args.self.now c.args.pending.now) c.args.c.now (with_held c.args.pending.now c.in-Some.table.now)
    (sized (with_pending c.args.self.now c.args.pending.now) (with_pending c.as_slice.result.now c.args.pending.now) c.args.c.now (with_held c.args.pending.now c.in-Some.table.now)
    c.rows_added.result c.in_ok-judge_pending_size.field-0 (ap (λ (ts : Tables). with_pending ts c.args.pending.now) c.as_slice.ensures) c.rows_added.ensures c.in_ok-judge_pending_size.ensures)

pub returns-in_err-count-clause-exact : goal.returns-in_err-count-clause-exact
returns-in_err-count-clause-exact c =
    let p = err_from_is_err_and c.from_residual-in_err-count.result c.from_residual-in_err-count.ensures.1 in
    rw (p.1, p.2)
    (subst (Gives {T = List Staged × ℕ} (Err c.in_err-count.field-0.0)) (sym (hold_is c.args.self.now c.args.pending.now c.args.c.now c.as_str.result.now (c.as_str.ensures ∙ c.table_of-name.ensures) c.in-Some.table.now (sym c.in-Some.ensures)
    (sized (with_pending c.args.self.now c.args.pending.now) (with_pending c.as_slice.result.now c.args.pending.now) c.args.c.now (with_held c.args.pending.now c.in-Some.table.now)
    c.rows_added.result c.in_ok-judge_pending_size.field-0 (ap (λ (ts : Tables). with_pending ts c.args.pending.now) c.as_slice.ensures) c.rows_added.ensures c.in_ok-judge_pending_size.ensures)))
    c.in_err-count.ensures.exact)

pub returns-clause-exact : goal.returns-clause-exact
returns-clause-exact c =
    hold_is c.args.self.now c.args.pending.now c.args.c.now c.as_str.result.now (c.as_str.ensures ∙ c.table_of-name.ensures) c.in-Some.table.now (sym c.in-Some.ensures)
    (sized (with_pending c.args.self.now c.args.pending.now) (with_pending c.as_slice.result.now c.args.pending.now) c.args.c.now (with_held c.args.pending.now c.in-Some.table.now)
    c.rows_added.result c.in_ok-judge_pending_size.field-0 (ap (λ (ts : Tables). with_pending ts c.args.pending.now) c.as_slice.ensures) c.rows_added.ensures c.in_ok-judge_pending_size.ensures)
    ∙ c.in_ok-count.ensures.exact

pub returns-clause-stands : goal.returns-clause-stands
returns-clause-stands c = λ rows_fit. λ fits. λ all.
    hold_stands c.args.self.now c.args.pending.now c.args.c.now c.as_str.result.now (c.as_str.ensures ∙ c.table_of-name.ensures) c.in-Some.table.now (sym c.in-Some.ensures) all rows_fit
    (fits_there c.args.self.now c.args.c.now c.as_str.result.now c.in-Some.table.now (c.as_str.ensures ∙ c.table_of-name.ensures) (sym c.in-Some.ensures) fits)
    (sized (with_pending c.args.self.now c.args.pending.now) (with_pending c.as_slice.result.now c.args.pending.now) c.args.c.now (with_held c.args.pending.now c.in-Some.table.now)
    c.rows_added.result c.in_ok-judge_pending_size.field-0 (ap (λ (ts : Tables). with_pending ts c.args.pending.now) c.as_slice.ensures) c.rows_added.ensures c.in_ok-judge_pending_size.ensures)
    c.hold.new.self c.in_ok-count.count c.in_ok-count.ensures.exact
