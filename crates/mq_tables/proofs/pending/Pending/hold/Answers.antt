use Rattle.std.proofs.Common.{ℕ, List, Err, length, position, slice_set, sym, ap, ◌∙◌, ◌≤◌, refl, subst}
use Rattle.std.proofs.lemmas.Result.{err_from_is_err_and}
use Rattle.mq_values.specs.Answers.{Gives, result_map}
use Rattle.mq_values.specs.declared.limits.TheConstants.{MAX_ROWS}
use Rattle.mq_ir.specs.declared.statement.Schema.{Schema}
use Rattle.mq_ir.specs.Keys.{Tuple}
use Rattle.mq_tables.specs.Pending.{held_one, held_over, is_of, pending_rows}
use Rattle.mq_tables.specs.Staging.{Staged}
use Rattle.mq_tables.proofs.HoldLemmas.{none_exit, none_gives, rows_are, rows_stand, some_gives}
use Rattle.mq_tables.proofs.pending.Pending.hold.Goals as goal

pub hold-requires-clause-within : goal.hold-requires-clause-within
hold-requires-clause-within c =
    let held = c.self.inside.held.items in
    subst (λ (l : List Tuple). length l ≤ MAX_ROWS)
    (rows_are held c.args.table.now c.args.c.now c.name.result.now c.name.ensures c.in-Some.place c.index_mut.result.now
    (ap (position (is_of c.name.result.now)) (sym c.deref.ensures.value) ∙ sym c.in-Some.ensures) c.index_mut.ensures.value)
    (subst (λ (p : List Staged). length (pending_rows p c.args.table.now) ≤ MAX_ROWS) (sym c.self.view_is) c.requires.within)

pub returns-in-Some-clause-exact : goal.returns-in-Some-clause-exact
returns-in-Some-clause-exact c =
    let held = c.self.inside.held.items in
    let after = slice_set held c.in-Some.place c.hold.new.self in
    subst (λ (p : List Staged). Gives {T = List Staged × ℕ} (result_map (λ count. (after, count)) c.hold.result) (held_one p c.args.table.now c.args.c.now)) c.self.view_is
    (some_gives held c.args.table.now c.args.c.now c.name.result.now c.name.ensures c.in-Some.place c.index_mut.result.now
    (ap (position (is_of c.name.result.now)) (sym c.deref.ensures.value) ∙ sym c.in-Some.ensures) c.index_mut.ensures.value after c.hold.new.self c.hold.result refl
    (subst (λ (z : Schema). Gives {T = Staged × ℕ} (result_map (λ count. (c.hold.new.self, count)) c.hold.result) (held_over z c.index_mut.result.now c.args.c.now)) c.schema.ensures
    c.hold.ensures.exact))

pub of_change-requires-clause-within : goal.of_change-requires-clause-within
of_change-requires-clause-within c =
    let held = c.self.inside.held.items in
    subst (λ (l : List Tuple). length l ≤ MAX_ROWS)
    (rows_stand held c.args.table.now c.args.c.now c.name.result.now c.name.ensures (ap (position (is_of c.name.result.now)) (sym c.deref.ensures.value) ∙ sym c.in-None.ensures))
    (subst (λ (p : List Staged). length (pending_rows p c.args.table.now) ≤ MAX_ROWS) (sym c.self.view_is) c.requires.within)

pub returns-in_err-staged-in-None-clause-exact : goal.returns-in_err-staged-in-None-clause-exact
returns-in_err-staged-in-None-clause-exact c =
    let e = c.in_err-staged-in-None.field-0.0 in
    let p = err_from_is_err_and c.from_residual.result c.from_residual.ensures.1 in
    rw (p.1, p.2)
    (subst (λ (p : List Staged). Gives {T = List Staged × ℕ} (Err e) (held_one p c.args.table.now c.args.c.now)) c.self.view_is
    (none_exit c.self.inside.held.items c.args.table.now c.args.c.now c.name.result.now c.name.ensures
    (ap (position (is_of c.name.result.now)) (sym c.deref.ensures.value) ∙ sym c.in-None.ensures) e c.in_err-staged-in-None.ensures))

pub returns-in_ok-push-in-None-clause-exact : goal.returns-in_ok-push-in-None-clause-exact
returns-in_ok-push-in-None-clause-exact c =
    ap (λ (p : List Staged). held_one p c.args.table.now c.args.c.now) (sym c.self.view_is)
    ∙ none_gives c.self.inside.held.items c.args.table.now c.args.c.now c.name.result.now c.name.ensures
    (ap (position (is_of c.name.result.now)) (sym c.deref.ensures.value) ∙ sym c.in-None.ensures) c.push.new.self.items c.in_ok-staged-in-None.staged c.counted-count.result
    c.in_ok-staged-in-None.ensures c.in_ok-push-in-None.ensures.items c.counted-count.ensures
