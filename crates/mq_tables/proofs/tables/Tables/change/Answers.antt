use Rattle.std.proofs.Common.{◌≤◌, Err, length, position, sym, ap, ◌∙◌, subst}
use Rattle.std.proofs.lemmas.Option.{get_or_from_slice_get}
use Rattle.std.proofs.lemmas.Result.{err_from_is_err_and}
use Rattle.mq_values.specs.declared.faults.Refused.TheVariants as refused
use Rattle.mq_values.specs.declared.limits.TheConstants.{MAX_ROWS}
use Rattle.mq_ir.specs.Tables.{Table}
use Rattle.mq_tables.proofs.AppliedLemmas.{change_gives, has_name, names_after, rows_after, size_exit, stands, touch_gives, unknown}
use Rattle.mq_tables.proofs.JudgeLemmas.{rows_within, sized}
use Rattle.mq_tables.proofs.tables.Tables.change.Goals as goal

pub returns-in_default-clause-exact : goal.returns-in_default-clause-exact
returns-in_default-clause-exact c =
    unknown c.self.inside.tables.items c.args.self.now c.args.c.now c.as_str.result.now c.self.view_is (c.as_str.ensures ∙ c.table_of-name.ensures)
    (ap (position (has_name c.as_str.result.now)) (sym c.deref.ensures.value) ∙ sym c.in_default.ensures)
    ∙ ap (λ name. Err (refused.UnknownName name)) (c.as_str.ensures ∙ sym c.in_ok-copy.ensures)

pub returns-in_err-judge_size-clause-exact : goal.returns-in_err-judge_size-clause-exact
returns-in_err-judge_size-clause-exact c =
    let p = err_from_is_err_and c.from_residual-in_err-judge_size.result c.from_residual-in_err-judge_size.ensures.1 in
    rw (p.1, p.2)
    (size_exit c.self.inside.tables.items c.args.self.now c.self.view_is c.self.invariant c.args.c.now c.as_str.result.now (c.as_str.ensures ∙ c.table_of-name.ensures) c.in-Some.place c.index.result.now
    (ap (position (has_name c.as_str.result.now)) (sym c.deref.ensures.value) ∙ sym c.in-Some.ensures) c.index.ensures
    c.deref-2.result.now c.rows_added.result c.in_err-judge_size.field-0.0 c.deref-2.ensures.value c.rows_added.ensures c.in_err-judge_size.ensures)

pub change_at-requires-clause-rows : goal.change_at-requires-clause-rows
change_at-requires-clause-rows c = λ u s.
    let ts = c.self.inside.tables.items in
    let t = c.index.result.now in
    subst (λ (t : Table). length t.rows ≤ MAX_ROWS) (c.index.ensures ∙ get_or_from_slice_get ts c.in-Some.place u t s)
    (rows_within ts c.args.c.now t
    (sized ts c.deref-2.result.now c.args.c.now t c.rows_added.result c.in_ok-judge_size.field-0 c.deref-2.ensures.value c.rows_added.ensures c.in_ok-judge_size.ensures))

pub returns-clause-exact : goal.returns-clause-exact
returns-clause-exact c =
    let ts = c.self.inside.tables.items in
    let t = c.index.result.now in
    let name = c.as_str.result.now in
    let n = c.as_str.ensures ∙ c.table_of-name.ensures in
    let p = ap (position (has_name name)) (sym c.deref.ensures.value) ∙ sym c.in-Some.ensures in
    change_gives ts c.args.self.now c.self.view_is c.self.invariant c.args.c.now name n c.in-Some.place t p c.index.ensures
    (sized ts c.deref-2.result.now c.args.c.now t c.rows_added.result c.in_ok-judge_size.field-0 c.deref-2.ensures.value c.rows_added.ensures c.in_ok-judge_size.ensures)
    c.change_at.new.tables.items c.change_at.result
    (c.change_at.ensures.exact t (stands ts c.args.self.now c.self.view_is c.self.invariant c.args.c.now name n c.in-Some.place t p c.index.ensures))

pub returns-clause-touched : goal.returns-clause-touched
returns-clause-touched c =
    let ts = c.self.inside.tables.items in
    let t = c.index.result.now in
    let name = c.as_str.result.now in
    let n = c.as_str.ensures ∙ c.table_of-name.ensures in
    let p = ap (position (has_name name)) (sym c.deref.ensures.value) ∙ sym c.in-Some.ensures in
    touch_gives ts c.args.self.now c.self.view_is c.self.invariant c.args.c.now name n c.in-Some.place t p c.index.ensures
    (sized ts c.deref-2.result.now c.args.c.now t c.rows_added.result c.in_ok-judge_size.field-0 c.deref-2.ensures.value c.rows_added.ensures c.in_ok-judge_size.ensures)
    c.change_at.new.tables.items c.change_at.result
    (c.change_at.ensures.exact t (stands ts c.args.self.now c.self.view_is c.self.invariant c.args.c.now name n c.in-Some.place t p c.index.ensures))

pub invariant_of-self : goal.invariant_of-self
invariant_of-self c =
    let ts = c.self.inside.tables.items in
    let t = c.index.result.now in
    let name = c.as_str.result.now in
    let n = c.as_str.ensures ∙ c.table_of-name.ensures in
    let p = ap (position (has_name name)) (sym c.deref.ensures.value) ∙ sym c.in-Some.ensures in
    names_after ts c.args.self.now c.self.view_is c.self.invariant c.args.c.now name n c.in-Some.place t p c.index.ensures
    (sized ts c.deref-2.result.now c.args.c.now t c.rows_added.result c.in_ok-judge_size.field-0 c.deref-2.ensures.value c.rows_added.ensures c.in_ok-judge_size.ensures)
    c.change_at.new.tables.items c.change_at.result
    (c.change_at.ensures.exact t (stands ts c.args.self.now c.self.view_is c.self.invariant c.args.c.now name n c.in-Some.place t p c.index.ensures)) c.change_at.ensures.err

pub returns-clause-fit : goal.returns-clause-fit
returns-clause-fit c =
    let ts = c.self.inside.tables.items in
    let t = c.index.result.now in
    let name = c.as_str.result.now in
    let n = c.as_str.ensures ∙ c.table_of-name.ensures in
    let p = ap (position (has_name name)) (sym c.deref.ensures.value) ∙ sym c.in-Some.ensures in
    rows_after ts c.args.self.now c.self.view_is c.self.invariant c.args.c.now name n c.in-Some.place t p c.index.ensures
    (sized ts c.deref-2.result.now c.args.c.now t c.rows_added.result c.in_ok-judge_size.field-0 c.deref-2.ensures.value c.rows_added.ensures c.in_ok-judge_size.ensures)
    c.change_at.new.tables.items c.change_at.result
    (c.change_at.ensures.exact t (stands ts c.args.self.now c.self.view_is c.self.invariant c.args.c.now name n c.in-Some.place t p c.index.ensures)) c.change_at.ensures.err
