use Rattle.std.proofs.Common.{Err, Result, refl, sym, ap, ◌∙◌, subst}
use Rattle.std.proofs.lemmas.Result.{err_from_is_err_and}
use Rattle.mq_values.specs.declared.faults.Refused.{Refused}
use Rattle.mq_values.specs.declared.faults.Refused.TheVariants as refused
use Rattle.mq_ir.specs.declared.query.CellName.{CellName}
use Rattle.mq_ir.specs.Explaining.{explain_step, place_values}
use Rattle.mq_ir.specs.Statement.{Printed}
use Rattle.mq_engine.specs.Sessions.{view_explained}
use Rattle.mq_tool.specs.Steps.{Takes}
use Rattle.mq_tool.proofs.ExplainLemmas.{found_there, is_found, model_seen, no_key, no_model, no_place, refuses}
use Rattle.mq_tool.proofs.explaining.explain.Goals as goal

pub returns-in_default : goal.returns-in_default
returns-in_default g c =
    let old = c.args.engine.now in
    let asked = c.args.asked.now in
    λ files line. (
      no_model old asked (model_seen old asked c.catalog.result.now c.as_str-view.result.now _ c.in_default.ensures c.catalog.ensures.there c.as_str-view.ensures) ∙ ap (λ n. Err (refused.UnknownName n)) (sym c.in_ok-copy.ensures),
      refl,
      refl,
    )

pub returns-in_err-part : goal.returns-in_err-part
returns-in_err-part g c =
    let old = c.args.engine.now in
    let asked = c.args.asked.now in
    let part = c.in-Some.model.now in
    let p = err_from_is_err_and c.from_residual-in_err-part.result c.from_residual-in_err-part.ensures.1 in
    let h = model_seen old asked c.catalog.result.now c.as_str-view.result.now _ c.in-Some.ensures c.catalog.ensures.there c.as_str-view.ensures in
    rw (p.1, p.2) (λ files line. refuses (place_values part.part_kinds asked.part) (explain_step old asked) old c.args.out.now.items c.in_err-part.field-0.0 c.in_err-part.ensures (no_key old asked part h))

pub returns-in_err-cell_key : goal.returns-in_err-cell_key
returns-in_err-cell_key g c =
    let old = c.args.engine.now in
    let asked = c.args.asked.now in
    let part = c.in-Some.model.now in
    let r = c.from_residual-in_err-cell_key in
    let p = err_from_is_err_and r.result r.ensures.1 in
    let h = model_seen old asked c.catalog.result.now c.as_str-view.result.now _ c.in-Some.ensures c.catalog.ensures.there c.as_str-view.ensures in
    rw (p.1, p.2) (λ files line. refuses (place_values part.dims asked.cell) (explain_step old asked) old c.args.out.now.items c.in_err-cell_key.field-0.0 c.in_err-cell_key.ensures (no_place old asked part h c.in_ok-part.part c.in_ok-part.ensures))

pub returns-in-Ok : goal.returns-in-Ok
returns-in-Ok g c =
    let old = c.args.engine.now in
    let asked = c.args.asked.now in
    let part = c.in-Some.model.now in
    let key = c.in_ok-part.part in
    let cell = c.in_ok-cell_key.field-0 in
    let name : CellName = record { key = cell; measure = asked.measure } in
    let h = model_seen old asked c.catalog.result.now c.as_str-view.result.now _ c.in-Some.ensures c.catalog.ensures.there c.as_str-view.ensures in
    let found = ap (λ n. view_explained old n key name) (sym c.as_str-view.ensures) ∙ c.in-Ok.ensures in
    λ files line. subst (λ (m : Result Printed Refused). Takes m old old c.args.out.now.items c.explanation_text.new.out.items c.explanation_text.result)
    (sym (found_there old asked part h key c.in_ok-part.ensures cell c.in_ok-cell_key.ensures c.in-Ok.explained found)) (c.explanation_text.ensures old)

pub returns-in-Err-Cause : goal.returns-in-Err-Cause
returns-in-Err-Cause g c =
    let old = c.args.engine.now in
    let asked = c.args.asked.now in
    let part = c.in-Some.model.now in
    let key = c.in_ok-part.part in
    let cell = c.in_ok-cell_key.field-0 in
    let name : CellName = record { key = cell; measure = asked.measure } in
    let h = model_seen old asked c.catalog.result.now c.as_str-view.result.now _ c.in-Some.ensures c.catalog.ensures.there c.as_str-view.ensures in
    let none = ap (λ n. view_explained old n key name) (sym c.as_str-view.ensures) ∙ (rw c.in-Err-Cause.field-0-is at c.in-Err-Cause.ensures) in
    absurd (is_found old asked part h key c.in_ok-part.ensures cell c.in_ok-cell_key.ensures c.in-Err-Cause.none none)
