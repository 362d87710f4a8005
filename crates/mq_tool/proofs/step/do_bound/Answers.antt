use Rattle.std.proofs.Common.{◌≡◌, Some, refl, sym, subst, arith}
use Rattle.std.proofs.lemmas.Result.{err_from_is_err_and}
use Rattle.mq_ir.specs.declared.statement.Bound.{Bound}
use Rattle.mq_tool.specs.Loads.{FileMap}
use Rattle.mq_tool.specs.Statements.{taken}
use Rattle.mq_tool.specs.Steps.{Ends}
use Rattle.mq_tool.proofs.StepLemmas.{stopped_otherwise, stops}
use Rattle.mq_tool.proofs.step.do_bound.Goals as goal

pub returns-in_err-take-in_default : goal.returns-in_err-take-in_default
returns-in_err-take-in_default g c =
    let p = err_from_is_err_and c.from_residual.result c.from_residual.ensures.1 in
    let e = c.in_err-take-in_default.field-0.0 in
    rw (p.1, p.2) (record {
      done = λ told is. stops _ c.args.engine.now c.take.new.engine c.args.out.now.items c.take.new.out.items e (c.in_err-take-in_default.ensures told);
      files = refl;
      later = omega arith;
      load = λ h. stopped_otherwise e h;
      not_fetched = λ h. stopped_otherwise e h;
      failed = λ h. stopped_otherwise e h;
    })

pub returns-in-Load-clause-done : goal.returns-in-Load-clause-done
returns-in-Load-clause-done g c =
    let old = c.args.engine.now in
    let files = g.F.Shelf.files c.args.files.now in
    subst
    (λ (b : Bound). (told : FileMap) → files ≡ Some told → Ends (taken told old c.args.line b) old c.load.new.engine c.args.out.now.items c.load.new.out.items c.load.result)
    (sym c.in-Load.is) (λ told is. c.load.ensures.done told c.args.line is)
