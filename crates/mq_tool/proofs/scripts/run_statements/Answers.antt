use Rattle.std.proofs.Common.{◌≡◌, Bool, false, map, drop, ◌+◌, Some, refl, sym, ◌∙◌, subst, arith}
use Rattle.std.proofs.lemmas.Result.{err_from_is_err_and}
use Rattle.mq_lexer.specs.Statements.{statement}
use Rattle.mq_ir.specs.Statement.{State}
use Rattle.mq_tool.specs.Loads.{FileMap}
use Rattle.mq_tool.specs.Script.{StoppedAtLoad}
use Rattle.mq_tool.proofs.RunLemmas.{RunSoFar, drop_statement, run_starts, run_ends_at, run_goes_on, run_cut, run_stops}
use Rattle.mq_tool.proofs.scripts.run_statements.Goals as goal

pub returns-in_err-found-clause-cut_short : goal.returns-in_err-found-clause-cut_short
returns-in_err-found-clause-cut_short g c =
    let p = err_from_is_err_and c.from_residual.result c.from_residual.ensures.1 in
    rw p.1 (λ (files : FileMap) told. run_cut files _ _ _ c.statements.engine c.statements.flaw (map statement c.args.statements.now) _ _ _ _
    (c.statements.invariant.1 ∙ told) (drop_statement c.args.statements.now c.statements.statement-index _ c.statements-test.true)
    (c.statements.invariant.0 files told) c.in_err-found.ensures.cut_short)

pub returns-in_err-found-clause-stopped : goal.returns-in_err-found-clause-stopped
returns-in_err-found-clause-stopped g c =
    let p = err_from_is_err_and c.from_residual.result c.from_residual.ensures.1 in
    rw (p.1, p.2) (λ failed (files : FileMap) told.
    let s = c.in_err-found.ensures.stopped failed in
    subst (λ out. StoppedAtLoad files (map statement c.args.statements.now) (g.K.Sink.taken c.args.out.now) (g.K.Sink.taken out)) (sym s.0)
    (run_stops files _ (g.K.Sink.taken c.statements.out) c.statements.engine c.statements.flaw (map statement c.args.statements.now) _ _ _
    (drop_statement c.args.statements.now c.statements.statement-index _ c.statements-test.true) (c.statements.invariant.0 files told) s.1))

pub statements-preserved : goal.statements-preserved
statements-preserved g c =
    let all = c.args.statements.now in
    let i = c.statements.statement-index in
    let P : Bool → Type 0 = λ flaw. (files : FileMap) → g.F.Shelf.files c.args.files.now ≡ Some files
    → RunSoFar files (g.K.Sink.taken c.args.out.now) (g.K.Sink.taken c.run_statement.new.out)
    c.run_statement.new.engine flaw (map statement all) (drop (i + 1) (map statement all)) in (
      subst P (sym c.either-flaw.ensures)
          (λ files told. run_goes_on files _ _ _ c.statements.engine c.run_statement.new.engine c.statements.flaw c.in_ok-found.found (map statement all) _ _ _ _
          (c.statements.invariant.1 ∙ told) (drop_statement all i _ c.statements-test.true) (c.statements.invariant.0 files told) c.in_ok-found.ensures.done),
      c.run_statement.ensures.files ∙ c.statements.invariant.1,
      omega (arith, c.statements.invariant.2, c.run_statement.ensures.later_files),
      omega (arith, c.statements.invariant.3, c.run_statement.ensures.later),
    )

pub statements-init : goal.statements-init
statements-init g c =
    let before = g.K.Sink.taken c.args.out.now in
    let all = map statement c.args.statements.now in
    (λ files told. subst (λ (s : State). RunSoFar files before before s false all all) (sym c.new-engine.ensures) (run_starts files before all), refl, omega arith, omega arith)

pub returns-clause-done : goal.returns-clause-done
returns-clause-done g c =
    λ files told. run_ends_at files (g.K.Sink.taken c.args.out.now) (g.K.Sink.taken c.statements.out) c.statements.engine c.statements.flaw c.args.statements.now c.statements.statement-index
    c.statements-test.false (c.statements.invariant.0 files told)
