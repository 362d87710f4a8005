use Rattle.std.proofs.Common.{◌≡◌, ◌<◌, Bool, false, length, List, Option, Some, map, arith, refl, sym, ap, ◌∙◌, subst}
use Rattle.std.proofs.lemmas.Bool.Decides.{nat_tests}
use Rattle.std.proofs.lemmas.Result.{err_from_is_err_and}
use Rattle.mq_lexer.specs.Lexemes.{lexeme}
use Rattle.mq_lexer.specs.Rests.{tokens_left}
use Rattle.mq_lexer.specs.Statements.{Statement, statement, statement_of, statements}
use Rattle.mq_lexer.specs.Tokens.{tokens}
use Rattle.mq_ir.specs.Statement.{State}
use Rattle.mq_tool.specs.Loads.{FileMap}
use Rattle.mq_tool.specs.Script.{StoppedAtLoad}
use Rattle.mq_tool.proofs.RunLemmas.{RunSoFar, next_is, none_left, run_cut, run_ends, run_goes_on, run_halts, run_starts, run_stops}
use Rattle.mq_tool.proofs.scripts.run_text.Goals as goal

pub loop-rest-init : goal.loop-rest-init
loop-rest-init g c =
    let before = g.K.Sink.taken c.args.out.now in
    let all = statements (tokens c.args.text.now) in (
      λ files told. subst (λ (ss : List Statement). RunSoFar files before before c.new-engine.result false all ss) (sym (ap statements c.of-rest.ensures.tokens))
          (subst (λ (s : State). RunSoFar files before before s false all all) (sym c.new-engine.ensures) (run_starts files before all)),
      refl,
      omega arith,
      omega arith,
      c.of-rest.ensures.utf8,
    )

pub returns-in_default-clause-cut_short : goal.returns-in_default-clause-cut_short
returns-in_default-clause-cut_short g c =
    λ files told. run_halts files _ _ c.loop-rest.engine c.loop-rest.flaw (statements (tokens c.args.text.now)) _ (c.loop-rest.invariant.0 files told)

pub returns-in_err-found-clause-cut_short : goal.returns-in_err-found-clause-cut_short
returns-in_err-found-clause-cut_short g c =
    let next = next_is _ _ _ c.as_statement.result c.in-Some.statement c.in-Ok.ensures.part
    (c.as_statement.ensures ∙ ap (λ ts. statement_of (map lexeme ts)) c.deref.ensures.value) c.in-Some.is in
    let p = err_from_is_err_and c.from_residual.result c.from_residual.ensures.1 in
    rw p.1 (λ (files : FileMap) told. run_cut files _ _ _ c.loop-rest.engine c.loop-rest.flaw (statements (tokens c.args.text.now)) _ _ _ _
    (c.loop-rest.invariant.1 ∙ told) next (c.loop-rest.invariant.0 files told) c.in_err-found.ensures.cut_short)

pub returns-in_err-found-clause-stopped : goal.returns-in_err-found-clause-stopped
returns-in_err-found-clause-stopped g c =
    let next = next_is _ _ _ c.as_statement.result c.in-Some.statement c.in-Ok.ensures.part
    (c.as_statement.ensures ∙ ap (λ ts. statement_of (map lexeme ts)) c.deref.ensures.value) c.in-Some.is in
    let p = err_from_is_err_and c.from_residual.result c.from_residual.ensures.1 in
    rw (p.1, p.2) (λ failed (files : FileMap) told.
    let s = c.in_err-found.ensures.stopped failed in
    subst (λ out. StoppedAtLoad files (statements (tokens c.args.text.now)) (g.K.Sink.taken c.args.out.now) (g.K.Sink.taken out)) (sym s.0)
    (run_stops files _ (g.K.Sink.taken c.loop-rest.out) c.loop-rest.engine c.loop-rest.flaw (statements (tokens c.args.text.now)) _ _ _
    next (c.loop-rest.invariant.0 files told) s.1))

pub loop-rest-preserved-in-Some : goal.loop-rest-preserved-in-Some
loop-rest-preserved-in-Some g c =
    let next = next_is _ _ _ c.as_statement.result c.in-Some.statement c.in-Ok.ensures.part
    (c.as_statement.ensures ∙ ap (λ ts. statement_of (map lexeme ts)) c.deref.ensures.value) c.in-Some.is in
    let all = statements (tokens c.args.text.now) in
    let P : Bool → Type 0 = λ flaw. (files : FileMap) → g.F.Shelf.files c.args.files.now ≡ Some files
    → RunSoFar files (g.K.Sink.taken c.args.out.now) (g.K.Sink.taken c.run_statement.new.out) c.run_statement.new.engine flaw all (statements (tokens_left c.in-Ok.left)) in (
      subst P (sym c.either-flaw.ensures)
          (λ files told. run_goes_on files _ _ _ c.loop-rest.engine c.run_statement.new.engine c.loop-rest.flaw c.in_ok-found.found all _ _ _ _
          (c.loop-rest.invariant.1 ∙ told) next (c.loop-rest.invariant.0 files told) c.in_ok-found.ensures.done),
      c.run_statement.ensures.files ∙ c.loop-rest.invariant.1,
      omega (arith, c.loop-rest.invariant.2, c.run_statement.ensures.later_files),
      omega (arith, c.loop-rest.invariant.3, c.run_statement.ensures.later),
      c.in-Ok.ensures.utf8,
    )

pub returns-clause-done : goal.returns-clause-done
returns-clause-done g c =
    let empty : length c.loop-rest.rest.text.now ≡ 0 = grind (arith, nat_tests) in
    λ files told. run_ends files (g.K.Sink.taken c.args.out.now) (g.K.Sink.taken c.loop-rest.out) c.loop-rest.engine c.loop-rest.flaw (statements (tokens c.args.text.now))
    (subst (RunSoFar files (g.K.Sink.taken c.args.out.now) (g.K.Sink.taken c.loop-rest.out) c.loop-rest.engine c.loop-rest.flaw (statements (tokens c.args.text.now)))
    (none_left c.loop-rest.rest empty) (c.loop-rest.invariant.0 files told))
