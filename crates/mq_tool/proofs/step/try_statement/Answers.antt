use Rattle.std.proofs.Common.{◌≡◌, Err, Ok, ap, subst}
use Rattle.std.proofs.lemmas.Result.{err_from_is_err_and}
use Rattle.mq_values.specs.Answers.{Gives}
use Rattle.mq_lexer.specs.Statements.{statement}
use Rattle.mq_ast.specs.declared.statements.Stmt.{Stmt}
use Rattle.mq_binder.specs.StatementWalk.{statement_bound}
use Rattle.mq_engine.specs.Catalogs.{catalog_of}
use Rattle.mq_tool.proofs.StepLemmas.{not_bound, not_read, tried}
use Rattle.mq_tool.proofs.step.try_statement.Goals as goal

pub returns-in_err-tree-clause-done : goal.returns-in_err-tree-clause-done
returns-in_err-tree-clause-done g c =
    let p = err_from_is_err_and c.from_residual.result c.from_residual.ensures.1 in
    rw (p.1, p.2) (not_read (statement c.args.statement.now) (g.F.Shelf.files c.args.files.now) c.args.engine.now c.args.out.now.items c.in_err-tree.field-0.0 c.in_err-tree.ensures)

pub returns-in_err-bound-clause-done : goal.returns-in_err-bound-clause-done
returns-in_err-bound-clause-done g c =
    let r = c.from_residual-in_err-bound in
    let p = err_from_is_err_and r.result r.ensures.1 in
    rw (p.1, p.2) (not_bound (statement c.args.statement.now) (g.F.Shelf.files c.args.files.now) c.args.engine.now c.args.out.now.items c.in_ok-tree.tree c.in_err-bound.field-0.0
    c.in_ok-tree.ensures
    (subst (λ (t : Stmt). Gives (Err c.in_err-bound.field-0.0) (statement_bound (catalog_of c.args.engine.now) t)) c.get.ensures c.in_err-bound.ensures.exact))

pub returns-clause-done : goal.returns-clause-done
returns-clause-done g c =
    tried (statement c.args.statement.now) (g.F.Shelf.files c.args.files.now) c.args.engine.now c.do_bound.new.engine c.args.out.now.items c.do_bound.new.out.items c.in_ok-tree.tree
    c.in_ok-bound.bound c.do_bound.result c.in_ok-tree.ensures
    (subst (λ (t : Stmt). statement_bound (catalog_of c.args.engine.now) t ≡ Ok c.in_ok-bound.bound) c.get.ensures c.in_ok-bound.ensures.exact) c.do_bound.ensures.done
    c.do_bound.ensures.load (λ h. let kept = c.do_bound.ensures.not_fetched h in (kept.0, ap (λ out. out.items) kept.1))
