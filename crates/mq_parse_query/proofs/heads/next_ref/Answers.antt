use Rattle.std.proofs.Common.{arith}
use Rattle.mq_ast.specs.declared.clauses.TheConstants as clause
use Rattle.mq_ast.specs.Prelude.{ManyOf, Past, RefE}
use Rattle.mq_parse_words.specs.StepLemmas.{here, there}
use Rattle.mq_parse_query.proofs.ModelLemmas.{refs_no_ref, refs_no_end}
use Rattle.mq_parse_query.proofs.ListLemmas.{quit_turn}
use Rattle.mq_parse_query.proofs.heads.next_ref.Goals as goal

pub returns-in_err-found-in-Some : goal.returns-in_err-found-in-Some
returns-in_err-found-in-Some c =
    quit_turn RefE (Past clause.OPTION) c.args.t.now c.args.at c.from_residual.result c.in_err-found-in-Some.field-0.0 c.from_residual.ensures.1 c.in_err-found-in-Some.ensures (λ h. here (ManyOf RefE) (Past clause.REFERENCE) c.in-Some.ensures.2 (refs_no_ref h))

pub returns-in_ok-found-in-Some : goal.returns-in_ok-found-in-Some
returns-in_ok-found-in-Some c =
    let s = c.in-Some.ensures in
    let f = c.in_ok-found-in-Some.ensures in
    (omega (arith, s.0, f.0), f.1, there RefE s.2 f.2, f.3)

pub returns-in_err-past-in-None : goal.returns-in_err-past-in-None
returns-in_err-past-in-None c =
    quit_turn RefE (Past clause.OPTION) c.args.t.now c.args.at c.from_residual-in_err-past-in-None.result c.in_err-past-in-None.field-0.0 c.from_residual-in_err-past-in-None.ensures.1 c.in_err-past-in-None.ensures (refs_no_end c.in-None.ensures)
