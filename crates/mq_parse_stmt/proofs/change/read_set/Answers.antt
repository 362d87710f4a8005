use Rattle.std.proofs.Common.{◌∷◌, ap, ◌∙◌, arith}
use Rattle.mq_ast.specs.declared.levels.TheConstants as level
use Rattle.mq_ast.specs.Prelude.{Expr, Name, SetE, Stops, set}
use Rattle.mq_parse_words.specs.StepLemmas.{quit, here, there}
use Rattle.mq_parse_words.specs.NameLemmas.{named}
use Rattle.mq_parse_stmt.proofs.PieceLemmas.{beside_gives, set_no_name, set_no_equal, set_no_value}
use Rattle.mq_parse_stmt.proofs.change.read_set.Goals as goal

pub returns-in_err-name : goal.returns-in_err-name
returns-in_err-name c =
    quit SetE c.args.t.now c.args.at c.from_residual.result c.in_err-name.field-0.0 c.from_residual.ensures.1 c.in_err-name.ensures set_no_name

pub returns-in_err-value : goal.returns-in_err-value
returns-in_err-value c =
    quit SetE c.args.t.now c.args.at c.from_residual-in_err-value.result c.in_err-value.field-0.0 c.from_residual-in_err-value.ensures.1 c.in_err-value.ensures (λ h. here SetE (Stops level.EXPRESSION) (named c.in_ok-name.ensures.2) (set_no_equal h))

pub returns : goal.returns
returns c =
    let n = c.in_ok-name.ensures in
    let v = c.in_ok-value.ensures in
    let p = named c.in_ok-name.ensures.2 ∙ ap (λ r. Name c.in_ok-name.name ∷ r) c.in_ok-value.ensures.2 in
    rw c.beside.ensures (beside_gives SetE Expr (Stops level.EXPRESSION) c.args.t.now c.args.at c.in_ok-value.value c.in_ok-name.name c.read_expr.result (omega (arith, n.0, v.0)) (λ b to d. there SetE p (set d)) (λ h. here SetE (Stops level.EXPRESSION) p (set_no_value h)) c.read_expr.ensures)
