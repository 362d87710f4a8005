use Rattle.std.proofs.Common.{◌∷◌, Ok, Err, refl, ap}
use Rattle.mq_lexer.specs.declared.keywords.Keyword.TheVariants as word
use Rattle.mq_ast.specs.Prelude.{StmtE, Word}
use Rattle.mq_parse_stmt.proofs.PieceLemmas.{measured}
use Rattle.mq_parse_stmt.proofs.LastLemmas.{read_all, last_spot}
use Rattle.mq_parse_stmt.proofs.WholeLemmas.{leave, tree_at}
use Rattle.mq_parse_stmt.proofs.StmtLemmas.{explain_no_measure, explain_no_spot, explain_read}
use Rattle.mq_parse_stmt.proofs.explain.read_explain.Goals as goal

pub returns-in_err-measure : goal.returns-in_err-measure
returns-in_err-measure c =
    leave StmtE c.from_residual.result c.in_err-measure.field-0.0 c.from_residual.ensures.1 refl c.in_err-measure.ensures explain_no_measure

pub returns-in_err-spot : goal.returns-in_err-spot
returns-in_err-spot c =
    leave StmtE c.from_residual-in_err-spot.result c.in_err-spot.field-0.0 c.from_residual-in_err-spot.ensures.1 (ap (λ r. Word word.Explain ∷ r) (measured c.in_ok-measure.ensures.2)) (read_all last_spot c.args.t.now c.in_ok-measure.mid c.read_spot.result (Err c.in_err-spot.field-0.0) c.read_spot.ensures c.in_err-spot.ensures) explain_no_spot

pub returns : goal.returns
returns c =
    tree_at StmtE c.explained.ensures (ap (λ r. Word word.Explain ∷ r) (measured c.in_ok-measure.ensures.2)) (explain_read (read_all last_spot c.args.t.now c.in_ok-measure.mid c.read_spot.result (Ok c.in_ok-spot.spot) c.read_spot.ensures c.in_ok-spot.ensures))
