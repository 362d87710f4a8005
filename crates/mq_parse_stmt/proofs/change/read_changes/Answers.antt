use Rattle.mq_ast.specs.declared.levels.TheConstants as level
use Rattle.mq_ast.specs.Prelude.{Stops, WhereE}
use Rattle.mq_parse_words.specs.StepLemmas.{quit}
use Rattle.mq_parse_stmt.specs.Pieces.{Changes, changes}
use Rattle.mq_parse_stmt.proofs.PieceLemmas.{beside_gives, changes_no_sets, changes_no_where}
use Rattle.mq_parse_stmt.proofs.change.read_changes.Goals as goal

pub returns-in_err-sets : goal.returns-in_err-sets
returns-in_err-sets c =
    quit Changes c.args.t.now c.args.at c.from_residual.result c.in_err-sets.field-0.0 c.from_residual.ensures.1 c.in_err-sets.ensures changes_no_sets

pub returns : goal.returns
returns c =
    let l = c.in_ok-sets.ensures in
    rw c.beside.ensures (beside_gives Changes WhereE (Stops level.FILTERED) c.args.t.now c.args.at c.in_ok-sets.mid c.in_ok-sets.sets c.read_where.result l.0 (λ b to d. changes l.2 d) (λ h. changes_no_where l.2 l.3 h) c.read_where.ensures)
