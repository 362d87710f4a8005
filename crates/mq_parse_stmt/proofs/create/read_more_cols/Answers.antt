use Rattle.mq_ast.specs.declared.levels.TheConstants as level
use Rattle.mq_ast.specs.Prelude.{ColE, EndsCols, MoreOf, Stops, comma, more_comma, more_end}
use Rattle.mq_parse_words.specs.StepLemmas.{quit, one_more, cut_short, all_found}
use Rattle.mq_parse_stmt.proofs.PieceLemmas.{cols_no_next, cols_no_more}
use Rattle.mq_parse_stmt.proofs.create.read_more_cols.Goals as goal

pub returns-in_err-col : goal.returns-in_err-col
returns-in_err-col c =
    quit (MoreOf ColE) c.args.t.now c.args.at c.from_residual.result c.in_err-col.field-0.0 c.from_residual.ensures.1 c.in_err-col.ensures (λ h. cut_short (MoreOf ColE) (Stops level.EXPRESSION) EndsCols c.args.t.now c.args.at c.loop-behind.to c.loop-behind.found c.loop-behind.invariant comma c.in-Some.behind c.in-Some.ensures.0 (cols_no_next c.in-Some.ensures.1 h))

pub loop-behind-preserved : goal.loop-behind-preserved
loop-behind-preserved c =
    let d = c.in_ok-col.ensures in
    one_more (MoreOf ColE) (Stops level.EXPRESSION) EndsCols c.args.t.now c.args.at c.loop-behind.to c.loop-behind.found c.loop-behind.invariant comma c.in-Some.behind c.in-Some.ensures.0 c.in_ok-col.col c.in_ok-col.next c.push.new.self (λ rest last ds. more_comma d.2 ds) (λ h. cols_no_more c.in-Some.ensures.1 d.2 d.3 h) d.3 d.0 d.1 c.in_ok-push.ensures.ok

pub returns : goal.returns
returns c =
    all_found (MoreOf ColE) (Stops level.EXPRESSION) EndsCols c.args.t.now c.args.at c.loop-behind.to c.loop-behind.found c.loop-behind.invariant more_end (c.loop-behind.invariant.stops, c.in_default.ensures)
