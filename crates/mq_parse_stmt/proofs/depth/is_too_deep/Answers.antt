use Rattle.std.proofs.Common.{◌+◌, refl, arith}
use Rattle.mq_ast.specs.Prelude.{tok_of}
use Rattle.mq_parse_words.specs.Reading.{from}
use Rattle.mq_parse_stmt.proofs.DepthLemmas.{levels_next, levels_over, levels_all}
use Rattle.mq_parse_stmt.proofs.depth.is_too_deep.Goals.{else-opened-gt-MAX_DEPTH-via-then-opened-gt-MAX_DEPTH+else-opened-closed, else-opened-gt-MAX_DEPTH-via-else-opened-gt-MAX_DEPTH}
use Rattle.mq_parse_stmt.proofs.depth.is_too_deep.Goals as goal

pub returns-then-opened-closed : goal.returns-then-opened-closed
returns-then-opened-closed c =
    (λ e. levels_over c.args.t.now c.levels.at c.levels.opened c.levels.closed c.levels.invariant (tok_of c.in-Some.token) (from c.args.t.now (c.levels.at + 1)) c.in-Some.ensures.0 c.in-Some.ensures.1 c.terminal_of-terminal.result c.terminal_of-terminal.ensures c.opens_or_closes-opening.result.0 c.opens_or_closes-opening.result.1 c.opens_or_closes-opening.ensures.opens c.opens_or_closes-opening.ensures.closes (let x = c.if-opened-gt-MAX_DEPTH.true in let y = c.if-opened-closed.true in omega (arith, x, y)), λ d. refl)

pub levels-preserved : goal.levels-preserved
levels-preserved c =
    levels_next c.args.t.now c.levels.at c.levels.opened c.levels.closed c.levels.invariant (tok_of c.in-Some.token) (from c.args.t.now (c.levels.at + 1)) c.in-Some.ensures.0 c.in-Some.ensures.1 c.terminal_of-terminal.result c.terminal_of-terminal.ensures c.opens_or_closes-opening.result.0 c.opens_or_closes-opening.result.1 c.opens_or_closes-opening.ensures.opens c.opens_or_closes-opening.ensures.closes (λ v. elim c.else-opened-gt-MAX_DEPTH.branch [ else-opened-gt-MAX_DEPTH-via-then-opened-gt-MAX_DEPTH+else-opened-closed w ↦ let x = w.if-opened-gt-MAX_DEPTH in let y = w.if-opened-closed in omega (arith, v, x, y) | else-opened-gt-MAX_DEPTH-via-else-opened-gt-MAX_DEPTH w ↦ let x = w.if-opened-gt-MAX_DEPTH in omega (arith, v, x) ])

pub returns : goal.returns
returns c =
    (λ e. absurd cc, λ d. absurd (levels_all c.args.t.now c.levels.at c.levels.opened c.levels.closed c.levels.invariant c.in_default.ensures d))
