use Rattle.std.proofs.Common.{arith, sym, subst, ◌≤◌, length}
use Rattle.std.specs.Prelude.{IfSome}
use Rattle.mq_lexer.proofs.QuoteLemmas.{closing_within, closing_step, closing_stops}
use Rattle.mq_lexer.proofs.pieces.closing.Goals as goal
use Rattle.mq_lexer.proofs.pieces.closing.Goals.{else-behind_quote-via-then-behind_quote+else-not-is_quote, else-behind_quote-via-else-behind_quote, then-behind_quote-2, else-behind_quote-2, then-is_quote, else-is_quote}

pub loop-at-preserved : goal.loop-at-preserved
loop-at-preserved c =
    closing_step c.args.z.now c.loop-at.at c.loop-at.behind_quote _ c.loop-at.found _ _ (omega arith)
    (λ e. elim c.else-behind_quote.branch [ else-behind_quote-via-then-behind_quote+else-not-is_quote w ↦ grind arith | else-behind_quote-via-else-behind_quote w ↦ absurd (cc) ])
    (elim c.if-behind_quote-2.branch [ then-behind_quote-2 w ↦ grind arith | else-behind_quote-2 w ↦ grind arith ])
    (elim c.if-is_quote.branch [ then-is_quote w ↦ grind arith | else-is_quote w ↦ grind arith ])
    c.loop-at.invariant

pub returns-else-behind_quote-3-clause-within : goal.returns-else-behind_quote-3-clause-within
returns-else-behind_quote-3-clause-within c =
    let stops = closing_stops c.args.z.now c.loop-at.at c.loop-at.behind_quote c.loop-at.found _ (omega arith) c.if-behind_quote-3.false c.loop-at.invariant in
    subst (λ o. IfSome o (λ n. (1 ≤ n) × (n ≤ length c.args.z.now))) (sym stops) (closing_within c.args.z.now)
