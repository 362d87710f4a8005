use Rattle.std.proofs.Common.{◌≡◌, sym, ap, ◌∙◌}
use Rattle.mq_generate.specs.Draws.{draw_of, next_of}
use Rattle.mq_generate.specs.declared.script.TheConstants.{AMOUNTS, YEARS}
use Rattle.mq_generate.proofs.ScriptLemmas.{state_after-change}
use Rattle.mq_generate.proofs.script.push_update.Goals as goal

pub returns-clause-ok : goal.returns-clause-ok
returns-clause-ok c =
    let year : c.draw-year.result ≡ draw_of YEARS (next_of c.args.draws.now) = c.draw-year.ensures.drawn ∙ ap (draw_of YEARS) c.draw-product.ensures.next in
    let amount : c.draw-amount.result ≡ draw_of AMOUNTS (next_of (next_of c.args.draws.now))
    = c.draw-amount.ensures.drawn ∙ ap (draw_of AMOUNTS) (c.draw-year.ensures.next ∙ ap next_of c.draw-product.ensures.next) in
    rw (← amount, ← year, ← c.draw-product.ensures.drawn) c.push_pieces.ensures.ok

pub returns-clause-state : goal.returns-clause-state
returns-clause-state c =
    c.draw-amount.ensures.next ∙ ap next_of (c.draw-year.ensures.next ∙ ap next_of c.draw-product.ensures.next) ∙ sym (state_after-change c.args.draws.now)
