use Rattle.std.proofs.Common.{List, [], ◌∷◌, ◌++◌, sym, ap, ◌∙◌}
use Rattle.mq_ir.specs.Keys.{Tuple}
use Rattle.mq_delta_items.specs.Lines.{items_in}
use Rattle.mq_delta_items.proofs.LineLemmas.{items_next}
use Rattle.mq_delta_items.proofs.lines.items_among.Goals as goal

pub lines-preserved : goal.lines-preserved
lines-preserved c =
    let line = c.line-item.result in
    c.in_ok-put_item.ensures
    ∙ ap (λ (l : List Tuple). l ++ items_in (line ∷ [])) c.lines.invariant
    ∙ sym (items_next c.args.lines.now c.lines.line-index line c.lines-test.true c.line-item.is)
