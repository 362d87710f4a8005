use Rattle.std.proofs.Common.{true≢false, sym, ◌∙◌}
use Rattle.std.proofs.lemmas.Result.{IfOk-weaker}
use Rattle.mq_cells.proofs.GatherLemmas.{cells_ascend, none_ascend}
use Rattle.mq_cells.proofs.gather.gather.Goals as goal

pub new-requires : goal.new-requires
new-requires c = none_ascend

pub returns-in_ok-new-clause-keys : goal.returns-in_ok-new-clause-keys
returns-in_ok-new-clause-keys c =
    IfOk-weaker c.fill.result _ _ (λ g e s. absurd (true≢false (sym (c.cells_ascend.ensures.1 (cells_ascend c.args.input.now s)) ∙ c.if-cells_ascend.false))) c.fill.ensures.input
