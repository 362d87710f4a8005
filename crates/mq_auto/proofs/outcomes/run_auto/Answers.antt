use Rattle.std.proofs.Common.{sym, ap, ◌∙◌}
use Rattle.std.specs.Map.{keys_of}
use Rattle.mq_ir.specs.Partitions.{Cells}
use Rattle.mq_ir.specs.Shape.{bare_shape}
use Rattle.mq_ir.specs.Unfolding.{model_of}
use Rattle.mq_auto.proofs.JudgeLemmas.{automatic_broken, automatic_done}
use Rattle.mq_auto.proofs.outcomes.run_auto.Goals as goal

pub returns-in-Done : goal.returns-in-Done
returns-in-Done c =
    let p = c.args.p.now in
    let held = rw c.in-Done.is at c.in_ok-verdict.ensures.values in
    record {
      exact =
          automatic_done (model_of c.args.m.now) p c.in-Done.shape c.in_ok-result-in-Done.result (sym c.in-Done.is ∙ c.in_ok-verdict.ensures.verdict)
          (c.in_ok-result-in-Done.ensures.automatic p.cells held);
    }

pub returns : goal.returns
returns c =
    let p = c.args.p.now in
    record {
      exact =
          automatic_broken (model_of c.args.m.now) p c.in-Broken.fault c.in_ok-shape-in-Broken.shape (sym c.in-Broken.is ∙ c.in_ok-verdict.ensures.verdict)
          (c.in_ok-shape-in-Broken.ensures ∙ ap (λ (cells : Cells). bare_shape (keys_of cells)) c.as_slice.ensures);
    }
