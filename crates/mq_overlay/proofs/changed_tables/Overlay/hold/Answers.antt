use Rattle.std.proofs.Common.{subst}
use Rattle.mq_values.specs.Answers.{Gives, result_map}
use Rattle.mq_ir.specs.Scenarios.{numbered_change}
use Rattle.mq_ir.specs.Tables.{Tables}
use Rattle.mq_tables.specs.Pending.{with_pending}
use Rattle.mq_overlay.proofs.StepLemmas.{step_gives}
use Rattle.mq_overlay.proofs.changed_tables.Overlay.hold.Goals as goal

pub returns : goal.returns
returns c =
    let tables = c.self.inside.tables.now in
    subst (λ (ts : Tables). Gives (result_map (λ _. with_pending tables c.hold-held.new.pending) c.numbered.result) (numbered_change (c.args.number, c.args.change.now) ts)) c.self.view_is
    (step_gives tables c.self.inside.pending c.args.change.now c.args.number c.hold-held.new.pending c.hold-held.result c.numbered.result c.numbered.ensures c.hold-held.ensures.exact)
