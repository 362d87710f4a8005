use Rattle.std.proofs.Common.{ap, ◌∙◌}
use Rattle.mq_tables.specs.Pending.{with_pending}
use Rattle.mq_overlay.proofs.HeldLemmas.{nothing_held}
use Rattle.mq_overlay.proofs.changed_tables.Overlay.new.Goals as goal

pub returns : goal.returns
returns c = ap (with_pending c.args.tables.now) c.new.ensures ∙ nothing_held c.args.tables.now
