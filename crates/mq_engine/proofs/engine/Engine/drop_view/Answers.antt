use Rattle.std.proofs.Common.{not}
use Rattle.mq_ir.specs.declared.catalog.View.{View}
use Rattle.mq_ir.specs.Tables.{is_name}
use Rattle.mq_engine.specs.KeptViews.{IsStandingOf}
use Rattle.mq_engine.proofs.KeptLemmas.{right_without}
use Rattle.mq_engine.proofs.StateLemmas.{ready_kept}
use Rattle.mq_engine.proofs.engine.Engine.drop_view.Goals as goal

pub invariant_of-self : goal.invariant_of-self
invariant_of-self c = (
  c.self.invariant.0,
  ready_kept (λ (v : View). not (is_name c.args.name.now v.name)) c.self.inside.catalog.views c.remove.new.self c.remove.ensures c.self.invariant.1,
  c.self.invariant.2,
  right_without (IsStandingOf c.self.inside.tables) c.args.name.now c.self.inside.catalog.views c.remove.new.self c.take.new.self.views.entries c.remove.ensures c.take.ensures.gone
      (c.take.ensures.left c.self.inside.tables c.self.inside.catalog.views c.self.invariant.3),
)
