use Rattle.std.proofs.Common.{ap, sym, subst, ◌∙◌, map}
use Rattle.std.specs.List.{All}
use Rattle.std.proofs.lemmas.List.Elements.{All-nil}
use Rattle.mq_ir.specs.declared.catalog.View.{View}
use Rattle.mq_ir.specs.Ready.{QueryIsReady}
use Rattle.mq_engine.specs.Catalogs.{entry_of_table}
use Rattle.mq_engine.specs.Scenarios.{IsBounded, MayStand}
use Rattle.mq_engine.proofs.engine.Engine.new.Goals as goal

pub invariant_of-result : goal.invariant_of-result
invariant_of-result c = (
  c.new-2.ensures ∙ ap (map entry_of_table) (sym c.new.ensures),
  subst (All (λ (v : View). QueryIsReady v.query)) (sym c.new-3.ensures) (All-nil (λ (v : View). QueryIsReady v.query)),
  subst MayStand (sym c.new-4.ensures) (record { own = tt; bounded = All-nil IsBounded }),
  c.new-5.ensures c.new.result c.new-3.result,
)
