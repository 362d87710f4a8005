use Rattle.std.proofs.Common.{ap, ◌∙◌}
use Rattle.mq_ir.specs.NamedItems.{has_name}
use Rattle.mq_ir.specs.Names.{is_view}
use Rattle.mq_ir.specs.declared.catalog.View.{View}
use Rattle.mq_ir.specs.Statement.{State}
use Rattle.mq_engine.specs.Catalogs.{catalog_of}
use Rattle.mq_engine.specs.KeptViews.{IsStandingOf}
use Rattle.mq_engine.proofs.KeptLemmas.{right_put_or_not}
use Rattle.mq_engine.proofs.StateLemmas.{ready_put_or_not}
use Rattle.mq_engine.proofs.engine.Engine.create_view.Goals as goal

pub put-requires : goal.put-requires
put-requires g c =
    let views = c.self.inside.catalog.views in
    ap (has_name (λ (view : View). view.name) views) c.in_ok-own_name.ensures
    ∙ ap (λ (s : State). is_view (catalog_of s) c.args.name.now) c.self.view_is ∙ c.requires.named

pub invariant_of-self : goal.invariant_of-self
invariant_of-self g c =
    let views = c.self.inside.catalog.views in
    let v : View = record { name = c.in_ok-own_name.own_name; query = c.args.q } in (
      c.self.invariant.0,
      ready_put_or_not c.put.result views c.put.new.self v c.put.ensures.ok c.put.ensures.err c.self.invariant.1 c.requires.ready,
      c.self.invariant.2,
      right_put_or_not (IsStandingOf c.self.inside.tables) c.args.name.now c.put.result views c.put.new.self v c.take.new.self.views.entries c.put.ensures.ok c.put.ensures.err
          c.in_ok-own_name.ensures c.take.ensures.gone (c.take.ensures.left c.self.inside.tables views c.self.invariant.3),
    )
