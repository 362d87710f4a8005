use Rattle.std.proofs.Common.{ap, ◌∙◌}
use Rattle.mq_ir.specs.NamedItems.{has_name}
use Rattle.mq_ir.proofs.NameLemmas.{there}
use Rattle.mq_ir.proofs.by_name.ByName.has.Goals as goal

pub returns : goal.returns
returns g c =
    let name_of = g.T.Called.name_of in
    c.contains_key.ensures
    ∙ there name_of c.args.name.now c.self.inside.items.entries c.self.invariant
    ∙ ap (λ items. has_name name_of items c.args.name.now) c.self.view_is
