use Rattle.std.proofs.Common.{ap, ◌∙◌}
use Rattle.mq_ir.specs.NamedItems.{item_of}
use Rattle.mq_ir.proofs.NameLemmas.{found}
use Rattle.mq_ir.proofs.by_name.ByName.get.Goals as goal

pub returns : goal.returns
returns g c =
    let name_of = g.T.Called.name_of in
    c.get.ensures.value
    ∙ found name_of c.args.name.now c.self.inside.items.entries c.self.invariant
    ∙ ap (λ items. item_of name_of items c.args.name.now) c.self.view_is
