use Rattle.std.proofs.Common.{ap, subst, sym, ◌∙◌}
use Rattle.std.specs.Map.{lookup, values_of}
use Rattle.mq_ir.specs.NamedItems.{HaveTheirNames, others}
use Rattle.mq_ir.proofs.NameLemmas.{goes_by, names_left, removed}
use Rattle.mq_ir.proofs.by_name.ByName.remove.Goals as goal

pub invariant_of-self : goal.invariant_of-self
invariant_of-self g c =
    let name_of = g.T.Called.name_of in
    subst (HaveTheirNames name_of) (sym c.shift_remove.ensures.entries)
    (names_left name_of c.args.name.now c.self.inside.items.entries c.self.invariant)

pub returns : goal.returns
returns g c =
    let name_of = g.T.Called.name_of in
    let name = c.args.name.now in
    let less = c.shift_remove.ensures.entries in
    let none = ap (lookup (goes_by name)) (sym less) ∙ c.shift_remove.ensures.updates.1 in
    ap values_of less
    ∙ removed name_of name c.self.inside.items.entries c.self.invariant none
    ∙ ap (λ items. others name_of items name) c.self.view_is
