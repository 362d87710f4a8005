use Rattle.std.proofs.Common.{◌≡◌, ◌∷◌, ◌++◌, [], ap, subst, sym, ◌∙◌}
use Rattle.std.specs.String.{string_bytes}
use Rattle.std.specs.Map.{values_of}
use Rattle.mq_ir.specs.NamedItems.{HaveTheirNames, has_name}
use Rattle.mq_ir.proofs.NameLemmas.{items_put, names_put}
use Rattle.mq_ir.proofs.by_name.ByName.put.Goals as goal

pub invariant_of-self-2 : goal.invariant_of-self-2
invariant_of-self-2 g c =
    let name_of = g.T.Called.name_of in
    let item = c.args.item in
    let called : string_bytes c.in_ok-name.name ≡ name_of item = c.in_ok-name.ensures.ok ∙ c.as_str.ensures ∙ c.name.ensures in
    let new = ap (λ items. has_name name_of items (name_of item)) c.self.view_is ∙ c.requires in
    subst (HaveTheirNames name_of) (sym c.in_ok-insert.ensures.entries)
    (names_put name_of c.self.inside.items c.self.invariant c.in_ok-name.name item called new)

pub returns-clause-ok : goal.returns-clause-ok
returns-clause-ok g c =
    let name_of = g.T.Called.name_of in
    let item = c.args.item in
    let called : string_bytes c.in_ok-name.name ≡ name_of item = c.in_ok-name.ensures.ok ∙ c.as_str.ensures ∙ c.name.ensures in
    let new = ap (λ items. has_name name_of items (name_of item)) c.self.view_is ∙ c.requires in
    ap values_of c.in_ok-insert.ensures.entries
    ∙ items_put name_of c.self.inside.items c.self.invariant c.in_ok-name.name item called new
    ∙ ap (λ items. items ++ item ∷ []) c.self.view_is
