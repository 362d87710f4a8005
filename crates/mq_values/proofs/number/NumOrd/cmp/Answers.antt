use Rattle.std.proofs.Common.{◌≡◌, FitsSigned, to_z, of_z, int_cmp, sym, ◌∙◌, rules}
use Rattle.std.proofs.lemmas.Int.{to_z-of_z}
use Rattle.std.specs.Int.{w128}
use Rattle.mq_values.specs.NumberOrder.{cmp_number_of_one_scale}
use Rattle.mq_values.proofs.number.NumOrd.cmp.Goals as goal

pub returns-then-self-other : goal.returns-then-self-other
returns-then-self-other c =
    let a : FitsSigned w128 c.get.result = search rules in
    let b : FitsSigned w128 c.get-then-self-other.result = search rules in
    let left : to_z w128 (of_z w128 c.get.result) ≡ c.self.inside.mant = to_z-of_z w128 c.get.result a ∙ c.get.ensures in
    let right : to_z w128 (of_z w128 c.get-then-self-other.result) ≡ c.other.inside.mant = to_z-of_z w128 c.get-then-self-other.result b ∙ c.get-then-self-other.ensures in
    rw (← c.self.view_is, ← c.other.view_is)
    (c.cmp.ensures ∙ (λ i. int_cmp (left i) (right i)) ∙ sym (cmp_number_of_one_scale c.self.inside.mant c.other.inside.mant c.self.inside.scale c.other.inside.scale c.if-self-other.true))
