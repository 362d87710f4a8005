use Rattle.std.proofs.Common.{◌≡◌, Some, subst}
use Rattle.std.specs.List.{All, find}
use Rattle.mq_ir.specs.Shape.{assigns}
use Rattle.mq_auto_shape.proofs.NodeLemmas.{all_own}
use Rattle.mq_auto_shape.proofs.nodes.NodeList.into_items.Goals as goal

pub returns-clause-own : goal.returns-clause-own
returns-clause-own c = subst (λ l. All (λ a. find (assigns a.1 a.0) l ≡ Some a) l) c.self.view_is (all_own c.self.inside.nodes.items c.self.invariant)
