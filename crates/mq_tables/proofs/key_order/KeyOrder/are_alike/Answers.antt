use Rattle.std.proofs.Common.{List, Option, subst}
use Rattle.std.specs.Prelude.{IfSome}
use Rattle.mq_ir.specs.Keys.{Tuple}
use Rattle.mq_tables.specs.Groups.{AreLike}
use Rattle.mq_tables.proofs.key_order.KeyOrder.are_alike.Goals as goal

pub returns-in-Some : goal.returns-in-Some
returns-in-Some c = λ _. record {
  sample = c.in-Some.field-0;
  like = subst (λ (keys : List Tuple). AreLike c.in-Some.field-0 keys) c.self.view_is
      (subst (λ (o : Option Tuple). IfSome o (λ s. AreLike s c.self.inside.keys)) c.in-Some.is c.self.invariant);
}
