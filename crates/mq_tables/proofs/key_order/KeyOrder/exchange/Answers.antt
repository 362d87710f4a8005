use Rattle.std.proofs.Common.{List, Option, subst}
use Rattle.std.specs.Prelude.{IfSome}
use Rattle.mq_ir.specs.Keys.{Tuple}
use Rattle.mq_tables.specs.Exchanging.{AddsBeside, keys_put}
use Rattle.mq_tables.proofs.key_order.KeyOrder.exchange.Goals as goal

pub join-requires : goal.join-requires
join-requires c =
    let told = subst (λ (o : Option (List Tuple)). IfSome o (λ keys. AddsBeside c.args.self.now c.args.old.now (keys_put c.args.schema.now c.args.puts.now) keys)) c.in-Some.is c.in_ok-keys.ensures in
    told.among

pub returns-clause-exchanged : goal.returns-clause-exchanged
returns-clause-exchanged c = λ _.
    let told = subst (λ (o : Option (List Tuple)). IfSome o (λ keys. AddsBeside c.args.self.now c.args.old.now (keys_put c.args.schema.now c.args.puts.now) keys)) c.in-Some.is c.in_ok-keys.ensures in
    let lost = c.lose.ensures.lost c.if-not-lose.false in
    record {
      left = c.lose.new.self;
      lost = lost;
      apart = told.apart c.lose.new.self lost;
      both = c.in_ok-join.ensures;
    }
