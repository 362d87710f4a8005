use Rattle.std.proofs.Common.{◌||◌, ap, ◌∙◌}
use Rattle.mq_ir.specs.Keys.{is_among}
use Rattle.mq_tables.specs.Exchanging.{keys_put}
use Rattle.mq_tables.proofs.GroupLemmas.{grown_like}
use Rattle.mq_tables.proofs.KeyOrderLemmas.{own_put}
use Rattle.mq_tables.proofs.key_order.KeyOrder.join.Goals as goal

pub invariant_of-self-2 : goal.invariant_of-self-2
invariant_of-self-2 c =
    grown_like c.self.inside.sample c.take.result c.sample_of_puts-sample.result c.self.inside.keys c.args.keys c.join.new.self (keys_put c.args.schema.now c.args.puts.now)
    c.take.ensures.value c.self.invariant c.sample_of_puts-sample.ensures c.in_ok-join.ensures c.requires

pub returns : goal.returns
returns c q =
    own_put c.self.inside.keys c.args.keys c.join.new.self (keys_put c.args.schema.now c.args.puts.now) c.in_ok-join.ensures c.requires q
    ∙ ap (λ l. is_among (keys_put c.args.schema.now c.args.puts.now) q || is_among l q) c.self.view_is
