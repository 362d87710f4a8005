use Rattle.std.proofs.Common.{ap, ◌∙◌, ◌||◌, map}
use Rattle.mq_ir.specs.Changes.{row_key}
use Rattle.mq_ir.specs.Keys.{is_among}
use Rattle.mq_tables.proofs.GroupLemmas.{grown_like}
use Rattle.mq_tables.proofs.KeyOrderLemmas.{own_put}
use Rattle.mq_tables.proofs.key_order.KeyOrder.grow.Goals as goal

pub returns : goal.returns
returns c =
    let keys = map (row_key c.args.schema.now) c.args.rows.now in (
      c.in_ok-keys.ensures.0,
      λ q.
          own_put c.self.inside.keys c.in_ok-keys.keys c.join.new.self keys c.in_ok-join.ensures c.in_ok-keys.ensures.1 q
          ∙ ap (λ l. is_among keys q || is_among l q) c.self.view_is,
    )

pub invariant_of-self-2 : goal.invariant_of-self-2
invariant_of-self-2 c =
    let keys = map (row_key c.args.schema.now) c.args.rows.now in
    grown_like c.self.inside.sample c.take.result c.sample_of_all-sample.result c.self.inside.keys c.in_ok-keys.keys c.join.new.self keys c.take.ensures.value c.self.invariant
    c.sample_of_all-sample.ensures c.in_ok-join.ensures c.in_ok-keys.ensures.1
