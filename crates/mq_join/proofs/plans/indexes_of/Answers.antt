use Rattle.std.proofs.Common.{◌∙◌, ◌+◌, ◌<◌, ap, arith, length}
use Rattle.std.proofs.lemmas.List.{length_push}
use Rattle.mq_join.proofs.PassingLemmas.{serve_next}
use Rattle.mq_join.proofs.plans.indexes_of.Goals as goal

pub items-preserved : goal.items-preserved
items-preserved c =
    let items = c.args.items.now in
    let indexes = c.items.indexes.items in
    let index = c.in_ok-index_at.field-0 in
    let level = c.items.level in
    let within : level < length items = omega arith in
    record {
      long = ap length c.in_ok-push.ensures.items ∙ length_push indexes index ∙ ap (λ n. n + 1) c.items.invariant.long;
      serve =
          serve_next c.args.deciders.now items indexes c.push.new.self.items index level c.index-items-level.result c.items.invariant.long within c.index-items-level.is c.in_ok-push.ensures.items
          c.in_ok-index_at.ensures c.items.invariant.serve;
    }
