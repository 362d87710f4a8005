use Rattle.std.proofs.Common.{rules, slice_get}
use Rattle.std.specs.Ordering.{is_le}
use Rattle.std.proofs.lemmas.List.Sorted.{IsPartitionPoint-from_clause}
use Rattle.mq_dim_index.specs.Runs.{cmp_bound}
use Rattle.mq_dim_index.proofs.RunLemmas.{parted_up_to, told_above}
use Rattle.mq_dim_index.proofs.runs.keys_up_to.Goals as goal

pub returns-clause-behind : goal.returns-clause-behind
returns-clause-behind c =
    let keys = c.args.keys.now in
    let at = c.args.dimension in
    let w = c.args.bound.now in
    let n = c.partition_point.result in
    let point =
    IsPartitionPoint-from_clause (λ key. is_le (cmp_bound (slice_get key at) w)) keys n c.partition_point.ensures.partitioned (parted_up_to at keys c.requires w) (λ a r f k. search rules)
    in
    told_above at w keys n point.1
