use Rattle.std.proofs.Common.{rules}
use Rattle.std.proofs.lemmas.List.Sorted.{IsPartitionPoint-from_clause}
use Rattle.mq_delta_parts.specs.Groups.{has_key}
use Rattle.mq_delta_parts.proofs.GroupLemmas.{is_parted, parted}
use Rattle.mq_delta_parts.proofs.groups.run_length.Goals as goal

pub returns : goal.returns
returns c =
    let parts = c.args.parts in
    let key = c.args.key.now in
    let changes = c.args.changes.now in
    let n = c.partition_point.result in
    let point = IsPartitionPoint-from_clause (has_key parts key) changes n c.partition_point.ensures.partitioned (is_parted parts key changes c.requires.least c.requires.rising) (λ a r f k. search rules) in
    let cut = parted (has_key parts key) n changes point in
    record { within = c.partition_point.ensures.bound; run = cut.0; others = cut.1 }
