use Rattle.std.proofs.Common.{rules, slice_get, arith}
use Rattle.std.specs.Ordering.{is_le, is_lt}
use Rattle.std.proofs.lemmas.List.Sorted.{IsPartitionPoint-from_clause}
use Rattle.mq_values.specs.declared.operators.DimTest.TheVariants.{At}
use Rattle.mq_dim_index.specs.Runs.{value_meets}
use Rattle.mq_dim_index.specs.Spans.{stand_at}
use Rattle.mq_dim_index.proofs.SpanLemmas.{at_meets, at_rises, parted_before, parted_up_to, row_found}
use Rattle.mq_dim_index.proofs.spans.span_at.Goals as goal

pub returns : goal.returns
returns c =
    let keys = c.args.keys.now in
    let d = c.args.dimension in
    let w = c.args.w.now in
    let f = stand_at w in
    let rises = at_rises w in
    let start = c.partition_point-start.result in
    let end = c.partition_point-end.result in
    let before =
    IsPartitionPoint-from_clause (λ key. is_lt (f (slice_get key d))) keys start c.partition_point-start.ensures.partitioned (parted_before d keys c.requires.ascending f rises) (λ a r f k. search rules)
    in
    let up_to =
    IsPartitionPoint-from_clause (λ key. is_le (f (slice_get key d))) keys end c.partition_point-end.ensures.partitioned (parted_up_to d keys c.requires.ascending f rises) (λ a r f k. search rules)
    in
    row_found d keys c.requires.ascending f rises c.requires.valued (value_meets (At w)) (at_meets w) start _ end (omega arith) (omega arith) (λ k low l. omega arith)
    c.partition_point-end.ensures.bound c.partition_point-start.ensures.bound before up_to
