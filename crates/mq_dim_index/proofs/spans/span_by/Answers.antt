use Rattle.std.proofs.Common.{rules, ◌≡◌, ◌≢◌, true, false, slice_get, sym, ◌∙◌, arith}
use Rattle.std.specs.Ordering.{is_le, is_lt}
use Rattle.std.proofs.lemmas.List.Sorted.{IsPartitionPoint-from_clause}
use Rattle.mq_values.specs.Aggregate.{is_value}
use Rattle.mq_values.specs.declared.operators.CmpOp.TheVariants.{Ne}
use Rattle.mq_values.specs.declared.operators.DimTest.TheVariants.{Cmp}
use Rattle.mq_dim_index.specs.Runs.{value_meets}
use Rattle.mq_dim_index.specs.Spans.{stand_by}
use Rattle.mq_dim_index.proofs.SpanLemmas.{by_meets, by_rises, no_null, parted_before, parted_up_to, row_found}
use Rattle.mq_dim_index.proofs.spans.span_by.Goals as goal

pub returns : goal.returns
returns c =
    let keys = c.args.keys.now in
    let d = c.args.dimension in
    let op = c.args.op in
    let w = c.args.w.now in
    let n : op ≢ Ne = search rules in
    let there : is_value w ≡ true = no_null w (λ e. let h : true ≡ false = sym (c.is_null.ensures.1 e) ∙ c.if-is_null.false in cc) in
    let f = stand_by op w in
    let rises = by_rises op n w there in
    let start = c.partition_point-start.result in
    let end = c.partition_point-end.result in
    let before =
    IsPartitionPoint-from_clause (λ key. is_lt (f (slice_get key d))) keys start c.partition_point-start.ensures.partitioned (parted_before d keys c.requires.ascending f rises) (λ a r f k. search rules)
    in
    let up_to =
    IsPartitionPoint-from_clause (λ key. is_le (f (slice_get key d))) keys end c.partition_point-end.ensures.partitioned (parted_up_to d keys c.requires.ascending f rises) (λ a r f k. search rules)
    in
    row_found d keys c.requires.ascending f rises c.requires.valued (value_meets (Cmp op w)) (by_meets op n w there) start _ end (omega arith) (omega arith) (λ k low l. omega arith)
    c.partition_point-end.ensures.bound c.partition_point-start.ensures.bound before up_to
