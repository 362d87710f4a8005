use Rattle.std.proofs.Common.{take}
use Rattle.std.specs.List.{list_all, slice_get}
use Rattle.mq_dim_index.specs.Runs.{value_meets}
use Rattle.mq_dim_index.specs.Spans.{IsSpan}
use Rattle.mq_dim_index.proofs.spans.+spanning.Given as goal

-- the row of the keys that meet the tests so far
abbrev pub invariant-span_among-loop-test : goal.invariant-span_among-loop-test
invariant-span_among-loop-test l =
    IsSpan (λ key. list_all (λ test. value_meets test (slice_get key l.dimension)) (take l.test-index l.tests)) l.keys l.all.start l.all.end
