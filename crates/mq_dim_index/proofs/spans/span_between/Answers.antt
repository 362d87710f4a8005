use Rattle.std.proofs.Common.{slice_get}
use Rattle.mq_values.specs.declared.operators.CmpOp.TheVariants.{Ge, Le}
use Rattle.mq_values.specs.declared.operators.DimTest.TheVariants.{Cmp}
use Rattle.mq_dim_index.specs.Runs.{value_meets}
use Rattle.mq_dim_index.proofs.spans.span_between.Goals as goal

pub returns : goal.returns
returns c =
    let d = c.args.dimension in
    c.common.ensures (λ key. value_meets (Cmp Ge c.args.low.now) (slice_get key d)) (λ key. value_meets (Cmp Le c.args.high.now) (slice_get key d)) c.args.keys.now c.in-Some.ensures c.in-Some-span_by.ensures
