use Rattle.std.proofs.Common.{sym, subst}
use Rattle.mq_dim_index.specs.Runs.{AscendIn}
use Rattle.mq_dim_index.proofs.RunLemmas.{ascend_from}
use Rattle.mq_dim_index.proofs.dimension_map.DimensionMap.count.Goals as goal

pub count_in_runs-requires : goal.count_in_runs-requires
count_in_runs-requires c = subst (AscendIn c.self.inside.dimension) (sym c.as_slice.ensures.value) (ascend_from c.self.inside.dimension c.self.inside.keys.items c.self.invariant)
