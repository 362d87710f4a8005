use Rattle.std.proofs.Common.{sym, subst}
use Rattle.mq_dim_index.specs.Runs.{AscendIn}
use Rattle.mq_dim_index.proofs.RunLemmas.{ascend_from}
use Rattle.mq_dim_index.proofs.dimension_map.DimensionMap.next_run.Goals as goal

pub next_run-requires : goal.next_run-requires
next_run-requires c = subst (AscendIn c.self.inside.dimension) (sym c.as_slice.ensures.value) (ascend_from c.self.inside.dimension c.self.inside.keys.items c.self.invariant)
