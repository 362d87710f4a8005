use Rattle.mq_ir.specs.SortLaws.{stable_is_ascending}
use Rattle.mq_ir.proofs.laws_of_sorting.stable_sorts_ascend.Goals as goal

pub returns : goal.returns
returns g c = λ order total xs ys sorted stable. stable_is_ascending total xs ys sorted stable
