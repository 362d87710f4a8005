use Rattle.std.proofs.Common.{subst}
use Rattle.mq_values.specs.Answers.{Gives}
use Rattle.mq_ir.specs.Reads.{right_value}
use Rattle.mq_ir.specs.Unfolding.{model_of}
use Rattle.mq_cells.specs.IndexedStores.{IndexedStore, base_in, keys_in, value_in}
use Rattle.mq_refs.specs.Sites.{site_with}
use Rattle.mq_refs.proofs.targets.lent_value.Goals as goal

pub returns : goal.returns
returns c =
    subst (λ (s : IndexedStore). Gives c.value_in_store.result
    (right_value (site_with (model_of c.args.m.now) c.args.turn c.args.target.now (keys_in s)) (base_in s) (value_in s) c.args.r.now))
    c.store.ensures c.value_in_store.ensures
