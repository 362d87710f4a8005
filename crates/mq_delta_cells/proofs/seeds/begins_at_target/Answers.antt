use Rattle.mq_ir.specs.Unfolding.{model_of}
use Rattle.mq_delta_cells.proofs.TargetLemmas.{target_same}
use Rattle.mq_delta_cells.proofs.seeds.begins_at_target.Goals as goal

pub returns-in-None : goal.returns-in-None
returns-in-None c =
    let work = c.args.work.now in
    target_same (model_of work.model.now) work.seeds.now.old.now work.shape.now work.seeds.now.moved.now c.args.a.now c.requires.own c.same_looks_are_one.ensures
    (rw c.in-None.is at c.requires.seeds.differ)
