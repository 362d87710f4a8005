-- What is known of a model through a run.
use Rattle.mq_ir.specs.declared.query.Model.{Model as Lent}
use Rattle.mq_ir.specs.Unfolding.{model_of}
use Rattle.mq_refs.specs.Orders.{IsOrderOf}
use Rattle.mq_unfold.specs.FixedLefts.{AreFixed}
use Rattle.mq_seq.specs.declared.prepared.Prepared.{Prepared}

-- what is found of a model before its turns is so
pub record IsPrepared (p : Prepared) (m : Lent) : Type 0 where
  pub refs : IsOrderOf p.refs m
  pub fixed : AreFixed (model_of m) p.fixed.now
