-- What is asked of a model and of the keys of an input.
use Rattle.std.specs.Prelude.{List, length}
use Rattle.std.specs.List.Sorted.{IsStrictlySortedBy}
use Rattle.mq_values.specs.Order.{cmp_key}
use Rattle.mq_ir.specs.declared.query.ModelPart.{ModelPart}
use Rattle.mq_ir.specs.Keys.{Tuple}
use Rattle.mq_ir.specs.Ready.{HaveLength, LeftsHavePlaces}

-- the shape may be found: each left side has a place and each key a value for each dimension, and the keys ascend, each once
pub record AreReady (part : ModelPart) (keys : List Tuple) : Type 0 where
  pub lefts : LeftsHavePlaces part
  pub wide : HaveLength (length part.dims) keys
  pub ascend : IsStrictlySortedBy cmp_key keys
