-- What a stable sort gives.
use Rattle.std.specs.Prelude.{◌≡◌, List}
use Rattle.std.specs.Cmp.{IsTotalOrder}
use Rattle.std.specs.List.Sorted.{IsSorted, IsStable}
use Rattle.std.specs.declared.cmp.Ordering.{Ordering}
use Rattle.mq_ir.specs.Partitions.{ascending}

-- a list that is in order, and whose ties stand as in another one, is that one in ascending order
abbrev pub StableSortAscends : {K : Type 0} → (K → K → Ordering) → Type 0
StableSortAscends {K = K} R = IsTotalOrder R → (xs ys : List K) → IsSorted R ys → IsStable R xs ys → ys ≡ ascending R xs
