use Rattle.std.proofs.Common.{◌≡◌, ◌++◌, take, flat_map}
use Rattle.mq_values.specs.Print.{printed}
use Rattle.mq_render.proofs.pieces.push_values.Given as goal

abbrev pub invariant-values : goal.invariant-values
invariant-values l = l.out.items ≡ l.initial.out.items ++ flat_map (λ v. l.separator ++ printed v) (take l.value-index l.others)
