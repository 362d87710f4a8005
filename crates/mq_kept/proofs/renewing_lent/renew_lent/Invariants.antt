use Rattle.std.proofs.Common.{take}
use Rattle.std.specs.List.{All}
use Rattle.mq_ir.specs.Unfolding.{model_of}
use Rattle.mq_kept.specs.Kept.{IsRight}
use Rattle.mq_kept.proofs.RenewLemmas.{Renewing}
use Rattle.mq_kept.proofs.renewing_lent.renew_lent.Given as goal

abbrev pub invariant-groups : goal.invariant-groups
invariant-groups l = record {
  right : All (IsRight (model_of l.m)) l.parts;
  renewing : Renewing l.m.part.now l.change (take l.group-index l.groups) l.fn.parts l.parts;
}
