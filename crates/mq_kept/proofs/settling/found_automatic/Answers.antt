use Rattle.std.proofs.Common.{refl, subst, sym}
use Rattle.mq_ir.specs.Unfolding.{model_of}
use Rattle.mq_kept.specs.Kept.{IsShared}
use Rattle.mq_kept.proofs.settling.found_automatic.Goals as goal

pub values_over-requires : goal.values_over-requires
values_over-requires g c =
    record {
      levelled = (subst (IsShared (model_of c.args.m.now)) (sym c.deref.ensures) (rw c.in-Ok.is at c.in_ok-found.ensures).shared).levelled;
      refs = c.requires.refs;
      finder = c.requires.finder;
    }

pub returns-in-Err : goal.returns-in-Err
returns-in-Err g c = record { settled = refl; found = rw c.in-Err.is at c.in_ok-found.ensures }
