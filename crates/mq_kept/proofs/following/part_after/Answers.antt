use Rattle.std.proofs.Common.{ap, subst, sym}
use Rattle.mq_ir.specs.Unfolding.{model_of}
use Rattle.mq_kept.specs.declared.kept_view.KeptPart.{KeptPart}
use Rattle.mq_kept.specs.Kept.{IsRight}
use Rattle.mq_kept.proofs.following.part_after.Goals as goal

pub refreshed-requires : goal.refreshed-requires
refreshed-requires c = record { right = rw c.in-Some.is at (c.taken_at.ensures.taken (model_of c.args.m.now) c.requires.right); ready = c.requires.ready }

pub returns-in-Some : goal.returns-in-Some
returns-in-Some c =
    record { left = c.taken_at.ensures.left (model_of c.args.m.now) c.requires.right; input = c.refreshed.ensures.input; right = c.refreshed.ensures.right }

pub returns-in-None : goal.returns-in-None
returns-in-None c =
    let model = model_of c.args.m.now in
    record {
      left = c.taken_at.ensures.left model c.requires.right;
      input = ap (λ (part : KeptPart). part.input) c.new.ensures;
      right = subst (IsRight model) (sym c.new.ensures) (record { ready = c.requires.ready; found = tt; shown = tt });
    }
