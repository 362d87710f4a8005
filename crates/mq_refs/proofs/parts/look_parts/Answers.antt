use Rattle.std.proofs.Common.{◌++◌, List, ap, ◌∙◌}
use Rattle.mq_ir.specs.Looks.{leaves_of}
use Rattle.mq_ir.specs.Unfolding.{model_of}
use Rattle.mq_refs.specs.declared.parts.LookPart.{LookPart}
use Rattle.mq_refs.specs.LookLists.{looks_by}
use Rattle.mq_refs.specs.LookParts.{looks_in, wanted_looks}
use Rattle.mq_refs.specs.Sites.{site_with}
use Rattle.mq_refs.proofs.PartLemmas.{wanted_of_leaves}
use Rattle.mq_refs.proofs.parts.look_parts.Goals as goal

pub returns-clause-looks : goal.returns-clause-looks
returns-clause-looks g c =
    let set = g.K.CellKeys.set c.args.keys.now in
    let wanted = c.args.wanted.now in
    let site = site_with (model_of c.args.m.now) c.args.turn c.args.target.now set in
    let right = c.args.r.now.right in
    c.in_ok-push_looks.ensures.shown
    ∙ ap (λ (parts : List LookPart). looks_in set parts ++ looks_by (wanted_looks wanted site) right) c.new-parts.ensures
    ∙ wanted_of_leaves wanted site (leaves_of right)
