use Rattle.std.proofs.Common.{◌++◌, List, ap, sym, ◌∙◌}
use Rattle.mq_kept.specs.declared.kept_view.KeptPart.{KeptPart}
use Rattle.mq_answers.specs.declared.kept_stretches.KeptStretch.{KeptStretch}
use Rattle.mq_answers.proofs.CutLemmas.{items_push}
use Rattle.mq_answers.proofs.kept_answers.parts_of.Goals as goal

pub loop-stretch-preserved : goal.loop-stretch-preserved
loop-stretch-preserved g c =
    c.in_ok-add_parts.ensures
    ∙ ap (λ (parts : List KeptPart). parts ++ c.in-Some.stretch.parts.items) c.loop-stretch.invariant
    ∙ sym (items_push (λ (s : KeptStretch _). s.parts.items) c.loop-stretch.yielded c.in-Some.stretch)
