use Rattle.std.proofs.Common.{List, sym, ap, ◌∙◌}
use Rattle.std.specs.List.{filter, list_any}
use Rattle.std.specs.Option.{option_copied}
use Rattle.std.proofs.lemmas.Result.{IfOk-weaker}
use Rattle.mq_refs.specs.declared.parts.LookPart.{LookPart}
use Rattle.mq_refs.specs.LookParts.{is_wanted, looks_in}
use Rattle.mq_delta_cells.specs.Walks.{ground_of, is_known_in, model_at}
use Rattle.mq_delta_cells.proofs.PartLemmas.{looks_are_parted}
use Rattle.mq_delta_cells.proofs.parts.is_some_wanted.Goals as goal

pub returns : goal.returns
returns c =
    let work = c.args.work.now in
    let known = is_known_in (ground_of work) c.args.changed.now in
    let set = work.course.now.cells in
    let there = sym c.rule_numbered.ensures ∙ ap option_copied c.in-Some.is in
    IfOk-weaker c.is_some_part_known.result _ _
    (λ some h. h ∙ ap (λ (parts : List LookPart). list_any known (looks_in set parts)) c.as_slice.ensures ∙ ap (list_any known) (c.in_ok-parts.ensures.looks
    ∙ ap (filter (is_wanted c.args.wanted.now)) (looks_are_parted (model_at work) work.shape.now set c.args.a.now c.in-Some.rule.now c.requires.course.cells there)))
    c.is_some_part_known.ensures
