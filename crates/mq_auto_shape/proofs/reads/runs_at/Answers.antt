use Rattle.std.proofs.Common.{List, length, sym, subst, ◌∙◌}
use Rattle.std.specs.List.{All}
use Rattle.std.specs.List.Sorted.{IsStrictlySortedBy}
use Rattle.std.proofs.lemmas.Result.{IfOk-weaker}
use Rattle.mq_values.specs.Order.{cmp_key}
use Rattle.mq_ir.specs.Keys.{Tuple}
use Rattle.mq_ir.specs.Unfolding.{model_of}
use Rattle.mq_refs.specs.declared.parts.LookPart.{LookPart}
use Rattle.mq_refs.specs.LookParts.{is_within}
use Rattle.mq_auto_shape.proofs.MeetLemmas.{reads_are}
use Rattle.mq_auto_shape.proofs.reads.runs_at.Goals as goal

pub runs_of-requires-clause-ascend : goal.runs_of-requires-clause-ascend
runs_of-requires-clause-ascend c = subst (λ (keys : List Tuple). IsStrictlySortedBy cmp_key keys) (sym c.requires.keys) c.keys.ensures.ascending

pub runs_of-requires-clause-within : goal.runs_of-requires-clause-within
runs_of-requires-clause-within c =
    let all = c.in_ok-parts.ensures.within in
    subst (λ (keys : List Tuple). All (is_within (length keys)) c.as_slice.result.now) (sym c.requires.keys)
    (subst (λ (parts : List LookPart). All (is_within (length c.args.cells.now)) parts) (sym c.as_slice.ensures) all)

pub returns : goal.returns
returns c =
    IfOk-weaker c.runs_of.result _ _
    (λ runs h. h
    ∙ reads_are (model_of c.args.m.now) c.args.shape.now c.args.numbers.now c.args.wanted.now c.args.a.now c.rule_numbered-rule.result.now c.args.cells.now c.requires.places c.requires.wanted
    c.in_ok-parts.parts c.as_slice.result.now c.requires.cells c.requires.keys c.as_slice.ensures c.rule_numbered-rule.ensures c.in_ok-parts.ensures.looks)
    c.runs_of.ensures
