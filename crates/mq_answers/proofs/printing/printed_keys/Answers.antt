use Rattle.std.proofs.Common.{ap, ◌∙◌}
use Rattle.std.proofs.lemmas.List.{map-id}
use Rattle.std.proofs.lemmas.Result.{IfOk-weaker}
use Rattle.mq_ir.specs.Printing.{printed_rows}
use Rattle.mq_answers.proofs.WholeLemmas.{all_shown}
use Rattle.mq_answers.proofs.printing.printed_keys.Goals as goal

pub returns-then-are_whole : goal.returns-then-are_whole
returns-then-are_whole c =
    c.from_vec.ensures
    ∙ all_shown c.args.q.now c.as_slice.result.now c.as_slice-2.result.now c.args.rows.items c.in_ok-sorted.field-0.items c.as_slice.ensures c.as_slice-2.ensures.value
    (c.are_whole.ensures.order c.if-are_whole.true) (c.are_whole.ensures.wide c.if-are_whole.true) c.in_ok-sorted.ensures

pub returns : goal.returns
returns c =
    IfOk-weaker c.printed_rows.result _ _
    (λ rows e. e ∙ ap (printed_rows c.args.q.now) (map-id c.args.rows.items))
    c.printed_rows.ensures
