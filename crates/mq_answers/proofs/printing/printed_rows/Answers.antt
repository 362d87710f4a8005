use Rattle.std.proofs.Common.{◌∙◌}
use Rattle.std.proofs.lemmas.Result.{IfOk-weaker}
use Rattle.mq_answers.proofs.PrintLemmas.{printed_is}
use Rattle.mq_answers.proofs.printing.printed_rows.Goals as goal

pub returns : goal.returns
returns g c =
    IfOk-weaker c.shown.result _ _
    (λ printed e. printed_is g.R.Columns.columns c.args.q.now c.args.rows.items c.deref.result.now c.as_slice.result.now printed c.as_slice.ensures (c.deref.ensures.value ∙ c.in_ok-rows.ensures) e)
    c.shown.ensures
