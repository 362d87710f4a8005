use Rattle.std.proofs.Common.{◌≡◌, List, Result, subst}
use Rattle.mq_values.specs.Answers.{Gives}
use Rattle.mq_values.specs.declared.faults.FaultKind.{FaultKind}
use Rattle.mq_ir.specs.BaseRows.{conditions_of}
use Rattle.mq_join.specs.Rows.{Joined}
use Rattle.mq_join.proofs.RowLemmas.{walk_meant}
use Rattle.mq_join.proofs.query_rows.rows_over.Goals as goal

pub returns : goal.returns
returns c =
    let e : c.as_slice-conditions.result.now ≡ conditions_of c.args.q.now = cc (c.as_slice-conditions.ensures, c.in_ok-all.ensures) in
    subst (λ (meant : Result (List Joined) FaultKind). Gives c.rows_behind.result meant)
    (walk_meant c.args.q.now c.args.items.now c.as_slice-conditions.result.now c.in_ok-tuple.tuple.items c.new.result e c.in_ok-tuple.ensures.items c.new.ensures)
    c.rows_behind.ensures.gives
