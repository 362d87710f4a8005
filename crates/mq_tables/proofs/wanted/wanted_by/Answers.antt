use Rattle.std.specs.Borrow.{Bor}
use Rattle.mq_values.specs.declared.value.Value.{Value}
use Rattle.mq_tables.specs.Wanted.{Refutes, StandsBeside}
use Rattle.mq_tables.proofs.WantedLemmas.{beside, beside_turned, if_some}
use Rattle.mq_tables.proofs.wanted.wanted_by.Goals as goal

pub returns-in-Some : goal.returns-in-Some
returns-in-Some c = beside c.args.e.now c.in_ok-a.a.now c.in_ok-a.b.now c.args.column c.in-Some.v.now c.in_ok-a.ensures c.in-Some.ensures

pub returns-in-None : goal.returns-in-None
returns-in-None c =
    if_some (λ (v : Bor Value). StandsBeside c.in_ok-a.b.now c.in_ok-a.a.now c.args.column v.now) (λ (v : Bor Value). Refutes c.args.column c.args.e.now v.now) c.value_beside-in-None.result
    (λ (v : Bor Value) (s : StandsBeside c.in_ok-a.b.now c.in_ok-a.a.now c.args.column v.now).
    beside_turned c.args.e.now c.in_ok-a.a.now c.in_ok-a.b.now c.args.column v.now c.in_ok-a.ensures s)
    c.value_beside-in-None.ensures
