use Rattle.std.proofs.Common.{◌≡◌}
use Rattle.mq_ir.specs.Iteration.{turn_count}
use Rattle.mq_ir.specs.Unfolding.{model_of}
use Rattle.mq_seq.proofs.TurnLemmas.{Rounds}
use Rattle.mq_seq.proofs.turns.take_turns.Given as goal

abbrev pub invariant-turns : goal.invariant-turns
invariant-turns l = record {
  rounds : Rounds (model_of l.m) (turn_count (model_of l.m)) l.fn.grid l.turn l.grid;
  same_width : l.grid.width ≡ l.fn.grid.width;
}
