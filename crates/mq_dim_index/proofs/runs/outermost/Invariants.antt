use Rattle.std.proofs.Common.{ℕ, ◌<◌, ◌≢◌, length, get_or}
use Rattle.mq_values.specs.declared.value.Value.{Value}
use Rattle.mq_dim_index.specs.Runs.{cmp_by_worth}
use Rattle.mq_dim_index.proofs.runs.outermost.Given as goal

abbrev pub invariant-loop-i : goal.invariant-loop-i
invariant-loop-i l = record {
  within : l.found < length l.ws;
  furthest : (k : ℕ) (d : Value) → k < l.i → cmp_by_worth (get_or l.ws k d) (get_or l.ws l.found d) ≢ l.side;
}
