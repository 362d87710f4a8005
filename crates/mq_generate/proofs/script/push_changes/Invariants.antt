use Rattle.std.proofs.Common.{◌≡◌, ◌++◌, ◌*◌}
use Rattle.std.specs.List.{concat}
use Rattle.mq_generate.specs.Draws.{state_after}
use Rattle.mq_generate.specs.Script.{change_of, each_below}
use Rattle.mq_generate.specs.declared.script.TheConstants.{DRAWS_A_CHANGE}
use Rattle.mq_generate.proofs.script.push_changes.Given as goal

abbrev pub invariant-changes : goal.invariant-changes
invariant-changes l = record {
  text : l.script.items ≡ l.fn.script.items ++ concat (each_below (change_of l.fn.draws l.size) l.index);
  state : l.draws ≡ state_after (DRAWS_A_CHANGE * l.index) l.fn.draws;
}
