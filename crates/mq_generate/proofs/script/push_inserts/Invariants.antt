use Rattle.std.proofs.Common.{◌≡◌, ◌++◌, ◌*◌}
use Rattle.std.specs.List.{concat}
use Rattle.mq_generate.specs.Draws.{state_after}
use Rattle.mq_generate.specs.Script.{inserts}
use Rattle.mq_generate.specs.declared.script.TheConstants.{YEARS}
use Rattle.mq_generate.proofs.script.push_inserts.Given as goal

abbrev pub invariant-products : goal.invariant-products
invariant-products l = record {
  text : l.script.items ≡ l.fn.script.items ++ concat (inserts l.fn.draws l.index);
  state : l.draws ≡ state_after (YEARS * l.index) l.fn.draws;
}
