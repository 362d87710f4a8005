use Rattle.std.proofs.Common.{◌≡◌, ◌++◌}
use Rattle.std.specs.Prelude.{codes}
use Rattle.mq_generate.specs.Draws.{state_after}
use Rattle.mq_generate.specs.Script.{each_below, year_row}
use Rattle.mq_generate.proofs.script.push_insert.Given as goal

abbrev pub invariant-years : goal.invariant-years
invariant-years l = record {
  text : l.script.items ≡ l.fn.script.items ++ (codes "INSERT INTO SALES VALUES" ++ each_below (year_row l.fn.draws l.product) l.index);
  state : l.draws ≡ state_after l.index l.fn.draws;
}
