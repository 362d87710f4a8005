use Rattle.std.proofs.Common.{◌≡◌, [], arith, sym}
use Rattle.std.proofs.lemmas.Grind.{common_steps}
use Rattle.mq_tables.proofs.StandingLemmas.{all_stand}
use Rattle.mq_tables.proofs.ascending.settle.Goals as goal

pub returns-then-is_empty-clause-left : goal.returns-then-is_empty-clause-left
returns-then-is_empty-clause-left c =
    let none : c.args.gone.now.keys ≡ [] = grind (arith, common_steps) in
    sym (all_stand c.args.gone.now.keys c.args.keys.now.items none)
