use Rattle.std.proofs.Common.{◌∙◌}
use Rattle.mq_ir.specs.Unfolding.{model_of}
use Rattle.mq_auto.proofs.JudgeLemmas.{broken_is, done_is}
use Rattle.mq_auto.proofs.computing.compute.Goals as goal

pub walk_rounds-requires : goal.walk_rounds-requires
walk_rounds-requires g c =
    let judged = rw c.in-Ok.is at c.in_ok-judged.ensures in
    record { levelled = judged.rounds; refs = c.refs_order.ensures; finder = tt }

pub returns-in_ok-walk_rounds-in-Ok-clause-verdict : goal.returns-in_ok-walk_rounds-in-Ok-clause-verdict
returns-in_ok-walk_rounds-in-Ok-clause-verdict g c =
    let judged = rw c.in-Ok.is at c.in_ok-judged.ensures in
    done_is (model_of c.args.m.now) c.args.p.now c.in-Ok.found.shape judged.exact

pub returns-in_ok-walk_rounds-in-Ok-clause-values : goal.returns-in_ok-walk_rounds-in-Ok-clause-values
returns-in_ok-walk_rounds-in-Ok-clause-values g c =
    let walked = c.in_ok-walk_rounds-in-Ok.ensures in
    record {
      given_is = walked.same_input ∙ c.requires.input;
      results_are = walked.values c.args.p.now.cells c.requires.input c.requires.empty;
    }

pub returns-in-Err-clause-verdict : goal.returns-in-Err-clause-verdict
returns-in-Err-clause-verdict g c =
    let judged = rw c.in-Err.is at c.in_ok-judged.ensures in
    broken_is (model_of c.args.m.now) c.args.p.now c.in-Err.fault judged.exact
