use Rattle.std.proofs.Common.{◌∙◌}
use Rattle.mq_auto.proofs.values.values_over.Goals as goal

pub returns : goal.returns
returns g c =
    let made = c.in_ok-cells.ensures in
    let added = c.in_ok-add_created.ensures in
    let walked = c.in_ok-walk_rounds.ensures in
    let cells = c.args.p.now.cells in
    record {
      given_is = walked.same_input ∙ added.same_input ∙ made.input;
      results_are = walked.values cells (added.same_input ∙ made.input) (added.same_results ∙ made.results);
    }
