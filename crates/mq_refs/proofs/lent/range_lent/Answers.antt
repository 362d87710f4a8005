use Rattle.std.proofs.Common.{rules, ◌≡◌, List, map, Ok, subst, ap, ◌∙◌}
use Rattle.std.specs.List.{filter}
use Rattle.mq_values.specs.Aggregate.{aggregate}
use Rattle.mq_values.specs.Answers.{Gives}
use Rattle.mq_values.specs.declared.operators.DimTest.{DimTest}
use Rattle.mq_values.specs.declared.value.Value.{Value}
use Rattle.mq_ir.specs.Keys.{Tuple}
use Rattle.mq_ir.specs.Reads.{Measures}
use Rattle.mq_ir.specs.Targets.{meets_every}
use Rattle.mq_cells.specs.IndexedStores.{keys_in, value_in}
use Rattle.mq_cells.specs.Stores.{cell_name}
use Rattle.mq_refs.specs.Sites.{site_of, tests_named}
use Rattle.mq_refs.proofs.SiteLemmas.{range_over}
use Rattle.mq_refs.proofs.lent.range_lent.Goals as goal

pub returns : goal.returns
returns c =
    let at = c.args.at.now in
    let set = keys_in c.args.store.now in
    let now : Measures = value_in c.args.store.now in
    let of : Tuple → Value = λ key. now (cell_name key c.args.measure) in
    let named : tests_named (site_of at) at.model.now.part.now.dims c.args.places.now ≡ Ok c.in_ok-tests.tests = search rules in
    let tests : c.as_slice-2.result.now ≡ c.in_ok-tests.tests = search rules in
    subst (Gives c.aggregate_meeting.result)
    (ap (λ (ts : List DimTest). aggregate c.args.agg (map of (filter (meets_every ts) set))) tests
    ∙ range_over at set now c.args.agg c.args.measure c.args.places.now c.in_ok-tests.tests named)
    c.aggregate_meeting.ensures
