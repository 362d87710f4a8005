use Rattle.std.proofs.Common.{ap, ◌||◌}
use Rattle.mq_tool.proofs.CompareLemmas.{comparing_ends, comparing_goes_on, comparing_starts, comparing_stops}
use Rattle.mq_tool.proofs.scenarios.comparison_text.Goals as goal

pub scenarios-init : goal.scenarios-init
scenarios-init c = comparing_starts c.args.names.now c.args.found.now c.args.out.now.items

pub scenarios-preserved : goal.scenarios-preserved
scenarios-preserved c =
    comparing_goes_on c.args.names.now c.args.found.now c.scenarios.at c.args.out.now.items c.scenarios.out.items c.compared_text.new.out.items c.scenarios.flaw _ c.index-names-at.result
    c.in-Some.compared.now c.in-Some.ensures.lookup.3.0 c.in-Some.ensures.lookup.1 c.scenarios-test.true c.index-names-at.is c.in_ok-compared_text.ensures.ok (ap (λ b. c.scenarios.flaw || b) c.has_fault-flaw.ensures)
    c.scenarios.invariant

pub returns-in_default : goal.returns-in_default
returns-in_default c =
    comparing_stops c.args.names.now c.args.found.now c.scenarios.at c.args.out.now.items c.scenarios.out.items c.scenarios.flaw c.in_default.ensures.lookup.3 c.scenarios.invariant

pub returns : goal.returns
returns c =
    comparing_ends c.args.names.now c.args.found.now c.scenarios.at c.args.out.now.items c.scenarios.out.items c.scenarios.flaw c.scenarios-test.false c.scenarios.invariant
