use Rattle.mq_lineage.proofs.HeldLemmas.{none_apart, none_count, none_flagged, none_held}
use Rattle.mq_lineage.proofs.source_set.SourceSet.new.Goals as goal

pub invariant_of-result : goal.invariant_of-result
invariant_of-result c =
    let flags = c.in_ok-derived.ensures.items_if_clones_equal (λ y e. e) in
    none_apart c.args.places c.in_ok-derived.derived.items c.new.result c.args.count c.requires (none_count c.args.count c.in_ok-derived.derived.items flags) c.new.ensures

pub returns-clause-none : goal.returns-clause-none
returns-clause-none c =
    none_held c.args.places c.in_ok-derived.derived.items c.new.result
    (none_flagged c.args.count c.in_ok-derived.derived.items (c.in_ok-derived.ensures.items_if_clones_equal (λ y e. e))) c.new.ensures
