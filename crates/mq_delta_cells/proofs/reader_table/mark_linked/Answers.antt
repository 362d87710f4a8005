use Rattle.std.proofs.Common.{ℕ, Option, ap, subst, ◌∙◌}
use Rattle.mq_delta_cells.specs.Readers.{is_linked}
use Rattle.mq_delta_cells.proofs.ReaderLemmas.{MarkedTo, linked_none, linked_out, marked_next}
use Rattle.mq_delta_cells.proofs.reader_table.mark_linked.Goals as goal

pub returns-in_default : goal.returns-in_default
returns-in_default c =
    let links = c.args.links.now in
    let left = c.marking.left in
    λ place h.
    let was = c.marking.invariant place h in
    (was.0, was.1 (ap (λ (o : Option ℕ). is_linked links left o place) c.in_default.is ∙ linked_none links left place))

pub returns-in_default-get : goal.returns-in_default-get
returns-in_default-get c =
    let links = c.args.links.now in
    let left = c.marking.left in
    let out = c.in_default-get.ensures.lookup.3 in
    λ place h.
    let was = c.marking.invariant place h in
    (was.0, was.1 (ap (λ (o : Option ℕ). is_linked links left o place) c.in-Some.is ∙ linked_out links left c.in-Some.at place out))

pub marking-preserved : goal.marking-preserved
marking-preserved c =
    let links = c.args.links.now in
    let found = c.in-Some-get.ensures.lookup in
    let first = c.args.due.now.items in
    let mid = c.marking.due.items in
    marked_next links c.args.last first mid c.mark_one.new.due.items c.marking.left c.in-Some.at c.in-Some-get.link.now c.marking-test.true found.3.0 found.1
    c.mark_one.ensures (subst (λ (o : Option ℕ). MarkedTo links c.args.last first c.marking.left o mid) c.in-Some.is c.marking.invariant)
