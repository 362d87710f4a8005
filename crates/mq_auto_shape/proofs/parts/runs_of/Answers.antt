use Rattle.std.proofs.Common.{length, sym, subst}
use Rattle.std.specs.List.{filter_map}
use Rattle.std.proofs.lemmas.List.Elements.{All-get_or}
use Rattle.mq_refs.specs.LookParts.{is_within, looks_in}
use Rattle.mq_auto_shape.specs.Edges.{number_looked}
use Rattle.mq_auto_shape.specs.LaneRuns.{numbers_of}
use Rattle.mq_auto_shape.proofs.PartLemmas.{part_more}
use Rattle.mq_auto_shape.proofs.parts.runs_of.Goals as goal

pub push_part-requires-clause-within : goal.push_part-requires-clause-within
push_part-requires-clause-within c =
    let count = length c.args.numbers.now.keys in
    let parts = c.args.parts.now in
    subst (is_within count) (sym c.part-item.is) (All-get_or (is_within count) parts c.parts.part-index c.part-item.result c.parts-test.true c.requires.within)

pub parts-preserved : goal.parts-preserved
parts-preserved c =
    let numbers = c.args.numbers.now in
    let parts = c.args.parts.now in
    part_more numbers parts c.parts.part-index c.part-item.result (numbers_of numbers.lanes c.parts.runs) (numbers_of numbers.lanes c.push_part.new.runs)
    (filter_map (number_looked numbers) (looks_in numbers.keys parts)) c.parts-test.true c.part-item.is c.in_ok-push_part.ensures c.parts.invariant
