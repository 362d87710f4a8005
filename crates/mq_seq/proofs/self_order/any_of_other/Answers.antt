use Rattle.std.proofs.Common.{◌≤◌, length, sym, subst, arith, ◌∙◌}
use Rattle.std.proofs.lemmas.List.Elements.{All-get_or}
use Rattle.mq_ir.specs.Sequential.{is_of_other}
use Rattle.mq_refs.specs.LookParts.{is_within}
use Rattle.mq_seq.proofs.SelfOrderLemmas.{part_found, part_passed, parts_done}
use Rattle.mq_seq.proofs.self_order.any_of_other.Goals as goal

pub part_of_other-requires : goal.part_of_other-requires
part_of_other-requires g c =
    let count = length (g.K.CellKeys.set c.args.cells.now) in
    let parts = c.args.parts.now in
    subst (is_within count) (sym c.part-item.is) (All-get_or (is_within count) parts c.parts.part-index c.part-item.result c.parts-test.true c.requires)

pub returns-then-part_of_other : goal.returns-then-part_of_other
returns-then-part_of_other g c =
    let p = is_of_other c.args.set.now c.args.m c.args.target.now in
    let cells = g.K.CellKeys.set c.args.cells.now in
    sym (part_found p cells c.args.parts.now c.parts.part-index c.part-item.result c.parts-test.true c.part-item.is (sym c.part_of_other.ensures ∙ c.if-part_of_other.true))
    ∙ c.parts.invariant

pub parts-preserved : goal.parts-preserved
parts-preserved g c =
    let p = is_of_other c.args.set.now c.args.m c.args.target.now in
    let cells = g.K.CellKeys.set c.args.cells.now in
    sym (part_passed p cells c.args.parts.now c.parts.part-index c.part-item.result c.parts-test.true c.part-item.is (sym c.part_of_other.ensures ∙ c.if-part_of_other.false))
    ∙ c.parts.invariant

pub returns : goal.returns
returns g c =
    let p = is_of_other c.args.set.now c.args.m c.args.target.now in
    let cells = g.K.CellKeys.set c.args.cells.now in
    let le : length c.args.parts.now ≤ c.parts.part-index = omega (arith, c.parts-test.false) in
    sym (parts_done p cells c.args.parts.now c.parts.part-index le) ∙ c.parts.invariant
