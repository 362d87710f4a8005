use Rattle.std.proofs.Common.{◌-◌, ◌&&◌, Bool, List, drop, take, sym, ap, ◌∙◌}
use Rattle.std.specs.List.{list_any}
use Rattle.std.proofs.lemmas.Bool.{eq-eqb, ne_eqb}
use Rattle.mq_ir.specs.Keys.{Tuple}
use Rattle.mq_ir.specs.Sequential.{is_of_other}
use Rattle.mq_refs.specs.declared.parts.LookPart.{LookPart}
use Rattle.mq_refs.specs.LookParts.{looks_of_part}
use Rattle.mq_seq.specs.Steps.{is_other}
use Rattle.mq_seq.proofs.SelfOrderLemmas.{any_at}
use Rattle.mq_seq.proofs.self_order.part_of_other.Goals as goal

pub returns-then-measure-m : goal.returns-then-measure-m
returns-then-measure-m g c =
    let cells = g.K.CellKeys.set c.args.cells.now in
    let set = c.args.set.now in
    let target = c.args.target.now in
    let among : List Tuple = take (c.in-Run.past - c.in-Run.first) (drop c.in-Run.first cells) in
    c.run_has_other.ensures
    ∙ sym
    (ap (λ (p : LookPart). list_any (is_of_other set c.args.m target) (looks_of_part cells p)) c.in-Run.is
    ∙ any_at set c.args.m target c.in-Run.measure among
    ∙ ap (λ (b : Bool). b && list_any (is_other set target) among) (eq-eqb c.in-Run.measure c.args.m c.if-measure-m.true))

pub returns-else-measure-m : goal.returns-else-measure-m
returns-else-measure-m g c =
    let cells = g.K.CellKeys.set c.args.cells.now in
    let set = c.args.set.now in
    let target = c.args.target.now in
    let among : List Tuple = take (c.in-Run.past - c.in-Run.first) (drop c.in-Run.first cells) in
    let off = ne_eqb c.in-Run.measure c.args.m c.if-measure-m.false in
    off
    ∙ sym
    (ap (λ (p : LookPart). list_any (is_of_other set c.args.m target) (looks_of_part cells p)) c.in-Run.is
    ∙ any_at set c.args.m target c.in-Run.measure among
    ∙ ap (λ (b : Bool). b && list_any (is_other set target) among) off)
