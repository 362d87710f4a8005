use Rattle.std.proofs.Common.{◌≡◌, not, Some, None, sym, ap, ◌∙◌}
use Rattle.mq_ir.specs.Automatic.{node_of, rule_at}
use Rattle.mq_ir.specs.Unfolding.{model_of}
use Rattle.mq_cells.specs.Stores.{name_assigned}
use Rattle.mq_delta_cells.proofs.TargetLemmas.{target_looked, target_new, target_ruled}
use Rattle.mq_delta_cells.proofs.seeds.differs_by_looks.Goals as goal

pub returns-then-number-a : goal.returns-then-number-a
returns-then-number-a c =
    let work = c.args.work.now in
    let old = work.seeds.now.old.now in
    let a = c.args.a.now in
    let number = c.in-Some.number in
    let e : rule_at old (node_of a) ≡ Some number = sym (c.requires.differ.rules (name_assigned a)) ∙ sym c.in_ok-rule_was.ensures ∙ c.in-Some.is in
    ap not c.are_same_looks.ensures
    ∙ sym (target_looked (model_of work.model.now) old work.shape.now work.seeds.now.moved.now a c.requires.own number c.as_slice.result.now e c.if-number-a.true
    (c.as_slice.ensures ∙ c.in_ok-were-in-Some.ensures) c.args.looks.now c.requires.looks)

pub returns-in-None : goal.returns-in-None
returns-in-None c =
    let work = c.args.work.now in
    let old = work.seeds.now.old.now in
    let a = c.args.a.now in
    let e : rule_at old (node_of a) ≡ None = sym (c.requires.differ.rules (name_assigned a)) ∙ sym c.in_ok-rule_was.ensures ∙ c.in-None.is in
    sym (target_new (model_of work.model.now) old work.shape.now work.seeds.now.moved.now a c.requires.own e)

pub returns-else-number-a : goal.returns-else-number-a
returns-else-number-a c =
    let work = c.args.work.now in
    let old = work.seeds.now.old.now in
    let a = c.args.a.now in
    let number = c.in-Some.number in
    let e : rule_at old (node_of a) ≡ Some number = sym (c.requires.differ.rules (name_assigned a)) ∙ sym c.in_ok-rule_was.ensures ∙ c.in-Some.is in
    sym (target_ruled (model_of work.model.now) old work.shape.now work.seeds.now.moved.now a c.requires.own number e c.if-number-a.false)
