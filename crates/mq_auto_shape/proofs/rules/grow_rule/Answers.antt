use Rattle.std.proofs.Common.{List, length, sym, subst}
use Rattle.mq_ir.specs.declared.query.SingleLeft.{SingleLeft}
use Rattle.mq_ir.specs.Ready.{HavePlaces}
use Rattle.mq_auto_shape.proofs.WalkLemmas.{gives_wide}
use Rattle.mq_auto_shape.proofs.rules.grow_rule.Goals as goal

pub grow_all-requires : goal.grow_all-requires
grow_all-requires c =
    let n = length c.args.m.now.part.now.dims in
    record { width = n; places = subst (λ (l : List SingleLeft). HavePlaces n l) (sym c.as_slice.ensures) c.in_ok-lefts.ensures.wide; values = c.requires.wide }

pub returns-clause-wide : goal.returns-clause-wide
returns-clause-wide c =
    let n = length c.args.m.now.part.now.dims in
    gives_wide c.args.number c.args.rule.now n c.as_slice.result.now c.args.growth c.grow_all.result
    (subst (λ (l : List SingleLeft). HavePlaces n l) (sym c.as_slice.ensures) c.in_ok-lefts.ensures.wide) c.requires.wide c.grow_all.ensures
