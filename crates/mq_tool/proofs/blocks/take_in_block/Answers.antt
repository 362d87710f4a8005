use Rattle.std.proofs.Common.{Err, refl, sym, ap, ◌∙◌, subst, rules}
use Rattle.mq_values.specs.declared.faults.Refused.TheVariants as refused
use Rattle.mq_ir.specs.declared.statement.Bound.{Bound}
use Rattle.mq_tool.specs.Steps.{TakesInside}
use Rattle.mq_tool.proofs.BlockLemmas.{began_there, change_inside, is_there, not_in_block}
use Rattle.mq_tool.proofs.blocks.take_in_block.Goals as goal

pub commit-requires : goal.commit-requires
commit-requires g c = (search rules, is_there c.args.engine.now c.args.begun c.requires.there)

pub returns-in-Change : goal.returns-in-Change
returns-in-Change g c =
    rw c.in-Change.is (λ files block is. change_inside c.args.engine.now c.do_change.new.engine c.in-Change.change block c.args.out.now.items c.do_change.new.out.items c.do_change.result is
    c.do_change.ensures)

pub returns-in-Begin : goal.returns-in-Begin
returns-in-Begin g c =
    rw c.in-Begin.is (λ files block is. (ap (λ l. Err (refused.BlockOpen l)) (sym (began_there c.args.engine.now c.args.begun block c.requires.there is)), refl, refl))

pub returns-in-Commit : goal.returns-in-Commit
returns-in-Commit g c = rw c.in-Commit.is c.commit.ensures

pub returns-in-Rollback : goal.returns-in-Rollback
returns-in-Rollback g c = rw c.in-Rollback.is c.roll_back.ensures

pub returns-in-Show : goal.returns-in-Show
returns-in-Show g c =
    let old = c.args.engine.now in
    let out = c.args.out.now.items in
    subst (λ (b : Bound). TakesInside b old old out out (Err c.not_shown.result)) (sym c.in-Show.is) (c.not_shown.ensures out)

pub returns-in_default : goal.returns-in_default
returns-in_default g c =
    let old = c.args.engine.now in
    let d = c.in_default in
    λ files block is. (
      not_in_block files old block c.args.bound.now c.requires.can d.not-Change d.not-Begin d.not-Commit d.not-Rollback d.not-Show
          ∙ ap (λ l. Err (refused.InBlock l)) (sym (began_there old c.args.begun block c.requires.there is)),
      refl,
      refl,
    )
