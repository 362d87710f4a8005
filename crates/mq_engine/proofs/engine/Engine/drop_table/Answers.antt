use Rattle.std.proofs.Common.{[], ◌∷◌, Option, Ok, Err, sym, ap, ◌∙◌}
use Rattle.mq_values.specs.declared.faults.Refused.TheVariants as refused
use Rattle.mq_ir.specs.Lines.{Done}
use Rattle.mq_engine.specs.declared.open_block.OpenBlock.{OpenBlock}
use Rattle.mq_engine.specs.Blocks.{state_over}
use Rattle.mq_engine.proofs.BlockLemmas.{none_kept, outside}
use Rattle.mq_engine.proofs.DropLemmas.{drop_refused, dropped, not_refused}
use Rattle.mq_engine.proofs.StateLemmas.{tables_kept}
use Rattle.mq_engine.proofs.engine.Engine.drop_table.Goals as goal

pub invariant_of-self : goal.invariant_of-self
invariant_of-self c = (
  tables_kept c.self.inside.catalog.tables c.self.inside.tables c.self.invariant.0 c.args.name.now c.remove.new.self c.remove-2.new.self c.remove.ensures.others c.remove-2.ensures,
  c.self.invariant.1,
  c.self.invariant.2,
  c.pass_over.ensures c.self.inside.tables c.remove.new.self c.self.inside.catalog.views c.self.invariant.3,
)

pub returns-in-Some-clause-exact : goal.returns-in-Some-clause-exact
returns-in-Some-clause-exact c =
    drop_refused c.self.inside.tables c.self.inside.catalog c.args.self.now (outside c.self.inside.tables c.self.inside.catalog c.self.inside.block c.args.self.now c.self.view_is c.requires) c.args.name.now c.in-Some.user.now c.in-Some.ensures
    ∙ ap (λ user. Err (refused.InUse user)) (sym c.in_ok-copy.ensures)

pub returns-clause-exact : goal.returns-clause-exact
returns-clause-exact c =
    dropped c.self.inside.tables c.self.inside.catalog c.args.self.now (outside c.self.inside.tables c.self.inside.catalog c.self.inside.block c.args.self.now c.self.view_is c.requires) c.args.name.now c.remove.new.self c.in_default.ensures c.remove.ensures.others
    ∙ ap (λ (b : Option OpenBlock). Ok (state_over c.remove.new.self c.self.inside.catalog b, Done ∷ []))
    (sym (none_kept c.self.inside.tables c.self.inside.catalog c.self.inside.block c.args.self.now c.self.view_is c.requires))

pub returns-in_err-copy-clause-memory : goal.returns-in_err-copy-clause-memory
returns-in_err-copy-clause-memory c =
    let name = c.args.name.now in
    λ none wanted. not_refused c.args.self.now name (refused.InUse c.in-Some.user.now)
    (drop_refused c.self.inside.tables c.self.inside.catalog c.args.self.now (outside c.self.inside.tables c.self.inside.catalog c.self.inside.block c.args.self.now c.self.view_is c.requires) name c.in-Some.user.now c.in-Some.ensures) none
