use Rattle.std.proofs.Common.{List, ℕ, Ok, Err, sym, ◌∙◌, subst}
use Rattle.std.proofs.lemmas.Result.{err_from_is_err_and}
use Rattle.mq_tables.specs.Touching.{count_of}
use Rattle.mq_delta_items.specs.Touching.{TableChanges}
use Rattle.mq_delta_items.specs.TouchLaws.{changes_touch}
use Rattle.mq_engine.proofs.BlockLemmas.{outside}
use Rattle.mq_engine.proofs.ChangeLemmas.{names_stay, step_is}
use Rattle.mq_engine.proofs.engine.Engine.apply.Goals as goal

pub returns-in_err-touched-clause-exact : goal.returns-in_err-touched-clause-exact
returns-in_err-touched-clause-exact g c =
    let tables = c.self.inside.tables in
    let k = c.self.inside.catalog in
    let state = c.args.self.now in
    let p = err_from_is_err_and c.from_residual.result c.from_residual.ensures.1 in
    rw (p.1, p.2) (step_is tables c.args.c.now k state (outside tables k c.self.inside.block state c.self.view_is c.requires)
    (Err c.in_err-touched.field-0.0) c.change.new.self c.in_err-touched.ensures.exact)

pub follow-requires-clause-stood : goal.follow-requires-clause-stood
follow-requires-clause-stood g c =
    let tables = c.self.inside.tables in
    let touched = c.in_ok-touched.touched in
    record {
      before = tables;
      change =
          subst (λ (name : List ℕ). TableChanges touched name tables c.change.new.self) (sym (c.as_str-table.ensures ∙ c.table_of.ensures))
          (changes_touch tables c.change.new.self c.args.c.now (count_of touched) touched c.in_ok-touched.ensures.exact c.in_ok-touched.ensures.touched);
      standing = c.self.invariant.3;
    }

pub invariant_of-self-2 : goal.invariant_of-self-2
invariant_of-self-2 g c = (
  c.self.invariant.0 ∙ sym (names_stay c.self.inside.tables c.args.c.now (Ok (count_of c.in_ok-touched.touched)) c.change.new.self c.in_ok-touched.ensures.exact tt),
  c.self.invariant.1,
  c.self.invariant.2,
  c.follow.ensures,
)
