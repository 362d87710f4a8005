use Rattle.std.proofs.Common.{◌≡◌, List, true, ap, subst, sym, ◌∙◌}
use Rattle.std.specs.Prelude.{is_some}
use Rattle.mq_ir.specs.declared.query.CellName.{CellName}
use Rattle.mq_ir.specs.Automatic.{levelled_shape}
use Rattle.mq_ir.specs.Unfolding.{model_of}
use Rattle.mq_delta_cells.specs.Seeds.{is_moved}
use Rattle.mq_kept.specs.declared.kept_view.SharedShape.{SharedShape}
use Rattle.mq_kept.specs.Kept.{IsShared}
use Rattle.mq_kept.specs.Refreshed.{IsWalked}
use Rattle.mq_kept.proofs.FoundLemmas.{is_change, is_shaped, strict_keys}
use Rattle.mq_kept.proofs.refreshing.moved.Goals as goal

pub moved_to-requires : goal.moved_to-requires
moved_to-requires c =
    let part = c.args.m.now.part.now in
    record {
      before = strict_keys part c.args.old.now c.requires.old c.requires.values.shape.faultless;
      after = strict_keys part c.args.new.now c.requires.new c.requires.faultless;
    }

pub walk_values-requires : goal.walk_values-requires
walk_values-requires c =
    record {
      shared = subst (IsShared (model_of c.args.m.now)) (sym c.deref.ensures) c.requires.values.shape.shared;
      course = subst (λ (s : SharedShape). is_some s.course ≡ true) (sym c.deref.ensures) c.requires.course;
    }

pub returns : goal.returns
returns c =
    let model = model_of c.args.m.now in
    let old = c.args.old.now in
    let new = c.args.new.now in
    let shape = c.args.kept.shape.value.found.shape in
    let shaped = ap (levelled_shape model) c.requires.same ∙ sym c.requires.values.shape.shared.levelled.exact in
    let change = is_change model old new c.args.kept c.requires.old c.requires.values shape.base c.as_slice.result.now _ _ c.requires.same
    (λ name. ap (λ (l : List CellName). is_moved l name) c.as_slice.ensures.value ∙ c.in_ok-moved.ensures.moved name) c.in_ok-moved.ensures.input c.in_ok-moved.ensures.same_results in
    let walked = subst (λ (s : SharedShape). IsWalked model s.found.shape s.found.shape c.as_slice.result.now c.moved_to.new.cells c.walk_values.new.cells) c.deref.ensures
    c.in_ok-walk_values.ensures in
    record {
      automatic = c.requires.values.automatic;
      shape = record { faultless = c.requires.faultless; shaped = shaped; shared = c.requires.values.shape.shared };
      values = walked old.cells new.cells (is_shaped model new shape c.requires.new c.requires.faultless shaped) change;
    }
