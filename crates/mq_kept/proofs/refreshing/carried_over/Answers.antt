use Rattle.std.proofs.Common.{List, Ok, ap, subst, sym, ◌∙◌}
use Rattle.std.specs.Map.{keys_of}
use Rattle.mq_ir.specs.declared.query.CellName.{CellName}
use Rattle.mq_ir.specs.declared.query.PartShape.{PartShape}
use Rattle.mq_ir.specs.Unfolding.{model_of}
use Rattle.mq_cells.specs.IndexedStores.{input_in, results_of}
use Rattle.mq_auto.specs.Meaning.{HoldsValues}
use Rattle.mq_delta_cells.specs.Seeds.{is_moved}
use Rattle.mq_kept.specs.declared.kept_view.SharedShape.{SharedShape}
use Rattle.mq_kept.specs.Refreshed.{IsWalked}
use Rattle.mq_kept.proofs.FoundLemmas.{base_is, is_change, is_shaped, strict_keys}
use Rattle.mq_kept.proofs.refreshing.carried_over.Goals as goal

pub moved_to-requires : goal.moved_to-requires
moved_to-requires c =
    let part = c.args.m.now.part.now in
    record {
      before = strict_keys part c.args.old.now c.requires.old c.requires.values.shape.faultless;
      after = strict_keys part c.args.new.now c.requires.new c.requires.faultless;
    }

pub walked_over-requires : goal.walked_over-requires
walked_over-requires c = c.requires.levelled

pub shared-requires : goal.shared-requires
shared-requires c = c.in_ok-found.ensures.levelled

pub returns : goal.returns
returns c =
    let model = model_of c.args.m.now in
    let old = c.args.old.now in
    let new = c.args.new.now in
    let shape = c.args.found.shape in
    let same = c.in_ok-shape.ensures.same ∙ c.in_ok-found.ensures.same in
    let keys = base_is model new shape c.requires.new c.requires.faultless c.requires.shaped (c.shapes_are_sound.ensures model (keys_of new.cells) shape) in
    let change = is_change model old new c.args.kept c.requires.old c.requires.values shape.base c.as_slice.result.now _ _ keys
    (λ name. ap (λ (l : List CellName). is_moved l name) c.as_slice.ensures.value ∙ c.in_ok-moved.ensures.moved name) c.in_ok-moved.ensures.input c.in_ok-moved.ensures.same_results in
    let walked = subst (λ (s : SharedShape). IsWalked model s.found.shape shape c.as_slice.result.now c.moved_to.new.cells c.walked_over.new.cells) c.deref.ensures
    c.in_ok-found.ensures.walked in
    record {
      automatic = c.requires.values.automatic;
      shape = record { faultless = c.requires.faultless; shaped = c.requires.shaped ∙ ap Ok (sym same); shared = c.in_ok-shape.ensures.shared };
      values =
          subst (λ (s : PartShape). HoldsValues model s new.cells (input_in c.walked_over.new.cells) (results_of c.walked_over.new.cells)) (sym same)
          (walked old.cells new.cells (is_shaped model new shape c.requires.new c.requires.faultless c.requires.shaped) change);
    }
