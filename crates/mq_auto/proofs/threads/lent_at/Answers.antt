use Rattle.std.proofs.Common.{refl, ap, ◌∙◌}
use Rattle.mq_ir.specs.Slots.{cell_slot}
use Rattle.mq_cells.specs.IndexedStores.{IndexedStore, slots_in}
use Rattle.mq_auto.specs.Walks.{model_in}
use Rattle.mq_auto.proofs.MappingLemmas.{slot_over_at}
use Rattle.mq_auto.proofs.threads.lent_at.Goals as goal

pub returns : goal.returns
returns c =
    let model = model_in c.args.work.now in
    let shape = c.args.work.now.shape.now in
    let key = c.assigned_at.result.0.now in
    let rule = c.assigned_at.result.1.now in
    record {
      same = refl;
      slot =
          slot_over_at model shape (slots_in c.args.cells.now) c.args.place key rule c.in_ok-slot.slot c.assigned_at.ensures
          (c.in_ok-slot.ensures ∙ ap (λ (s : IndexedStore). cell_slot model shape 0 rule key (slots_in s)) c.new.ensures);
    }
