use Rattle.std.proofs.Common.{◌≡◌, List, ◌∷◌, ◌++◌, ◌+◌, drop, refl, sym, ap, ◌∙◌}
use Rattle.std.proofs.lemmas.List.{append_assoc}
use Rattle.mq_cells.specs.Replays.{looks_after, replayed, results_by, slots_by}
use Rattle.mq_cells.specs.Stores.{CellInput, Results}
use Rattle.mq_cells.specs.declared.replays.CellCall.{CellCall}
use Rattle.mq_cells.proofs.PlaceLemmas.{from_place}
use Rattle.mq_cells.proofs.replays.replay.Goals as goal

pub loop-call-preserved : goal.loop-call-preserved
loop-call-preserved g c =
    let calls = c.args.calls.now in
    let at = c.loop-call.call-index in
    let call = c.call-item.result in
    let rest = drop (at + 1) calls in
    let input = g.C.Cells.input c.args.cells.now in
    let before = g.C.Cells.results c.loop-call.cells in
    let first : drop at calls ≡ call ∷ rest = sym (from_place calls at (at + 1) call refl c.loop-call-test.true) ∙ ap (λ (x : CellCall). x ∷ rest) (sym c.call-item.is) in
    let results : g.C.Cells.results c.make.new.cells ≡ results_by before call = c.in_ok-make.ensures.results in
    record {
      slots =
          (λ i. c.in_ok-make.ensures.slots i ++ (replayed input (results i) rest).0)
          ∙ ap (λ (from : CellInput). (c.loop-call.slots.items ++ slots_by from before call) ++ (replayed input (results_by before call) rest).0) c.loop-call.invariant.input
          ∙ append_assoc c.loop-call.slots.items (slots_by input before call) (replayed input (results_by before call) rest).0
          ∙ ap (λ (cs : List CellCall). c.loop-call.slots.items ++ (replayed input before cs).0) (sym first) ∙ c.loop-call.invariant.slots;
      results =
          ap (λ (r : Results). (replayed input r rest).1) results ∙ ap (λ (cs : List CellCall). (replayed input before cs).1) (sym first) ∙ c.loop-call.invariant.results;
      looks =
          ap (λ n. looks_after n rest) c.in_ok-make.ensures.looks ∙ ap (looks_after (g.C.Cells.looks c.loop-call.cells)) (sym first) ∙ c.loop-call.invariant.looks;
      input = c.make.ensures.same_input ∙ c.loop-call.invariant.input;
    }
