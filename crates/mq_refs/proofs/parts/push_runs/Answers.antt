use Rattle.std.proofs.Common.{◌+◌, ◌≤◌, ◌++◌, ℕ, List, [], drop, length, map, slice_index_or, sym, ap, subst, ◌∙◌}
use Rattle.std.specs.List.{All}
use Rattle.std.proofs.lemmas.List.Elements.{All-get_or}
use Rattle.mq_dim_index.specs.PlaceRuns.{numbers_of}
use Rattle.mq_dim_index.specs.declared.place_runs.PlaceRun.{PlaceRun}
use Rattle.mq_ir.specs.declared.query.Look.{Look}
use Rattle.mq_ir.specs.Keys.{Tuple}
use Rattle.mq_ir.specs.Looks.{looks_at}
use Rattle.mq_refs.specs.declared.parts.LookPart.{LookPart}
use Rattle.mq_refs.specs.LookParts.{is_within, looks_in}
use Rattle.mq_refs.proofs.PartLemmas.{part_within, run_next}
use Rattle.mq_refs.proofs.parts.push_runs.Goals as goal

pub runs-init : goal.runs-init
runs-init g c =
    let set = g.K.CellKeys.set c.args.keys.now in
    let key_at : ℕ → Tuple = λ place. slice_index_or set place [] in
    record {
      looks =
          ap (λ (keys : List Tuple). looks_in set c.args.parts.now ++ looks_at c.args.measure keys)
          (ap (λ (runs : List PlaceRun). map key_at (numbers_of runs)) c.as_slice-run-items.ensures.value ∙ c.in_ok-found.ensures.keys []);
      within = c.requires;
    }

pub runs-preserved : goal.runs-preserved
runs-preserved g c =
    let set = g.K.CellKeys.set c.args.keys.now in
    let m = c.args.measure in
    let items = c.as_slice-run-items.result.now in
    let i = c.runs.run-index in
    let ends : PlaceRun → Type 0 = λ r. r.past ≤ length set in
    let rest : List Look = looks_at m (map (λ place. slice_index_or set place []) (numbers_of (drop (i + 1) items))) in
    let all : All ends items = subst (All ends) (sym c.as_slice-run-items.ensures.value) c.in_ok-found.ensures.below in
    record {
      looks =
          ap (λ (ps : List LookPart). looks_in set ps ++ rest) c.in_ok-push_run.ensures
          ∙ run_next set c.runs.parts m items i _ c.runs-test.true all
          ∙ c.runs.invariant.looks;
      within =
          subst (All (is_within (length set))) (sym c.in_ok-push_run.ensures)
          (part_within (length set) c.runs.parts _ (All-get_or ends items i _ c.runs-test.true all) c.runs.invariant.within);
    }
