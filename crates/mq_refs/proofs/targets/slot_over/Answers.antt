use Rattle.std.proofs.Common.{rules, ◌≡◌, Some}
use Rattle.std.proofs.lemmas.Result.{IfOk-weaker}
use Rattle.mq_ir.specs.Looks.{looks_of}
use Rattle.mq_ir.specs.Unfolding.{model_of}
use Rattle.mq_cells.specs.Stores.{slot_at}
use Rattle.mq_refs.specs.Sites.{site_with}
use Rattle.mq_refs.specs.Sightings.{seen_if_known}
use Rattle.mq_refs.proofs.SlotLemmas.{slot_of_seen, steady_seen}
use Rattle.mq_refs.proofs.targets.slot_over.Goals as goal

pub new-requires : goal.new-requires
new-requires g c =
    let slots = slot_at (g.C.Cells.input c.args.cells.now) (g.C.Cells.results c.args.cells.now) in
    let seen : Some c.in-Some.sightings ≡ seen_if_known slots c.as_slice.result.now = search rules in
    steady_seen slots c.as_slice.result.now c.in-Some.sightings seen

pub returns-in-Some-clause-exact : goal.returns-in-Some-clause-exact
returns-in-Some-clause-exact g c =
    let slots = slot_at (g.C.Cells.input c.args.cells.now) (g.C.Cells.results c.args.cells.now) in
    let model = model_of c.args.m.now in
    let set = g.K.CellKeys.set c.args.keys.now in
    let base = g.K.CellKeys.base c.args.keys.now in
    let site = site_with model c.args.turn c.args.target.now set in
    let same : c.as_slice.result.now ≡ looks_of site c.args.r.now.right = search rules in
    let seen : Some c.new.result ≡ seen_if_known slots c.as_slice.result.now = search rules in
    IfOk-weaker c.slot_seen.result _ _
    (λ slot is. slot_of_seen model set base c.args.turn c.args.r.now c.args.target.now slots c.as_slice.result.now c.new.result slot
    (c.reads_are_among_looks.ensures site base c.args.r.now.right) same seen is) c.slot_seen.ensures
