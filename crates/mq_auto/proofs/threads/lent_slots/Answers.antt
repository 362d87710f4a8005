use Rattle.std.proofs.Common.{◌≡◌, ap, subst, ◌∙◌}
use Rattle.std.specs.Prelude.{IfOk}
use Rattle.std.proofs.lemmas.Result.{IfOk-weaker}
use Rattle.rayon.proofs.ToStd.{slice-AllZip}
use Rattle.mq_cells.specs.IndexedStores.{IndexedStore, slots_in}
use Rattle.mq_auto.specs.declared.work.Work.{Work}
use Rattle.mq_auto.specs.Mapped.{IsFoundIn}
use Rattle.mq_auto.specs.Walks.{AreSlotsOver, model_in}
use Rattle.mq_auto.proofs.CrossLemmas.{shared}
use Rattle.mq_auto.proofs.MappingLemmas.{IsAnswer, collected, found_all}
use Rattle.mq_auto.proofs.threads.lent_slots.Goals as goal

pub map-requires-send-F : goal.map-requires-send-F
map-requires-send-F g c κs within = search shared depth 30 fits 20000

pub map-requires-sync-F : goal.map-requires-sync-F
map-requires-sync-F g c κs within = search shared depth 30 fits 20000

pub collect-requires-send-Self : goal.collect-requires-send-Self
collect-requires-send-Self g c κs within = search shared depth 30 fits 20000

pub returns : goal.returns
returns g c =
    let f = c.map.result.f in
    let places = c.args.round.now in
    let answer = c.in_ok-collect.field-0 in
    let slice = ap (λ it. it.base.slice.now) c.map.ensures.base ∙ ap (λ it. it.slice.now) c.with_min_len.ensures.base ∙ c.par_iter.ensures in
    let h = c.in_ok-collect.ensures in
    let Is = IsFoundIn f.1.now f.2.now in
    let each = slice-AllZip h.1.0 places (h.1.1 ∙ slice) (IsAnswer _ Is) h.0 h.1.2 in
    let found = IfOk-weaker answer _ _ (λ v is. found_all f.1.now f.2.now places v.items is) (collected _ Is (λ v. v.items) places h.0 answer each h.2) in
    subst (λ (work : Work). IfOk answer (λ v. AreSlotsOver (model_in work) work.shape.now (slots_in c.args.cells.now) places v.items)) (ap (λ f. f.1.now) c.map.ensures.f)
    (subst (λ (store : IndexedStore). IfOk answer (λ v. AreSlotsOver (model_in f.1.now) f.1.now.shape.now (slots_in store) places v.items)) (ap (λ f. f.2.now) c.map.ensures.f) found)
