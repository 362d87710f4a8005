use Rattle.std.proofs.Common.{◌≡◌, ◌∷◌, [], ◌++◌, ◌≤◌, ◌+◌, List, sym, subst, ap, ◌∙◌, arith}
use Rattle.mq_dim_index.specs.PlaceRuns.{AreRuns, numbers_of}
use Rattle.mq_dim_index.specs.declared.place_runs.PlaceRun.{PlaceRun}
use Rattle.mq_dim_index.proofs.PlaceRunLemmas.{alone, apart_alone, apart_joined, last_filled, numbers_joined}
use Rattle.mq_dim_index.proofs.place_runs.push_place.Goals as goal

pub returns-in_ok-push-in-Some-clause-numbers : goal.returns-in_ok-push-in-Some-clause-numbers
returns-in_ok-push-in-Some-clause-numbers c =
    let front = c.pop.new.self.items in
    let last = c.in-Some.last in
    let p = c.args.place in
    let apart : AreRuns 0 p (front ++ last ∷ []) = subst (AreRuns 0 p) c.in-Some.ensures.items c.requires.apart in
    ap numbers_of c.in_ok-push-in-Some.ensures.items
    ∙ numbers_joined front last p c.if-last-place.true (last_filled front last 0 p apart)
    ∙ ap (λ (runs : List PlaceRun). numbers_of runs ++ p ∷ []) (sym c.in-Some.ensures.items)

pub returns-in_ok-push-in-Some-clause-apart : goal.returns-in_ok-push-in-Some-clause-apart
returns-in_ok-push-in-Some-clause-apart c =
    let front = c.pop.new.self.items in
    let last = c.in-Some.last in
    let p = c.args.place in
    let apart : AreRuns 0 p (front ++ last ∷ []) = subst (AreRuns 0 p) c.in-Some.ensures.items c.requires.apart in
    subst (AreRuns 0 (p + 1)) (sym c.in_ok-push-in-Some.ensures.items) (apart_joined front last 0 p p apart c.if-last-place.true)

pub returns-in_ok-push-in-Some-2-2-clause-apart : goal.returns-in_ok-push-in-Some-2-2-clause-apart
returns-in_ok-push-in-Some-2-2-clause-apart c =
    let p = c.args.place in
    let le : p ≤ p = omega arith in
    let back : c.push-in-Some-2.new.self.items ≡ c.args.runs.now.items = c.in_ok-push-in-Some-2.ensures.items ∙ sym c.in-Some.ensures.items in
    let all : c.push-in-Some-2-2.new.self.items ≡ c.args.runs.now.items ++ alone p ∷ [] =
    c.in_ok-push-in-Some-2-2.ensures.items ∙ ap (λ (runs : List PlaceRun). runs ++ alone p ∷ []) back in
    subst (AreRuns 0 (p + 1)) (sym all) (apart_alone c.args.runs.now.items 0 p p c.requires.apart le)
