use Rattle.std.proofs.Common.{◌≡◌, ◌+◌, ◌-◌, [], ◌∷◌, ◌++◌, suc, sym, ap, ◌∙◌, arith}
use Rattle.std.specs.List.{range_with_len}
use Rattle.std.proofs.lemmas.List.{append-nil, append_assoc}
use Rattle.mq_dim_index.proofs.place_runs.add_places.Goals as goal

pub loop-place-preserved : goal.loop-place-preserved
loop-place-preserved c =
    let places = c.loop-place.places.items in
    let p = c.loop-place.place in
    let past = c.args.run.past in
    let rest = range_with_len (p + 1) (past - (p + 1)) in
    let e : suc (past - (p + 1)) ≡ past - p = omega arith in
    ap (λ ns. ns ++ rest) c.in_ok-push.ensures.items
    ∙ append_assoc places (p ∷ []) rest
    ∙ ap (λ n. places ++ range_with_len p n) e
    ∙ c.loop-place.invariant

pub returns : goal.returns
returns c =
    let places = c.loop-place.places.items in
    let p = c.loop-place.place in
    let e : 0 ≡ c.args.run.past - p = omega arith in
    sym (append-nil places) ∙ ap (λ n. places ++ range_with_len p n) e ∙ c.loop-place.invariant
