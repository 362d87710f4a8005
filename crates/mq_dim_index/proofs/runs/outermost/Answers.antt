use Rattle.std.proofs.Common.{◌≡◌, ◌≢◌, true, false, Equal, get_or, sym, ap, ◌∙◌, arith}
use Rattle.std.specs.Ordering.{is_eq}
use Rattle.std.proofs.lemmas.List.{get_or_read}
use Rattle.mq_values.specs.declared.value.Value.{Value}
use Rattle.mq_dim_index.specs.Runs.{cmp_by_worth}
use Rattle.mq_dim_index.proofs.BoundLemmas.{now_furthest, stands_among, still_furthest}
use Rattle.mq_dim_index.proofs.runs.outermost.Goals as goal
use Rattle.mq_dim_index.proofs.runs.outermost.Goals.{then-stands_on, else-stands_on}

pub loop-i-preserved : goal.loop-i-preserved
loop-i-preserved c =
    let ws = c.args.ws.now in
    let side = c.args.side in
    let found = c.loop-i.found in
    let i = c.loop-i.i in
    let x = c.index-ws-i.result in
    let y = c.index-ws-found.result in
    let before = c.loop-i.invariant.furthest in
    let n : side ≢ Equal = λ e. let h : true ≡ false = sym (ap is_eq e) ∙ sym c.is_eq.ensures ∙ c.if-is_eq.false in cc in
    let here : (d : Value) → cmp_by_worth x y ≡ cmp_by_worth (get_or ws i d) (get_or ws found d) =
    λ d. (λ j. cmp_by_worth (get_or_read ws i x (omega arith) c.index-ws-i.is d j) (get_or_read ws found y (omega arith) c.index-ws-found.is d j)) in
    elim c.if-stands_on.branch [
      | then-stands_on w ↦ record {
        within = omega arith;
        furthest = rw w.found-is (now_furthest side n ws found i before (λ d. sym (here d) ∙ c.stands_on.ensures.0 w.if-stands_on.true));
      }
      | else-stands_on w ↦ record {
        within = omega arith;
        furthest = rw w.found-is
            (still_furthest side n ws found i before (λ d e. let h : true ≡ false = sym (c.stands_on.ensures.1 (here d ∙ e)) ∙ w.if-stands_on.false in cc));
      }
    ]

pub returns : goal.returns
returns c =
    let ws = c.args.ws.now in
    let side = c.args.side in
    λ v among. stands_among side v c.index-ws-found-2.result ws among
    (λ k d l e. c.loop-i.invariant.furthest k d (omega arith) (ap (cmp_by_worth (get_or ws k d)) (sym (get_or_read ws c.loop-i.found c.index-ws-found-2.result (omega arith) c.index-ws-found-2.is d)) ∙ e))
