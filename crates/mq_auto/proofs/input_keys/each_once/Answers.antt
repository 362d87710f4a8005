use Rattle.std.proofs.Common.{sym, subst, ◌+◌, ◌∙◌}
use Rattle.mq_auto.proofs.ListedLemmas.{Listed, list_end, list_new, list_old, list_start}
use Rattle.mq_auto.proofs.input_keys.each_once.Goals as goal
use Rattle.mq_auto.proofs.input_keys.each_once.Goals.{then-not-has+in_ok-copy+in_ok-put+in_ok-copy-2+in_ok-push, else-not-has}

pub listing-init : goal.listing-init
listing-init c = list_start c.args.keys.now c.new-met.result c.new-once.result c.new-met.ensures c.new-once.ensures

pub listing-preserved : goal.listing-preserved
listing-preserved c =
    let keys = c.args.keys.now in
    let i = c.listing.key-index in
    let x = c.key-item.result in
    let met = c.if-not-has.met in
    elim c.if-not-has.branch [
      | then-not-has+in_ok-copy+in_ok-put+in_ok-copy-2+in_ok-push w ↦
          subst (Listed keys (i + 1) met) (sym (w.once-is ∙ w.in_ok-push.ensures.ok))
          (list_new keys c.listing.met met c.listing.once i x w.in_ok-copy.field-0 w.in_ok-copy-2.field-0 c.listing-test.true c.key-item.is (sym c.has.ensures ∙ w.if-not-has.true) w.in_ok-copy.ensures
          (w.met-is ∙ w.in_ok-put.ensures.ok) w.in_ok-copy-2.ensures c.listing.invariant)
      | else-not-has w ↦
          subst (λ m. Listed keys (i + 1) m c.if-not-has.once) (sym w.met-is)
          (subst (Listed keys (i + 1) c.listing.met) (sym w.once-is)
          (list_old keys c.listing.met c.listing.once i x c.listing-test.true c.key-item.is (sym c.has.ensures ∙ w.if-not-has.false) c.listing.invariant))
    ]

pub returns : goal.returns
returns c = list_end c.args.keys.now c.listing.met c.listing.once c.listing.key-index c.listing-test.false c.listing.invariant
