use Rattle.std.proofs.Common.{◌≡◌, replicate, rules}
use Rattle.mq_levels.specs.declared.waiters.TheConstants.{NOBODY}
use Rattle.mq_levels.proofs.ChainLemmas.{closes, lists_are, none_chained}
use Rattle.mq_levels.proofs.waiters.Waiters.new.Goals as goal

pub invariant_of-result : goal.invariant_of-result
invariant_of-result c =
    let first : c.in_ok-vec.field-0.items ≡ replicate c.args.count NOBODY = c.in_ok-vec.ensures.items_if_clones_equal (λ y k. search rules) in
    let next : c.in_ok-vec-2.field-0.items ≡ replicate c.args.count NOBODY = c.in_ok-vec-2.ensures.items_if_clones_equal (λ y k. search rules) in
    rw (first, next) (closes _ _ _ (none_chained c.args.count c.requires))

pub returns : goal.returns
returns c =
    let first : c.in_ok-vec.field-0.items ≡ replicate c.args.count NOBODY = c.in_ok-vec.ensures.items_if_clones_equal (λ y k. search rules) in
    let next : c.in_ok-vec-2.field-0.items ≡ replicate c.args.count NOBODY = c.in_ok-vec-2.ensures.items_if_clones_equal (λ y k. search rules) in
    rw (first, next) (lists_are _ _ _ (none_chained c.args.count c.requires))
