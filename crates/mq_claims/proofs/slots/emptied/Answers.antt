use Rattle.std.proofs.Common.{◌+◌, Bool, false, Some, List, map, take, get_or, sym, ap, ◌∙◌, rules}
use Rattle.std.specs.Mem.Slots.{slots_len}
use lib.ListN.{get_elem?}
use Rattle.mq_claims.proofs.SlotLemmas.{not_none, next_taken, empty_to, full_from}
use Rattle.mq_claims.proofs.slots.emptied.Goals as goal

pub unreachable-requires : goal.unreachable-requires
unreachable-requires g c = let p = c.requires.pieces c.loop-i.i (search rules) in
    not_none _ c.loop-i.i p.0 p.1 (ap (λ (l : List _). get_elem? l c.loop-i.i) (sym c.loop-i.invariant.0) ∙ (c.in-None.ensures).value)

pub loop-i-preserved : goal.loop-i-preserved
loop-i-preserved g c = let old = c.loop-i.invariant in let others = c.take.ensures.others in (
  search rules,
  search rules,
  (λ k le lt. ap (λ (l : List Bool). get_or l k false) others.1
      ∙ full_from _ c.loop-i.i (slots_len c.loop-i.closed.slots) old.2 k le (search rules)),
  (λ k lt. ap (λ (l : List Bool). get_or l k false) others.1 ∙ empty_to _ c.loop-i.i old.3 k lt),
  ap (map Some) c.push_reserved.ensures.items
      ∙ next_taken c.loop-i.pieces.items _ c.loop-i.i c.in-Some.piece old.4 (c.in-Some.ensures).value
      ∙ ap (take (c.loop-i.i + 1)) (sym others.0),
  search rules,
  search rules,
)
