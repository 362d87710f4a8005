use Rattle.std.proofs.Common.{◌≡◌, ◌++◌, drop}
use Rattle.std.specs.List.{flat_map}
use Rattle.mq_refs.specs.LookLists.{looks_by, looks_in_arm, looks_in_factor, looks_in_term}
use Rattle.mq_refs.proofs.walk.+walk.Given as goal

abbrev pub invariant-push_each-loop-e : goal.invariant-push_each-loop-e
invariant-push_each-loop-e g l = record {
  shown :
      g.V.LeafVisitor.shown l.visitor l.found ++ flat_map (looks_by (g.V.LeafVisitor.looks l.visitor)) (drop l.e-index l.es)
      ≡ g.V.LeafVisitor.shown l.visitor l.fn.found ++ flat_map (looks_by (g.V.LeafVisitor.looks l.visitor)) l.es;
  sound : g.V.LeafVisitor.is_sound l.visitor l.found;
}

abbrev pub invariant-push_terms-loop-term : goal.invariant-push_terms-loop-term
invariant-push_terms-loop-term g l = record {
  shown :
      g.V.LeafVisitor.shown l.visitor l.found ++ flat_map (looks_in_term (g.V.LeafVisitor.looks l.visitor)) (drop l.term-index l.terms)
      ≡ g.V.LeafVisitor.shown l.visitor l.fn.found ++ flat_map (looks_in_term (g.V.LeafVisitor.looks l.visitor)) l.terms;
  sound : g.V.LeafVisitor.is_sound l.visitor l.found;
}

abbrev pub invariant-push_factors-loop-factor : goal.invariant-push_factors-loop-factor
invariant-push_factors-loop-factor g l = record {
  shown :
      g.V.LeafVisitor.shown l.visitor l.found ++ flat_map (looks_in_factor (g.V.LeafVisitor.looks l.visitor)) (drop l.factor-index l.factors)
      ≡ g.V.LeafVisitor.shown l.visitor l.fn.found ++ flat_map (looks_in_factor (g.V.LeafVisitor.looks l.visitor)) l.factors;
  sound : g.V.LeafVisitor.is_sound l.visitor l.found;
}

abbrev pub invariant-push_arms-loop-arm : goal.invariant-push_arms-loop-arm
invariant-push_arms-loop-arm g l = record {
  shown :
      g.V.LeafVisitor.shown l.visitor l.found ++ flat_map (looks_in_arm (g.V.LeafVisitor.looks l.visitor)) (drop l.arm-index l.arms)
      ≡ g.V.LeafVisitor.shown l.visitor l.fn.found ++ flat_map (looks_in_arm (g.V.LeafVisitor.looks l.visitor)) l.arms;
  sound : g.V.LeafVisitor.is_sound l.visitor l.found;
}
