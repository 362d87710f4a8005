use Rattle.std.specs.List.{zip}
use Rattle.mq_refs.specs.Sites.{place_tested, site_of}
use Rattle.mq_scalar.specs.WalkLaws.{Walked}
use Rattle.mq_refs.proofs.names.tests_named.Given as goal

abbrev pub invariant-loop-i : goal.invariant-loop-i
invariant-loop-i l = Walked (place_tested (site_of l.at)) (zip l.kinds l.places) l.i l.tests
