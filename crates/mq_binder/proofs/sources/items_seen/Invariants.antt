use Rattle.mq_binder.specs.FromWalk.{item_seen, no_sources}
use Rattle.mq_binder.proofs.GatherLemmas.{Turned}
use Rattle.mq_binder.proofs.sources.items_seen.Given as goal

abbrev pub invariant-froms : goal.invariant-froms
invariant-froms l = Turned (item_seen l.catalog) no_sources l.froms l.item-index l.seen
