use Rattle.mq_binder.specs.ListWalk.{list_item, listed_name}
use Rattle.mq_bind_expr.specs.StepLemmas.{Behind}
use Rattle.mq_binder.proofs.lists.items_listed.Given as goal

abbrev pub invariant-sels : goal.invariant-sels
invariant-sels l = Behind (list_item l.scope l.at) listed_name l.taken l.sels l.sel-index l.items l.names
