use Rattle.mq_binder.proofs.PlacedLemmas.{placing_next, placing_start}
use Rattle.mq_binder.proofs.changes.row_with.Goals as goal

pub found-init : goal.found-init
found-init c = placing_start c.args.schema.now c.args.numbers.now c.in_ok-row.row.items c.in_ok-row.ensures

pub found-preserved : goal.found-preserved
found-preserved c =
    placing_next c.args.schema.now c.args.numbers.now c.found.place c.found.yielded c.found.row.items c.put_found.new.row.items c.in-Some.f
    c.put_found.ensures c.found.invariant
