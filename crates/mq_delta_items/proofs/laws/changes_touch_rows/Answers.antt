use Rattle.mq_delta_items.specs.TouchLaws.{changes_touch}
use Rattle.mq_delta_items.proofs.laws.changes_touch_rows.Goals as goal

pub returns : goal.returns
returns c = changes_touch
