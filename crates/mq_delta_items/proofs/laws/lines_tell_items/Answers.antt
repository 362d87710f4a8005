use Rattle.mq_delta_items.specs.LineLaws.{lines_tell}
use Rattle.mq_delta_items.proofs.laws.lines_tell_items.Goals as goal

pub returns : goal.returns
returns c = lines_tell
