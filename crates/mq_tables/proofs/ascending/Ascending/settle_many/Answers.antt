use Rattle.std.proofs.Common.{◌∙◌}
use Rattle.mq_tables.proofs.StandingLemmas.{all_stand}
use Rattle.mq_tables.proofs.ascending.Ascending.settle_many.Goals as goal

pub returns-then-len : goal.returns-then-len
returns-then-len c = all_stand c.settle.new.gone.keys c.settle.new.keys.items c.settle.ensures.none ∙ c.settle.ensures.left ∙ c.self.view_is
