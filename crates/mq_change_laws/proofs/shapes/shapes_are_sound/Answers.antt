use Rattle.mq_change_laws.proofs.GrowthLemmas.{shape_is_sound}
use Rattle.mq_change_laws.proofs.shapes.shapes_are_sound.Goals as goal

pub returns : goal.returns
returns c = shape_is_sound
