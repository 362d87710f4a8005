use Rattle.mq_ir.proofs.LeftLemmas.{last_turns_fastest}
use Rattle.mq_ir.proofs.laws_of_left_sides.last_list_turns_fastest.Goals as goal

pub returns : goal.returns
returns c = λ lists last. last_turns_fastest last lists
