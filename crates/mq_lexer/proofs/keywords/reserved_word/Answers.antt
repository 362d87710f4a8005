use Rattle.mq_lexer.proofs.WordLemmas.{row_enough}
use Rattle.mq_lexer.proofs.keywords.reserved_word.Goals as goal

pub loop-spelling-init : goal.loop-spelling-init
loop-spelling-init c = let r = c.row-spelling-items.ensures in let i = c.initial.ensures in rw r (row_enough c.args.word.now c.initial.result (rw c.as_bytes-letters.ensures.value at c.initial.ensures))
