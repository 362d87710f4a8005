use Rattle.std.proofs.Common.{◌≡◌, drop, map}
use Rattle.mq_lexer.specs.Words.{folded}
use Rattle.mq_lexer.specs.Words.{reserved_of, spelled}
use Rattle.mq_lexer.proofs.keywords.reserved_word.Given as goal

abbrev pub invariant-loop-spelling : goal.invariant-loop-spelling
invariant-loop-spelling l = spelled (folded l.word) (map (λ w. (w.0.now, w.1)) (drop l.spelling-index l.spelling-items)) ≡ reserved_of l.word
