use Rattle.std.proofs.Common.{◌≡◌, ◌≤◌, IsUtf8, Some, length}
use Rattle.mq_lexer.specs.Rests.{tokens_left}
use Rattle.mq_lexer.specs.Statements.{statements}
use Rattle.mq_lexer.specs.Tokens.{tokens}
use Rattle.mq_tool.specs.Loads.{FileMap}
use Rattle.mq_tool.proofs.RunLemmas.{RunSoFar}
use Rattle.mq_tool.proofs.scripts.run_text.Given as goal

abbrev pub invariant-loop-rest : goal.invariant-loop-rest
invariant-loop-rest g l =
    ((files : FileMap) → g.F.Shelf.files l.initial.files ≡ Some files
    → RunSoFar files (g.K.Sink.taken l.initial.out) (g.K.Sink.taken l.out) l.engine l.flaw (statements (tokens l.text)) (statements (tokens_left l.rest)))
    × (g.F.Shelf.files l.files ≡ g.F.Shelf.files l.initial.files)
    × (g.F.Shelf.faults l.initial.files ≤ g.F.Shelf.faults l.files)
    × (g.K.Sink.faults l.initial.out ≤ g.K.Sink.faults l.out)
    × IsUtf8 l.rest.text.now

abbrev pub decreases-loop-rest : goal.decreases-loop-rest
decreases-loop-rest g l = length l.rest.text.now
