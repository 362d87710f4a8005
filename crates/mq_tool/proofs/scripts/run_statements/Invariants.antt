use Rattle.std.proofs.Common.{◌≡◌, ◌≤◌, Some, map, drop}
use Rattle.mq_lexer.specs.Statements as lexer
use Rattle.mq_tool.specs.Loads.{FileMap}
use Rattle.mq_tool.proofs.RunLemmas.{RunSoFar}
use Rattle.mq_tool.proofs.scripts.run_statements.Given as goal

abbrev pub invariant-statements : goal.invariant-statements
invariant-statements g l =
    ((files : FileMap) → g.F.Shelf.files l.initial.files ≡ Some files
    → RunSoFar files (g.K.Sink.taken l.initial.out) (g.K.Sink.taken l.out) l.engine l.flaw
    (map lexer.statement l.statements) (drop l.statement-index (map lexer.statement l.statements)))
    × (g.F.Shelf.files l.files ≡ g.F.Shelf.files l.initial.files)
    × (g.F.Shelf.faults l.initial.files ≤ g.F.Shelf.faults l.files)
    × (g.K.Sink.faults l.initial.out ≤ g.K.Sink.faults l.out)
