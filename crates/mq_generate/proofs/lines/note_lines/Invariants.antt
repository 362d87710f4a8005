use Rattle.mq_generate.specs.Notes.{IsNoted}
use Rattle.mq_generate.proofs.lines.note_lines.Given as goal

abbrev pub invariant-bytes : goal.invariant-bytes
invariant-bytes l = IsNoted l.front l.piece l.at l.notes
