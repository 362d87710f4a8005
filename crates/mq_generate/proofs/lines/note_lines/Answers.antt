use Rattle.std.proofs.Common.{arith}
use Rattle.mq_generate.proofs.NotesLemmas.{few_errors, few_faults, noted_feed, noted_other}
use Rattle.mq_generate.proofs.lines.note_lines.Goals as goal
use Rattle.mq_generate.proofs.lines.note_lines.Goals.{then-byte-eq-LINE_FEED, else-byte-eq-LINE_FEED}

pub with_line-notes-requires-clause-errors : goal.with_line-notes-requires-clause-errors
with_line-notes-requires-clause-errors c = few_errors c.args.front.now c.args.piece.now c.bytes.at c.bytes.notes c.bytes.invariant

pub with_line-notes-requires-clause-faults : goal.with_line-notes-requires-clause-faults
with_line-notes-requires-clause-faults c = few_faults c.args.front.now c.args.piece.now c.bytes.at c.bytes.notes c.bytes.invariant

pub bytes-preserved : goal.bytes-preserved
bytes-preserved c =
    elim c.if-byte-eq-LINE_FEED.branch [
      | then-byte-eq-LINE_FEED w ↦ rw (w.notes-is, w.with_line-notes.ensures) (noted_feed c.args.front.now c.args.piece.now c.bytes.at c.bytes.notes c.bytes.invariant (omega arith) w.if-byte-eq-LINE_FEED.true)
      | else-byte-eq-LINE_FEED w ↦ rw w.notes-is (noted_other c.args.front.now c.args.piece.now c.bytes.at c.bytes.notes c.bytes.invariant (omega arith) w.if-byte-eq-LINE_FEED.false)
    ]
