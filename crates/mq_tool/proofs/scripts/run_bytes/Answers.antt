use Rattle.std.proofs.Common.{◌≡◌, ℕ, true, false, List, Some, Err, ap, subst}
use Rattle.std.specs.Io.KnownBytes.{Appends}
use Rattle.mq_io.specs.Progress.{AppendsFront}
use Rattle.mq_lexer.specs.Statements.{statements}
use Rattle.mq_lexer.specs.Tokens.{tokens}
use Rattle.mq_ir.specs.Lines.{Line, text_of}
use Rattle.mq_tool.specs.Loads.{FileMap}
use Rattle.mq_tool.specs.Script.{IsOutput, StopsAtLoad, status_of}
use Rattle.mq_tool.specs.Steps.{WritesAll}
use Rattle.mq_tool.proofs.RunLemmas.{status_by}
use Rattle.mq_tool.proofs.scripts.run_bytes.Goals as goal

pub returns-in-Ok-true-clause-done : goal.returns-in-Ok-true-clause-done
returns-in-Ok-true-clause-done g c =
    let before = g.K.Sink.taken c.args.out.now in
    let after = g.K.Sink.taken c.run_text.new.out in
    let written : (files : FileMap) → g.F.Shelf.files c.args.files.now ≡ Some files → WritesAll files (statements (tokens c.in-Ok.text.now)) before after true =
    rw c.in-Ok-true.field-0-test at c.in-Ok-true.ensures.done in
    λ whole files told. subst (λ (t : List ℕ). (lines : List Line) × IsOutput files t lines × Appends before after (text_of lines) × (1 ≡ status_of lines)) c.in-Ok.ensures.cases.0
    (status_by files (statements (tokens c.in-Ok.text.now)) before after true (written files told))

pub returns-in-Ok-false-clause-done : goal.returns-in-Ok-false-clause-done
returns-in-Ok-false-clause-done g c =
    let before = g.K.Sink.taken c.args.out.now in
    let after = g.K.Sink.taken c.run_text.new.out in
    let written : (files : FileMap) → g.F.Shelf.files c.args.files.now ≡ Some files → WritesAll files (statements (tokens c.in-Ok.text.now)) before after false =
    rw c.in-Ok-false.field-0-test at c.in-Ok-false.ensures.done in
    λ whole files told. subst (λ (t : List ℕ). (lines : List Line) × IsOutput files t lines × Appends before after (text_of lines) × (0 ≡ status_of lines)) c.in-Ok.ensures.cases.0
    (status_by files (statements (tokens c.in-Ok.text.now)) before after false (written files told))

pub returns-in-Err-ReadFailed-clause-stopped : goal.returns-in-Err-ReadFailed-clause-stopped
returns-in-Err-ReadFailed-clause-stopped g c =
    let before = g.K.Sink.taken c.args.out.now in
    let after = g.K.Sink.taken c.run_text.new.out in
    λ failed. subst (λ (t : List ℕ). (files : FileMap) → g.F.Shelf.files c.args.files.now ≡ Some files → StopsAtLoad files t before after) c.in-Ok.ensures.cases.0
    (c.in-Err-ReadFailed.ensures.stopped (ap Err c.in-Err-ReadFailed.field-0-is))

pub returns-in-Err-WriteFailed-clause-cut_short : goal.returns-in-Err-WriteFailed-clause-cut_short
returns-in-Err-WriteFailed-clause-cut_short g c =
    let before = g.K.Sink.taken c.args.out.now in
    let after = g.K.Sink.taken c.run_text.new.out in
    λ short. subst (λ (t : List ℕ). (files : FileMap) → g.F.Shelf.files c.args.files.now ≡ Some files → (lines : List Line) → IsOutput files t lines → AppendsFront before after (text_of lines))
    c.in-Ok.ensures.cases.0 c.in-Err-WriteFailed.ensures.cut_short

pub returns-in-Err-Memory-clause-cut_short : goal.returns-in-Err-Memory-clause-cut_short
returns-in-Err-Memory-clause-cut_short g c =
    let before = g.K.Sink.taken c.args.out.now in
    let after = g.K.Sink.taken c.run_text.new.out in
    λ short. subst (λ (t : List ℕ). (files : FileMap) → g.F.Shelf.files c.args.files.now ≡ Some files → (lines : List Line) → IsOutput files t lines → AppendsFront before after (text_of lines))
    c.in-Ok.ensures.cases.0 c.in-Err-Memory.ensures.cut_short
