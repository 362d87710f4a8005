use Rattle.std.proofs.Common.{◌≡◌, ℕ, List, inr, subst}
use Rattle.std.specs.Io.KnownBytes.{Appends}
use Rattle.std.specs.Option.{IfSome}
use Rattle.mq_io.specs.Progress.{AppendsFront}
use Rattle.mq_ir.specs.Lines.{Line, text_of}
use Rattle.mq_tool.specs.Loads.{FileMap}
use Rattle.mq_tool.specs.Script.{IsOutput, StopsAtLoad, status_of}
use Rattle.mq_tool.proofs.RunLemmas.{if_told, told_whole}
use Rattle.mq_tool.proofs.scripts.run_script.Goals as goal

pub returns-in-Ok-clause-done : goal.returns-in-Ok-clause-done
returns-in-Ok-clause-done g c =
    let before = g.K.Sink.taken c.args.out.now in
    let after = g.K.Sink.taken c.run_bytes.new.out in
    let told = g.F.Shelf.files c.args.files.now in
    let R : List ℕ → FileMap → Type 0 =
    λ b files. (lines : List Line) × IsOutput files b lines × Appends before after (text_of lines) × (c.run_bytes.result ≡ status_of lines) in
    λ whole. told_whole (λ b. IfSome told (R b)) (g.S.Source.left c.args.script.now) (g.S.Source.left c.read_all.new.source) c.in-Ok.bytes.items c.in-Ok.ensures.whole c.in-Ok.ensures.end
    (subst (λ b. IfSome told (R b)) c.deref.ensures.value (if_told (R c.deref.result.now) told (c.run_bytes.ensures.done whole)))

pub returns-in-Ok-clause-cut_short : goal.returns-in-Ok-clause-cut_short
returns-in-Ok-clause-cut_short g c =
    let before = g.K.Sink.taken c.args.out.now in
    let after = g.K.Sink.taken c.run_bytes.new.out in
    let told = g.F.Shelf.files c.args.files.now in
    let R : List ℕ → FileMap → Type 0 = λ b files. (lines : List Line) → IsOutput files b lines → AppendsFront before after (text_of lines) in
    λ short. told_whole (λ b. IfSome told (R b)) (g.S.Source.left c.args.script.now) (g.S.Source.left c.read_all.new.source) c.in-Ok.bytes.items c.in-Ok.ensures.whole c.in-Ok.ensures.end
    (subst (λ b. IfSome told (R b)) c.deref.ensures.value (if_told (R c.deref.result.now) told (c.run_bytes.ensures.cut_short short)))

pub returns-in-Ok-clause-read_failed : goal.returns-in-Ok-clause-read_failed
returns-in-Ok-clause-read_failed g c =
    let before = g.K.Sink.taken c.args.out.now in
    let after = g.K.Sink.taken c.run_bytes.new.out in
    let told = g.F.Shelf.files c.args.files.now in
    let R : List ℕ → FileMap → Type 0 = λ b files. StopsAtLoad files b before after in
    λ failed. inr (
      c.run_bytes.ensures.read_failed failed,
      told_whole (λ b. IfSome told (R b)) (g.S.Source.left c.args.script.now) (g.S.Source.left c.read_all.new.source) c.in-Ok.bytes.items c.in-Ok.ensures.whole c.in-Ok.ensures.end
          (subst (λ b. IfSome told (R b)) c.deref.ensures.value (if_told (R c.deref.result.now) told (c.run_bytes.ensures.stopped failed))),
    )
