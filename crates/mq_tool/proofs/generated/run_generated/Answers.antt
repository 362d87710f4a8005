use Rattle.std.proofs.Common.{true, false, subst}
use Rattle.std.specs.Io.KnownBytes.{Appends}
use Rattle.mq_io.specs.Progress.{AppendsFront}
use Rattle.mq_tool.proofs.SummaryLemmas.{summary_done, summary_front}
use Rattle.mq_tool.proofs.generated.run_generated.Goals as goal

pub returns-in-Ok-write_all-clause-done : goal.returns-in-Ok-write_all-clause-done
returns-in-Ok-write_all-clause-done g c =
    let before = g.K.Sink.taken c.args.out.now in
    let after = g.K.Sink.taken c.write_all.new.sink in
    λ whole. summary_done c.args.number c.args.size c.in-Ok.summary before after c.in-Ok.ensures true c.if-summary.true
    (subst (Appends before after) c.deref.ensures.value c.in-Ok-write_all.ensures.whole)

pub returns-in-Ok-2-clause-done : goal.returns-in-Ok-2-clause-done
returns-in-Ok-2-clause-done g c =
    let before = g.K.Sink.taken c.args.out.now in
    let after = g.K.Sink.taken c.write_all.new.sink in
    λ whole. summary_done c.args.number c.args.size c.in-Ok.summary before after c.in-Ok.ensures false c.if-summary.false
    (subst (Appends before after) c.deref.ensures.value c.in-Ok-2.ensures.whole)

pub returns-in-Err-Failed-clause-cut_short : goal.returns-in-Err-Failed-clause-cut_short
returns-in-Err-Failed-clause-cut_short g c =
    let before = g.K.Sink.taken c.args.out.now in
    let after = g.K.Sink.taken c.write_all.new.sink in
    λ short. summary_front c.args.number c.args.size c.in-Ok.summary before after c.in-Ok.ensures
    (subst (AppendsFront before after) c.deref.ensures.value c.in-Err-Failed.ensures.front)

pub returns-clause-cut_short : goal.returns-clause-cut_short
returns-clause-cut_short g c =
    let before = g.K.Sink.taken c.args.out.now in
    let after = g.K.Sink.taken c.write_all.new.sink in
    λ short. summary_front c.args.number c.args.size c.in-Ok.summary before after c.in-Ok.ensures
    (subst (AppendsFront before after) c.deref.ensures.value c.in-Err-Memory.ensures.front)
