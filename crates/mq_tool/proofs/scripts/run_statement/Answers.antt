use Rattle.std.proofs.Common.{ℕ, List, subst}
use Rattle.mq_io.specs.Progress.{AppendsFront}
use Rattle.mq_lexer.specs.Statements.{statement}
use Rattle.mq_tool.specs.Steps.{Does}
use Rattle.mq_tool.proofs.StepLemmas.{cut_at}
use Rattle.mq_tool.proofs.scripts.run_statement.Goals as goal

pub returns-in-Err-Failed-write_all-clause-cut_short : goal.returns-in-Err-Failed-write_all-clause-cut_short
returns-in-Err-Failed-write_all-clause-cut_short g c =
    let s = statement c.args.statement.now in
    let old = c.args.engine.now in
    let told = g.F.Shelf.files c.args.files.now in
    let before = g.K.Sink.taken c.args.out.now in
    let after = g.K.Sink.taken c.write_all.new.sink in
    let text = c.do_statement.new.out.items in
    cut_at s told old c.do_statement.new.engine before after text c.in-Ok.flaw
    (subst (λ (lines : List ℕ). Does s told old c.do_statement.new.engine lines text c.in-Ok.flaw) c.clear.ensures.items c.in-Ok.ensures.done)
    (subst (AppendsFront before after) c.deref.ensures.value c.in-Err-Failed-write_all.ensures.front)

pub returns-in-Err-Memory-write_all-clause-cut_short : goal.returns-in-Err-Memory-write_all-clause-cut_short
returns-in-Err-Memory-write_all-clause-cut_short g c =
    let s = statement c.args.statement.now in
    let old = c.args.engine.now in
    let told = g.F.Shelf.files c.args.files.now in
    let before = g.K.Sink.taken c.args.out.now in
    let after = g.K.Sink.taken c.write_all.new.sink in
    let text = c.do_statement.new.out.items in
    cut_at s told old c.do_statement.new.engine before after text c.in-Ok.flaw
    (subst (λ (lines : List ℕ). Does s told old c.do_statement.new.engine lines text c.in-Ok.flaw) c.clear.ensures.items c.in-Ok.ensures.done)
    (subst (AppendsFront before after) c.deref.ensures.value c.in-Err-Memory-write_all.ensures.front)
