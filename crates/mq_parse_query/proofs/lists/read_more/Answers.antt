use Rattle.mq_ast.specs.Prelude.{EndsList, MoreOf, comma, more_comma, more_end}
use Rattle.mq_parse_words.specs.StepLemmas.{quit, one_more, cut_short, all_found}
use Rattle.mq_parse_query.proofs.ListLemmas.{list_no_next, list_no_more}
use Rattle.mq_parse_query.proofs.lists.read_more.Goals as goal

pub returns-in_err-part : goal.returns-in_err-part
returns-in_err-part g c =
    let a = g.P.Listed in
    let law = g.met.P.Listed in
    quit (MoreOf a.reads) c.args.t.now c.args.at c.from_residual.result c.in_err-part.field-0.0 c.from_residual.ensures.1 c.in_err-part.ensures (λ h. cut_short (MoreOf a.reads) a.stop (EndsList a.stop) c.args.t.now c.args.at c.loop-behind.to c.loop-behind.found c.loop-behind.invariant comma c.in-Some.behind c.in-Some.ensures (list_no_next a.reads a.stop law.one law.before_comma h))

pub loop-behind-preserved : goal.loop-behind-preserved
loop-behind-preserved g c =
    let a = g.P.Listed in
    let law = g.met.P.Listed in
    let d = c.in_ok-part.ensures in
    one_more (MoreOf a.reads) a.stop (EndsList a.stop) c.args.t.now c.args.at c.loop-behind.to c.loop-behind.found c.loop-behind.invariant comma c.in-Some.behind c.in-Some.ensures c.in_ok-part.part c.in_ok-part.next c.push.new.self (λ rest last ds. more_comma d.2 ds) (λ h. list_no_more a.reads a.stop law.one law.before_comma d.2 d.3 h) d.3 d.0 d.1 c.in_ok-push.ensures.ok

pub returns : goal.returns
returns g c =
    let a = g.P.Listed in
    all_found (MoreOf a.reads) a.stop (EndsList a.stop) c.args.t.now c.args.at c.loop-behind.to c.loop-behind.found c.loop-behind.invariant more_end (c.loop-behind.invariant.stops, c.in_default.ensures)
