use Rattle.mq_ast.specs.Prelude.{ManyOf, many_end}
use Rattle.mq_parse_words.specs.StepLemmas.{all_found}
use Rattle.mq_parse_query.proofs.ListLemmas.{Any, many_kept, turns_some, turns_none}
use Rattle.mq_parse_query.proofs.lists.read_many.Goals as goal

pub loop-found-preserved : goal.loop-found-preserved
loop-found-preserved g c =
    let p = g.P.Repeated in
    let law = g.met.P.Repeated in
    let d = turns_some p.reads p.stop p.end c.args.t.now c.loop-found.to c.in_ok-part.field-0 (c.in-Some.part, c.in-Some.next) c.in_ok-part.ensures c.in-Some.is in
    many_kept p.reads p.stop p.end law.one law.end_stops law.next_stops law.none_at_end c.args.t.now c.args.at c.loop-found.to c.in-Some.next c.loop-found.found c.put.new.found c.in-Some.part c.loop-found.invariant d.2 d.3 d.0 d.1 c.in_ok-put.ensures

pub returns : goal.returns
returns g c =
    let p = g.P.Repeated in
    all_found (ManyOf p.reads) Any p.end c.args.t.now c.args.at c.loop-found.to c.loop-found.found c.loop-found.invariant many_end (turns_none p.reads p.stop p.end c.args.t.now c.loop-found.to c.in_ok-part.field-0 c.in_ok-part.ensures c.in_default.is)
