use Rattle.std.proofs.Common.{arith}
use Rattle.mq_ast.specs.Prelude.{SomeOf, some_of}
use Rattle.mq_parse_words.specs.StepLemmas.{quit, as_value}
use Rattle.mq_parse_query.proofs.ListLemmas.{list_no_first, list_no_others}
use Rattle.mq_parse_query.proofs.lists.read_list.Goals as goal

pub returns-in_err-first : goal.returns-in_err-first
returns-in_err-first g c =
    let a = g.P.Listed in
    let law = g.met.P.Listed in
    quit (SomeOf a.reads) c.args.t.now c.args.at c.from_residual.result c.in_err-first.field-0.0 c.from_residual.ensures.1 c.in_err-first.ensures (list_no_first a.reads a.stop law.one law.before_comma)

pub returns-in_err-all : goal.returns-in_err-all
returns-in_err-all g c =
    let a = g.P.Listed in
    let law = g.met.P.Listed in
    quit (SomeOf a.reads) c.args.t.now c.args.at c.from_residual-in_err-all.result c.in_err-all.field-0.0 c.from_residual-in_err-all.ensures.1 c.in_err-all.ensures (list_no_others a.reads a.stop law.one law.before_comma c.in_ok-first.ensures.2 c.in_ok-first.ensures.3)

pub returns : goal.returns
returns g c =
    let a = g.P.Listed in
    let f = c.in_ok-first.ensures in
    let o = c.in_ok-all.ensures in
    (omega (arith, f.0, o.0), o.1, as_value (SomeOf a.reads) c.in_ok-put_first.ensures.ok (some_of f.2 o.2), o.3)
