use Rattle.std.proofs.Common.{arith}
use Rattle.mq_ast.specs.Prelude.{Sign, SomeOf}
use Rattle.mq_parse_words.specs.StepLemmas.{quit, till}
use Rattle.mq_parse_query.specs.Pieces.{Closed}
use Rattle.mq_parse_query.proofs.RuleLemmas.{closed_no_list, closed_no_close}
use Rattle.mq_parse_query.proofs.left.read_closed.Goals as goal

pub returns-in_err-found : goal.returns-in_err-found
returns-in_err-found g c =
    quit (Closed (Sign c.args.close) g.P.Listed.reads) c.args.t.now c.args.at c.from_residual.result c.in_err-found.field-0.0 c.from_residual.ensures.1 c.in_err-found.ensures (closed_no_list g.P.Listed.reads g.P.Listed.stop c.args.close c.requires)

pub returns-in_err-to : goal.returns-in_err-to
returns-in_err-to g c =
    quit (Closed (Sign c.args.close) g.P.Listed.reads) c.args.t.now c.args.at c.from_residual-in_err-to.result c.in_err-to.field-0.0 c.from_residual-in_err-to.ensures.1 c.in_err-to.ensures (closed_no_close g.P.Listed.reads g.P.Listed.stop c.args.close c.requires g.met.P.Listed.one g.met.P.Listed.before_comma c.in_ok-found.ensures.2 c.in_ok-found.ensures.3)

pub returns : goal.returns
returns g c =
    let f = c.in_ok-found.ensures in
    let e = c.in_ok-to.ensures in
    (omega (arith, f.0, e.0), e.1, till (SomeOf g.P.Listed.reads) e.2 f.2, tt)
