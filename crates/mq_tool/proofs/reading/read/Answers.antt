use Rattle.std.proofs.lemmas.Result.{err_from_is_err_and}
use Rattle.mq_tool.proofs.FindLemmas.{found, not_found}
use Rattle.mq_tool.proofs.reading.read.Goals as goal

pub returns-in_err-parse : goal.returns-in_err-parse
returns-in_err-parse c =
    let p = err_from_is_err_and c.from_residual.result c.from_residual.ensures.1 in
    rw (p.1, p.2) (not_found c.args.tokens.now c.in_err-parse.field-0.0 c.in_err-parse.ensures.parses)

pub returns : goal.returns
returns c = rw c.in_ok-new.ensures (found c.args.tokens.now c.in_ok-parse.field-0 c.in_ok-parse.ensures.parses)
