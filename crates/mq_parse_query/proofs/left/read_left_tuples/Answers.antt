use Rattle.std.proofs.Common.{arith}
use Rattle.mq_parse_words.specs.StepLemmas.{quit, as_value}
use Rattle.mq_ast.specs.Laws.{tuples_no_plain}
use Rattle.mq_parse_query.specs.Pieces.{LeftTuples}
use Rattle.mq_parse_query.proofs.RuleLemmas.{left_no_names, left_no_in, left_no_list, left_no_close, tuples_left, any_closed}
use Rattle.mq_parse_query.proofs.left.read_left_tuples.Goals as goal

pub read_closed-requires : goal.read_closed-requires
read_closed-requires c = any_closed

pub read_for_list-requires-clause-closes : goal.read_for_list-requires-clause-closes
read_for_list-requires-clause-closes c = any_closed

pub read_for_list-requires-clause-no_query : goal.read_for_list-requires-clause-no_query
read_for_list-requires-clause-no_query c = λ xs us vs d. tuples_no_plain d

pub returns-in_err-dims : goal.returns-in_err-dims
returns-in_err-dims c =
    quit LeftTuples c.args.t.now c.args.at c.from_residual.result c.in_err-dims.field-0.0 c.from_residual.ensures.1 c.in_err-dims.ensures (left_no_names)

pub returns-in_err-behind : goal.returns-in_err-behind
returns-in_err-behind c =
    quit LeftTuples c.args.t.now c.args.at c.from_residual-in_err-behind.result c.in_err-behind.field-0.0 c.from_residual-in_err-behind.ensures.1 c.in_err-behind.ensures (left_no_in c.in_ok-dims.ensures.2)

pub returns-in_err-list : goal.returns-in_err-list
returns-in_err-list c =
    quit LeftTuples c.args.t.now c.args.at c.from_residual-in_err-list.result c.in_err-list.field-0.0 c.from_residual-in_err-list.ensures.1 c.in_err-list.ensures (left_no_list c.in_ok-dims.ensures.2 c.in_ok-behind.ensures.2)

pub returns-in_err-to : goal.returns-in_err-to
returns-in_err-to c =
    quit LeftTuples c.args.t.now c.args.at c.from_residual-in_err-to.result c.in_err-to.field-0.0 c.from_residual-in_err-to.ensures.1 c.in_err-to.ensures (left_no_close c.in_ok-dims.ensures.2 c.in_ok-behind.ensures.2 c.in_ok-list.ensures.2)

pub returns : goal.returns
returns c =
    let n = c.in_ok-dims.ensures in
    let b = c.in_ok-behind.ensures in
    let l = c.in_ok-list.ensures in
    let e = c.in_ok-to.ensures in
    (omega (arith, n.0, b.0, l.0, e.0), e.1, as_value LeftTuples c.in_ok-tuples_of.ensures (tuples_left n.2 b.2 l.2 e.2), tt)
