use Rattle.std.proofs.Common.{ap, arith}
use Rattle.mq_ast.specs.Prelude.{head_some, terminal_at}
use Rattle.mq_parse_query.specs.Pieces.{Ruling}
use Rattle.mq_parse_words.specs.StepLemmas.{quit, as_value}
use Rattle.mq_parse_query.proofs.HeadLemmas.{ruling_no_mode, ruling_no_auto, ruling_no_iterate, ruling_no_open}
use Rattle.mq_parse_query.proofs.heads.read_ruling.Goals as goal

pub returns-in_err-mode : goal.returns-in_err-mode
returns-in_err-mode c =
    quit Ruling c.args.t.now c.args.at c.from_residual.result c.in_err-mode.field-0.0 c.from_residual.ensures.1 c.in_err-mode.ensures (ruling_no_mode)

pub returns-in_err-auto : goal.returns-in_err-auto
returns-in_err-auto c =
    quit Ruling c.args.t.now c.args.at c.from_residual-in_err-auto.result c.in_err-auto.field-0.0 c.from_residual-in_err-auto.ensures.1 c.in_err-auto.ensures (ruling_no_auto c.in_ok-mode.ensures.2 c.in_ok-mode.ensures.3)

pub returns-in_err-iterate : goal.returns-in_err-iterate
returns-in_err-iterate c =
    quit Ruling c.args.t.now c.args.at c.from_residual-in_err-iterate.result c.in_err-iterate.field-0.0 c.from_residual-in_err-iterate.ensures.1 c.in_err-iterate.ensures (ruling_no_iterate c.in_ok-mode.ensures.2 c.in_ok-mode.ensures.3 c.in_ok-auto.ensures.2 c.in_ok-auto.ensures.3)

pub returns-in_err-pass_sign : goal.returns-in_err-pass_sign
returns-in_err-pass_sign c =
    quit Ruling c.args.t.now c.args.at c.from_residual-in_err-pass_sign.result c.in_err-pass_sign.field-0.0 c.from_residual-in_err-pass_sign.ensures.1 c.in_err-pass_sign.ensures (ruling_no_open c.in_ok-mode.ensures.2 c.in_ok-mode.ensures.3 c.in_ok-auto.ensures.2 c.in_ok-auto.ensures.3 c.in_ok-iterate.ensures.2 c.in_ok-iterate.ensures.3)

pub returns : goal.returns
returns c =
    let m = c.in_ok-mode.ensures in
    let o = c.in_ok-auto.ensures in
    let i = c.in_ok-iterate.ensures in
    (omega (arith, m.0, o.0, i.0), i.1, as_value Ruling c.in_ok-head_from.ensures (head_some m.2 o.2 i.2), ap terminal_at c.in_ok-pass_sign.ensures.2)
