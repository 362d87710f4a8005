use Rattle.std.proofs.Common.{◌<◌, ◌≤◌, arith, length}
use Rattle.std.proofs.lemmas.List.{length-map}
use Rattle.mq_lexer.specs.Lexemes.{lexeme}
use Rattle.mq_lexer.proofs.StatementLemmas.{next_none, next_some}
use Rattle.mq_lexer.proofs.script.next_statement.Goals as goal

pub returns-then-from-end : goal.returns-then-from-end
returns-then-from-end c =
    next_none c.args.tokens.now c.args.at c.past_semicolons-from.result c.next_semicolon-end.result c.past_semicolons-from.ensures.value c.next_semicolon-end.ensures.value c.if-from-end.true

pub returns : goal.returns
returns c =
    let some : c.past_semicolons-from.result < c.next_semicolon-end.result = omega arith in
    let within : c.next_semicolon-end.result ≤ length c.args.tokens.now = omega arith in
    (omega arith, omega (arith, length-map c.args.tokens.now lexeme), next_some c.args.tokens.now _ c.args.at c.past_semicolons-from.result c.next_semicolon-end.result c.past_semicolons-from.ensures.value c.next_semicolon-end.ensures.value some within)
