use Rattle.std.proofs.Common.{◌≡◌, ◌++◌, Option, length, map, arith, sym, ap, ◌∙◌}
use Rattle.std.proofs.lemmas.Bool.Decides.{nat_tests}
use Rattle.std.specs.List.{cons_option}
use Rattle.std.specs.Option.{option_map}
use Rattle.mq_lexer.specs.Lexemes.{Lexeme, lexeme}
use Rattle.mq_lexer.specs.Rests.{tokens_left}
use Rattle.mq_lexer.proofs.ScanLemmas.{none_left}
use Rattle.mq_lexer.proofs.StatementLemmas.{part_closed, part_last}
use Rattle.mq_lexer.proofs.scanner.next_part.Goals as goal

pub returns-then-is_semicolon-clause-part : goal.returns-then-is_semicolon-clause-part
returns-then-is_semicolon-clause-part c =
    let ts = map lexeme c.loop-left.found.items in
    let behind = tokens_left c.first_token.result.1 in
    part_closed (tokens_left c.args.rest) ts behind (lexeme c.in-Some.token)
    (c.loop-left.invariant.0 ∙ ap (λ l. ts ++ l) (c.first_token.ensures.tokens ∙ ap (λ (o : Option Lexeme). cons_option o behind) (ap (option_map lexeme) c.in-Some.is)))
    c.loop-left.invariant.1 (sym c.is_semicolon.ensures ∙ c.if-is_semicolon.true)

pub returns-clause-part : goal.returns-clause-part
returns-clause-part c =
    let left = c.loop-left.left in
    let empty : length left.text.now ≡ 0 = grind (arith, nat_tests) in
    part_last (tokens_left c.args.rest) (map lexeme c.loop-left.found.items) (tokens_left left) c.loop-left.invariant.0 (none_left left.line left.text.now empty) c.loop-left.invariant.1
