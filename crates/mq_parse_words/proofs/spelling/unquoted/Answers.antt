use Rattle.std.proofs.Common.{sym, ◌∙◌, arith, false}
use Rattle.std.specs.String.{string_bytes}
use Rattle.std.proofs.lemmas.Bool.Decides.{nat_tests}
use Rattle.mq_ast.specs.Spelling.{unquoted}
use Rattle.mq_parse_words.proofs.SpellingLemmas.{cut_quote, piece_more, piece_last, piece_broken, piece_none, empty_of}
use Rattle.mq_parse_words.proofs.spelling.unquoted.Goals as goal

pub loop-piece-preserved : goal.loop-piece-preserved
loop-piece-preserved c =
    let u = rw c.in-Some-behind_quote.is at c.behind_quote.type_inv in
    (u.1.1.1.1.0.1, piece_more (string_bytes c.loop-piece.content) c.in-Some.piece.now c.loop-piece.rest.now c.in-Some.after.now c.in-Some-behind_quote.more.now (string_bytes c.put_piece.new.content) (unquoted false c.args.quoted.now) c.loop-piece.invariant.1 (cut_quote c.loop-piece.rest.now c.in-Some.piece.now c.in-Some.after.now c.in-Some.ensures) c.in-Some-behind_quote.ensures c.in_ok-put_piece.ensures)

pub returns : goal.returns
returns c = piece_none (string_bytes c.loop-piece.content) c.loop-piece.rest.now (unquoted false c.args.quoted.now) c.loop-piece.invariant.1 c.in_default.ensures

pub returns-then-is_empty : goal.returns-then-is_empty
returns-then-is_empty c = piece_last (string_bytes c.loop-piece.content) c.in-Some.piece.now c.loop-piece.rest.now c.in-Some.after.now (string_bytes c.push_str.new.self) (unquoted false c.args.quoted.now) c.loop-piece.invariant.1 (cut_quote c.loop-piece.rest.now c.in-Some.piece.now c.in-Some.after.now c.in-Some.ensures) (empty_of c.in-Some.after.now (sym c.is_empty.ensures ∙ c.if-is_empty.true)) c.in_ok-push_str.ensures.bytes

pub returns-in_default-behind_quote : goal.returns-in_default-behind_quote
returns-in_default-behind_quote c = piece_broken (string_bytes c.loop-piece.content) c.in-Some.piece.now c.loop-piece.rest.now c.in-Some.after.now (unquoted false c.args.quoted.now) c.loop-piece.invariant.1 (cut_quote c.loop-piece.rest.now c.in-Some.piece.now c.in-Some.after.now c.in-Some.ensures) c.in_default-behind_quote.ensures (let e = c.is_empty.ensures in let f = c.if-is_empty.false in grind (arith, nat_tests, e, f))
