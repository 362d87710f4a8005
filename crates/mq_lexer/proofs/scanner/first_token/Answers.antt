use Rattle.std.proofs.Common.{◌≡◌, arith, sym, ap, ◌∙◌, subst}
use Rattle.std.specs.List.{cons_option, filter_map, fold}
use Rattle.mq_lexer.specs.Pieces.{front}
use Rattle.mq_lexer.specs.Tokens.{line_after, pieces_from, token_at, token_of}
use Rattle.mq_lexer.proofs.CutLemmas.{Cut, front-cut}
use Rattle.mq_lexer.proofs.ScanLemmas.{first_left}
use Rattle.mq_lexer.proofs.scanner.first_token.Goals as goal
use Rattle.mq_lexer.proofs.scanner.first_token.Goals.{After-front-piece}

-- what is cut off is what stands at the front
is_front : (c : After-front-piece) → c.front-piece.result ≡ front c.args.rest.text.now
is_front c = c.front-piece.ensures ∙ ap front c.as_bytes.ensures.value

cut_of : (c : After-front-piece) → Cut c.args.rest.text.now c.front-piece.result.len
cut_of c = subst (λ f. Cut c.args.rest.text.now f.len) (sym (is_front c)) (front-cut c.args.rest.text.now c.requires.some)

pub split_at-requires : goal.split_at-requires
split_at-requires c = (cut_of (goal.at.split_at-requires c).After-front-piece).splits c.requires.utf8

pub returns-in-Some-clause-tokens : goal.returns-in-Some-clause-tokens
returns-in-Some-clause-tokens c =
    let taken = c.split_at.result.0.now in
    let line = c.args.rest.line in
    rw c.class_of.ensures
    (first_left line c.line_behind.result c.args.rest.text.now taken c.split_at.result.1.now c.front-piece.result c.requires.some
    (is_front (goal.at.returns-in-Some-clause-tokens c).After-front-piece) c.split_at.ensures.front c.split_at.ensures.back
    (c.line_behind.ensures ∙ ap (fold line_after line) c.as_bytes-2.ensures.value)
    ∙ ap (λ s. cons_option (token_at s taken line) (filter_map token_of (pieces_from 0 c.line_behind.result c.split_at.result.1.now))) c.in-Some.is)

pub returns-in-Some-clause-shorter : goal.returns-in-Some-clause-shorter
returns-in-Some-clause-shorter c =
    let cut = cut_of (goal.at.returns-in-Some-clause-shorter c).After-front-piece in
    omega (arith, cut.some, cut.within, c.split_at.ensures.back_len)

pub returns-in-None-clause-tokens : goal.returns-in-None-clause-tokens
returns-in-None-clause-tokens c =
    let taken = c.split_at.result.0.now in
    let line = c.args.rest.line in
    first_left line c.line_behind.result c.args.rest.text.now taken c.split_at.result.1.now c.front-piece.result c.requires.some
    (is_front (goal.at.returns-in-None-clause-tokens c).After-front-piece) c.split_at.ensures.front c.split_at.ensures.back
    (c.line_behind.ensures ∙ ap (fold line_after line) c.as_bytes-2.ensures.value)
    ∙ ap (λ s. cons_option (token_at s taken line) (filter_map token_of (pieces_from 0 c.line_behind.result c.split_at.result.1.now))) c.in-None.is

pub returns-in-None-clause-shorter : goal.returns-in-None-clause-shorter
returns-in-None-clause-shorter c =
    let cut = cut_of (goal.at.returns-in-None-clause-shorter c).After-front-piece in
    omega (arith, cut.some, cut.within, c.split_at.ensures.back_len)
