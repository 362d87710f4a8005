use Rattle.std.proofs.Common.{◌+◌, ◌∷◌, sym, ◌∙◌, arith}
use Rattle.mq_parse_words.specs.StepLemmas.{there, fronted}
use Rattle.mq_parse_words.specs.Reading.{from, Anywhere}
use Rattle.mq_parse_expr.proofs.FrontLemmas.{form_front, at_front}
use Rattle.mq_lexer.specs.declared.keywords.Keyword.TheVariants as word
use Rattle.mq_ast.specs.Tokens.{Word}
use Rattle.mq_ast.specs.GrammarExpression.{PrimE, prim_num, prim_text, prim_null, prim_turn}
use Rattle.mq_parse_words.specs.declared.forms.Form.TheVariants as form
use Rattle.mq_parse_expr.proofs.fronts.read_small.Goals as goal

pub returns-in-Some : goal.returns-in-Some
returns-in-Some c = let s = c.in-Some.ensures in (omega arith, s.1, there PrimE s.2 prim_num, tt)

pub returns-in-Some-2 : goal.returns-in-Some-2
returns-in-Some-2 c = let s = rw c.in-Some-2.is at c.in_ok-text-in-Text.ensures in (omega arith, s.1, there PrimE s.2 prim_text, tt)

pub returns-in-Null : goal.returns-in-Null
returns-in-Null c =
    let f = form_front form.Null (from c.args.t.now c.args.at) (sym c.in-Null.is ∙ c.requires.begins) in
    (omega arith, c.requires.in_range, there PrimE (at_front (Word word.Null) c.args.t.now c.args.at f) prim_null, tt)

pub returns-in-Turn : goal.returns-in-Turn
returns-in-Turn c =
    let f = form_front form.Turn (from c.args.t.now c.args.at) (sym c.in-Turn.is ∙ c.requires.begins) in
    (omega arith, c.requires.in_range, there PrimE (at_front (Word word.IterationNumber) c.args.t.now c.args.at f) prim_turn, tt)

pub returns-in-Cv : goal.returns-in-Cv
returns-in-Cv c =
    let f = form_front form.Cv (from c.args.t.now c.args.at) (sym c.in-Cv.is ∙ c.requires.begins) in
    fronted PrimE Anywhere (λ us. Word word.Cv ∷ us) c.args.t.now c.args.at (c.args.at + 1) c.read_cv.result (omega arith) (at_front (Word word.Cv) c.args.t.now c.args.at f) c.read_cv.ensures

pub returns-in-Date : goal.returns-in-Date
returns-in-Date c =
    let f = form_front form.Date (from c.args.t.now c.args.at) (sym c.in-Date.is ∙ c.requires.begins) in
    fronted PrimE Anywhere (λ us. Word word.Date ∷ us) c.args.t.now c.args.at (c.args.at + 1) c.read_date.result (omega arith) (at_front (Word word.Date) c.args.t.now c.args.at f) c.read_date.ensures
