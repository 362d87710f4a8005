use Rattle.std.proofs.Common.{◌∷◌}
use Rattle.mq_lexer.specs.declared.keywords.Keyword.TheVariants as word
use Rattle.mq_ast.specs.Prelude.{Word, left_places, opener}
use Rattle.mq_parse_query.specs.Pieces.{LeftEnd}
use Rattle.mq_parse_words.specs.Reading.{Anywhere}
use Rattle.mq_parse_words.specs.StepLemmas.{quit, as_value, fronted}
use Rattle.mq_parse_query.proofs.RuleLemmas.{left_no_places, ends_square}
use Rattle.mq_parse_query.proofs.left.read_left.Goals as goal

pub returns-in-Some : goal.returns-in-Some
returns-in-Some c = let s = c.in-Some.ensures in fronted LeftEnd Anywhere (λ us. Word word.For ∷ opener ∷ us) c.args.t.now c.args.at c.in-Some.dims c.read_left_tuples.result s.0 s.2 c.read_left_tuples.ensures

pub read_closed-requires : goal.read_closed-requires
read_closed-requires c = ends_square

pub returns-in_err-places-in-None : goal.returns-in_err-places-in-None
returns-in_err-places-in-None c =
    quit LeftEnd c.args.t.now c.args.at c.from_residual.result c.in_err-places-in-None.field-0.0 c.from_residual.ensures.1 c.in_err-places-in-None.ensures (left_no_places c.in-None.ensures)

pub returns-in_ok-places_of-in-None : goal.returns-in_ok-places_of-in-None
returns-in_ok-places_of-in-None c = let f = c.in_ok-places-in-None.ensures in (f.0, f.1, as_value LeftEnd c.in_ok-places_of-in-None.ensures (left_places f.2), tt)
