use Rattle.std.proofs.Common.{◌∷◌, ap, ◌∙◌, arith}
use Rattle.mq_ast.specs.declared.levels.TheConstants as level
use Rattle.mq_lexer.specs.declared.keywords.Keyword.TheVariants as word
use Rattle.mq_ast.specs.Prelude.{GroupE, Stops, Word, group_none, group_some}
use Rattle.mq_parse_words.specs.Reading.{from}
use Rattle.mq_parse_words.specs.StepLemmas.{quit, here, there, as_value}
use Rattle.mq_parse_query.proofs.SourceLemmas.{group_no_group, group_no_by, group_no_paths, group_no_end}
use Rattle.mq_parse_query.proofs.plain.read_group.Goals as goal

pub returns-in_err-settled : goal.returns-in_err-settled
returns-in_err-settled c =
    quit GroupE c.args.t.now c.args.at c.from_residual.result c.in_err-settled.field-0.0 c.from_residual.ensures.1 c.in_err-settled.ensures (group_no_group c.in_default.ensures)

pub returns-in_default : goal.returns-in_default
returns-in_default c = (omega arith, c.requires, as_value GroupE c.new.ensures group_none, c.in_ok-settled.ensures)

pub returns-in_err-by : goal.returns-in_err-by
returns-in_err-by c =
    quit GroupE c.args.t.now c.args.at c.from_residual-in_err-by.result c.in_err-by.field-0.0 c.from_residual-in_err-by.ensures.1 c.in_err-by.ensures (λ h. here GroupE (Stops level.PLAIN) c.in-Some.ensures.2 (group_no_by h))

pub returns-in_err-paths : goal.returns-in_err-paths
returns-in_err-paths c =
    quit GroupE c.args.t.now c.args.at c.from_residual-in_err-paths.result c.in_err-paths.field-0.0 c.from_residual-in_err-paths.ensures.1 c.in_err-paths.ensures (λ h. here GroupE (Stops level.PLAIN) (c.in-Some.ensures.2 ∙ ap (λ r. Word word.Group ∷ r) c.in_ok-by.ensures.2) (group_no_paths h))

pub returns-in_err-settled-2 : goal.returns-in_err-settled-2
returns-in_err-settled-2 c =
    quit GroupE c.args.t.now c.args.at c.from_residual-in_err-settled-2.result c.in_err-settled-2.field-0.0 c.from_residual-in_err-settled-2.ensures.1 c.in_err-settled-2.ensures (λ h. here GroupE (Stops level.PLAIN) (c.in-Some.ensures.2 ∙ ap (λ r. Word word.Group ∷ r) c.in_ok-by.ensures.2) (group_no_end (from c.args.t.now c.in_ok-paths.to) c.in_ok-paths.ensures.2 c.in_ok-paths.ensures.3 h))

pub returns : goal.returns
returns c =
    let s = c.in-Some.ensures in
    let b = c.in_ok-by.ensures in
    let l = c.in_ok-paths.ensures in
    (omega (arith, s.0, b.0, l.0), l.1, there GroupE (s.2 ∙ ap (λ r. Word word.Group ∷ r) b.2) (group_some l.2), c.in_ok-settled-2.ensures)
