use Rattle.std.proofs.Common.{◌∷◌, ap, ◌∙◌, arith}
use Rattle.mq_ast.specs.Tokens.{Name, point, terminal_at}
use Rattle.mq_ast.specs.declared.levels.TheConstants as level
use Rattle.mq_ast.specs.Continuing.{Stops}
use Rattle.mq_ast.specs.GrammarNames.{PathE, path_one, path_two}
use Rattle.mq_parse_words.specs.Reading.{from}
use Rattle.mq_parse_words.specs.StepLemmas.{quit, here, there, as_value}
use Rattle.mq_parse_words.specs.NameLemmas.{stops_path, path_no_name, path_no_second, path_no_end, named}
use Rattle.mq_parse_words.proofs.names.read_path.Goals as goal

pub returns-in_err-first : goal.returns-in_err-first
returns-in_err-first c =
    quit PathE c.args.t.now c.args.at c.from_residual.result c.in_err-first.field-0.0 c.from_residual.ensures.1 c.in_err-first.ensures path_no_name

pub returns-in_default : goal.returns-in_default
returns-in_default c =
    let f = c.in_ok-first.ensures in
    (f.0, f.1, as_value PathE c.short_path.ensures (there PathE (named f.2) path_one), stops_path (terminal_at (from c.args.t.now c.in_ok-first.next)) c.in_default.ensures)

pub returns-in_err-last : goal.returns-in_err-last
returns-in_err-last c =
    quit PathE c.args.t.now c.args.at c.from_residual-in_err-last.result c.in_err-last.field-0.0 c.from_residual-in_err-last.ensures.1 c.in_err-last.ensures (λ h. here PathE (Stops level.PATH) (named c.in_ok-first.ensures.2 ∙ ap (λ r. Name c.in_ok-first.first ∷ r) c.in-Some.ensures.2) (path_no_second h))

pub returns-in_err-settled : goal.returns-in_err-settled
returns-in_err-settled c =
    quit PathE c.args.t.now c.args.at c.from_residual-in_err-settled.result c.in_err-settled.field-0.0 c.from_residual-in_err-settled.ensures.1 c.in_err-settled.ensures (λ h. here PathE (Stops level.PATH) (named c.in_ok-first.ensures.2 ∙ ap (λ r. Name c.in_ok-first.first ∷ r) (c.in-Some.ensures.2 ∙ ap (λ r. point ∷ r) (named c.in_ok-last.ensures.2))) (path_no_end h))

pub returns : goal.returns
returns c =
    let f = c.in_ok-first.ensures in
    let s = c.in-Some.ensures in
    let l = c.in_ok-last.ensures in
    (omega (arith, f.0, s.0, l.0), l.1, as_value PathE c.long_path.ensures (there PathE (named f.2 ∙ ap (λ r. Name c.in_ok-first.first ∷ r) (s.2 ∙ ap (λ r. point ∷ r) (named l.2))) path_two), c.in_ok-settled.ensures)
