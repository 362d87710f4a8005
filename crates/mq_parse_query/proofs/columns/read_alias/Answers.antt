use Rattle.std.proofs.Common.{arith}
use Rattle.mq_ast.specs.declared.levels.TheConstants as level
use Rattle.mq_ast.specs.Prelude.{AliasE, Stops, alias_none}
use Rattle.mq_parse_query.specs.Pieces.{SomeName}
use Rattle.mq_parse_words.specs.StepLemmas.{quit, here, there, gives_as}
use Rattle.mq_parse_query.proofs.PlainLemmas.{alias_behind, alias_bare, alias_no_behind, alias_no_bare, alias_no_end}
use Rattle.mq_parse_query.proofs.columns.read_alias.Goals as goal

pub returns-in-Some : goal.returns-in-Some
returns-in-Some c =
    let s = c.in-Some.ensures in
    gives_as AliasE SomeName (Stops level.ITEM) (Stops level.ITEM) c.args.t.now c.args.at c.in-Some.behind c.read_alias_name.result (omega (arith, s.0)) (λ a to d r. (there AliasE s.2 (alias_behind d), r)) (λ h. here AliasE (Stops level.ITEM) s.2 (alias_no_behind h)) c.read_alias_name.ensures

pub returns-in-Some-name_at : goal.returns-in-Some-name_at
returns-in-Some-name_at c =
    gives_as AliasE SomeName (Stops level.ITEM) (Stops level.ITEM) c.args.t.now c.args.at c.args.at c.read_alias_name-in-Some-name_at.result (omega arith) (λ a to d r. (alias_bare d, r)) (alias_no_bare c.in-Some-name_at.ensures.2) c.read_alias_name-in-Some-name_at.ensures

pub returns-in_err-settled : goal.returns-in_err-settled
returns-in_err-settled c =
    quit AliasE c.args.t.now c.args.at c.from_residual.result c.in_err-settled.field-0.0 c.from_residual.ensures.1 c.in_err-settled.ensures (alias_no_end c.in_default.ensures c.in_default-name_at.ensures)

pub returns : goal.returns
returns c = (omega arith, c.requires, alias_none, c.in_ok-settled.ensures)
