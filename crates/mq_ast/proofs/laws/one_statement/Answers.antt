use Rattle.mq_ast.specs.Laws.OneStatementLemmas.{stmt_same}
use Rattle.mq_ast.proofs.laws.one_statement.Goals as goal

pub returns : goal.returns
returns c = λ a b tokens d d'. stmt_same a b tokens d d'
