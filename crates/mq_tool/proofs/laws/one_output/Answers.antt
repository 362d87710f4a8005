use Rattle.mq_lexer.specs.Statements.{statements}
use Rattle.mq_lexer.specs.Tokens.{tokens}
use Rattle.mq_tool.proofs.ReadLemmas.{one_printed, one_read}
use Rattle.mq_tool.proofs.laws.one_output.Goals as goal

pub returns-clause-read : goal.returns-clause-read
returns-clause-read c = one_read

pub returns-clause-output : goal.returns-clause-output
returns-clause-output c = λ files text a b p q. one_printed files (statements (tokens text)) a b p q
