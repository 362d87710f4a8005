use Rattle.std.proofs.Common.{arith}
use Rattle.mq_ast.specs.Prelude.{part_none}
use Rattle.mq_parse_words.specs.StepLemmas.{there, as_value}
use Rattle.mq_parse_stmt.specs.Pieces.{PartOpen}
use Rattle.mq_parse_stmt.proofs.explain.read_part.Goals as goal

pub returns-in-Some : goal.returns-in-Some
returns-in-Some c =
    let s = c.in-Some.ensures in (omega (arith, s.0), s.1, as_value PartOpen c.new.ensures (there PartOpen s.2 part_none), tt)
