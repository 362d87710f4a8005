use Rattle.std.proofs.Common.{◌≡◌, ◌++◌, take, map}
use Rattle.mq_ir.specs.Lines.{RowLine, text_of}
use Rattle.mq_render.proofs.answers.push_row_lines.Given as goal

abbrev pub invariant-rows : goal.invariant-rows
invariant-rows l = l.out.items ≡ l.fn.out.items ++ text_of (map RowLine (take l.row-index l.rows))
