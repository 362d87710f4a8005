use Rattle.std.proofs.Common.{ap, ◌∙◌}
use Rattle.mq_parse_words.specs.Forms.{tail_of}
use Rattle.mq_parse_expr.proofs.FrontLemmas.{tail_inside}
use Rattle.mq_parse_expr.proofs.fronts.tail_at.Goals as goal

pub returns : goal.returns
returns c = record {
  tail = c.tail_of.ensures ∙ ap tail_of c.terminal.ensures.kind;
  inside = rw c.tail_of.ensures (tail_inside c.terminal.result c.args.t.now c.args.at c.terminal.ensures.inside);
}
