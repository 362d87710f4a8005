use Rattle.std.proofs.Common.{ap, ◌∙◌}
use Rattle.mq_parse_words.specs.Forms.{form_of}
use Rattle.mq_parse_expr.proofs.FrontLemmas.{form_inside}
use Rattle.mq_parse_expr.proofs.fronts.form_at.Goals as goal

pub returns : goal.returns
returns c = record {
  form = c.form_of.ensures ∙ ap form_of c.terminal.ensures.kind;
  inside = rw c.form_of.ensures (form_inside c.terminal.result c.args.t.now c.args.at c.terminal.ensures.inside);
}
