use Rattle.std.proofs.Common.{sym, ap, ◌∙◌}
use Rattle.mq_delta_items.specs.Lines.{lines_of}
use Rattle.mq_kept.proofs.beside.items_of.Goals as goal

pub returns : goal.returns
returns c = record {
  gone = c.in-Some.gone;
  come = c.in-Some-2.come;
  gone_are = ap (lines_of c.args.from.now c.args.part.now) (sym c.as_slice.ensures) ∙ sym c.in_ok-gone.ensures ∙ c.in-Some.is;
  come_are = ap (lines_of c.args.from.now c.args.part.now) (sym c.as_slice-2.ensures) ∙ sym c.in_ok-come.ensures ∙ c.in-Some-2.is;
  items_gone = c.in_ok-gone-2.ensures;
  items_come = c.in_ok-come-2.ensures;
}
