use Rattle.std.proofs.Common.{◌≡◌, ap, ◌∙◌, sym, subst}
use Rattle.std.specs.Bool.{Decides}
use Rattle.std.specs.Ordering.{is_eq}
use Rattle.mq_lineage.proofs.SlotLemmas.{value_decides}
use Rattle.mq_lineage.proofs.slots.is_same_value.Goals as goal

pub returns : goal.returns
returns c = subst (λ b. Decides b (c.args.a.now ≡ c.args.b.now)) (sym (c.is_eq.ensures ∙ ap is_eq c.cmp_total.ensures)) (value_decides c.args.a.now c.args.b.now)
