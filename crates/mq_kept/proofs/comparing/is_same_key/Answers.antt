use Rattle.std.proofs.Common.{◌≡◌, sym, ◌∙◌}
use Rattle.std.specs.Cmp.Lexicographic.{lists_ties}
use Rattle.mq_values.specs.Order.{cmp_value}
use Rattle.mq_values.specs.OrderLaws.{values_tie}
use Rattle.mq_kept.proofs.ComparingLemmas.{one_key}
use Rattle.mq_kept.proofs.comparing.is_same_key.Goals as goal

pub returns : goal.returns
returns c =
    λ told. one_key c.args.a.now c.args.b.now (sym (lists_ties cmp_value values_tie c.args.a.now c.args.b.now) ∙ sym c.eq.ensures ∙ told)
