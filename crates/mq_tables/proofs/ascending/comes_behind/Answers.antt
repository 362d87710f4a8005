use Rattle.std.proofs.Common.{◌∙◌, sym}
use Rattle.mq_values.specs.Order.{cmp_key}
use Rattle.mq_values.specs.OrderLaws.{key_total}
use Rattle.mq_tables.proofs.AscendingLemmas.{behind_greatest, behind_none, is_greater}
use Rattle.mq_tables.proofs.ascending.comes_behind.Goals as goal

pub returns-in-None : goal.returns-in-None
returns-in-None c e = behind_none key_total c.args.keys.now c.args.key.now c.in-None.ensures.item.3

pub returns-in-Some : goal.returns-in-Some
returns-in-Some c e =
    behind_greatest key_total c.args.keys.now c.in-Some.greatest.now c.args.key.now c.in-Some.ensures.item.3.0 c.in-Some.ensures.item.1 (is_greater (cmp_key c.args.key.now c.in-Some.greatest.now) (sym c.is_greater.ensures ∙ e))
    c.requires
