use Rattle.std.proofs.Common.{refl}
use Rattle.mq_tables.proofs.AscendingLemmas.{not_among}
use Rattle.mq_tables.proofs.ascending.holds.Goals as goal

pub returns-else-not-comes_behind : goal.returns-else-not-comes_behind
returns-else-not-comes_behind c =
    not_among c.args.keys.now c.args.keys.now c.args.key.now c.comes_behind.result refl c.if-not-comes_behind.false c.comes_behind.ensures
