use Rattle.std.proofs.Common.{◌∙◌}
use Rattle.mq_tables.proofs.AscendingLemmas.{found}
use Rattle.mq_tables.proofs.ascending.is_found.Goals as goal

pub returns : goal.returns
returns c = c.is_ok.ensures.value ∙ found c.args.keys.now c.args.key.now c.requires c.binary_search.result c.binary_search.ensures.bound c.binary_search.ensures.position
