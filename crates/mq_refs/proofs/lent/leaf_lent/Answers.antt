use Rattle.std.proofs.Common.{subst}
use Rattle.mq_values.specs.Answers.{Gives}
use Rattle.mq_ir.specs.Reads.{read}
use Rattle.mq_cells.specs.IndexedStores.{IndexedStore, base_in, keys_in, value_in}
use Rattle.mq_refs.specs.Sites.{site_over}
use Rattle.mq_refs.proofs.lent.leaf_lent.Goals as goal

pub returns : goal.returns
returns c =
    let store = c.args.store.now in
    let at = c.args.at.now in
    subst (λ (s : IndexedStore). Gives c.leaf_value-result.result (read (site_over at (keys_in store)) (base_in store) (value_in s) c.args.leaf.now)) c.new-lent.ensures c.leaf_value-result.ensures.exact
