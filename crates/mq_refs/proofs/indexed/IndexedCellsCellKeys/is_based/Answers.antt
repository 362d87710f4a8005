use Rattle.std.proofs.Common.{rules, ◌≡◌, is_some, ap, ◌∙◌}
use Rattle.mq_cells.specs.IndexedStores.{input_in, keys_in}
use Rattle.mq_refs.proofs.KeyLemmas.{among_kept}
use Rattle.mq_refs.proofs.indexed.IndexedCellsCellKeys.is_based.Goals as goal

pub returns : goal.returns
returns c =
    let s = c.args.self.now in
    let key = c.args.key.now in
    let there : c.is_some.result ≡ is_some (input_in s key) = search rules in
    there ∙ among_kept (λ k. is_some (input_in s k)) key (keys_in s) (λ h. ap is_some (c.index-covered.ensures.covers key h))
