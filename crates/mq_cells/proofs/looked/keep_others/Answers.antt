use Rattle.std.proofs.Common.{rules}
use Rattle.std.proofs.lemmas.Fn.{filter_same}
use Rattle.mq_cells.specs.Stores.{cell_name}
use Rattle.mq_cells.proofs.LookedLemmas.{taken_away}
use Rattle.mq_cells.proofs.looked.keep_others.Goals as goal

pub returns : goal.returns
returns c =
    taken_away (cell_name c.args.key.now c.args.m) c.args.results.now.items c.retain.new.self.items
    (filter_same _ _ _ (λ x b f' k. search rules) _ _ c.retain.ensures.filtered)
