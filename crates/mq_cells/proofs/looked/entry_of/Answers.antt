use Rattle.std.proofs.Common.{rules, tests}
use Rattle.std.proofs.lemmas.Iterator.{YieldsList-from_slice}
use Rattle.std.proofs.lemmas.Iterator.Search.{find_from_yields_List}
use Rattle.mq_cells.specs.Stores.{cell_name, is_named}
use Rattle.mq_cells.proofs.looked.entry_of.Goals as goal

pub returns : goal.returns
returns c =
    find_from_yields_List (λ e. is_named (cell_name c.args.key.now c.args.m) e.0) _ _ _ c.find.ensures.ran
    (YieldsList-from_slice c.args.results.now cc) (λ x b q k. search (rules, tests))
