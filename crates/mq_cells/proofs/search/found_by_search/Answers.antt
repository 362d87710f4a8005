use Rattle.std.proofs.Common.{rules, of_calls}
use Rattle.std.proofs.lemmas.Fn.{always_returns_same}
use Rattle.mq_values.specs.Order.{cmp_key}
use Rattle.mq_ir.specs.Keys.{Tuple}
use Rattle.mq_cells.proofs.SearchLemmas.{found_cell, missed_cell}
use Rattle.mq_cells.proofs.search.found_by_search.Goals as goal

pub returns-in-Ok : goal.returns-in-Ok
returns-in-Ok c =
    let key = c.args.key.now in
    let told = c.binary_search_by.ensures.position (λ (cell : Tuple × Tuple). cmp_key cell.0 key) (always_returns_same _ _ _ (λ a r f k. search (rules, of_calls))) in
    found_cell key c.args.cells.now c.binary_search_by.result c.in-Ok.at c.index-cells-at.result c.requires c.in-Ok.ensures.bound told c.in-Ok.is

pub returns-in-Err : goal.returns-in-Err
returns-in-Err c =
    let key = c.args.key.now in
    let told = c.binary_search_by.ensures.position (λ (cell : Tuple × Tuple). cmp_key cell.0 key) (always_returns_same _ _ _ (λ a r f k. search (rules, of_calls))) in
    missed_cell key c.args.cells.now c.binary_search_by.result _ c.requires told c.in-Err.is
