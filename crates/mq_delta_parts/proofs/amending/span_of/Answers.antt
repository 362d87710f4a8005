use Rattle.std.proofs.Common.{rules, of_calls}
use Rattle.std.proofs.lemmas.Fn.{always_returns_same}
use Rattle.mq_values.specs.Order.{cmp_key}
use Rattle.mq_ir.specs.Keys.{Tuple}
use Rattle.mq_delta_parts.proofs.SpanLemmas.{found_span, missed_span}
use Rattle.mq_delta_parts.proofs.amending.span_of.Goals as goal

pub returns-in-Ok : goal.returns-in-Ok
returns-in-Ok c = λ ascends.
    let t = c.args.tuple.now in
    let told = c.binary_search_by.ensures.position (λ (cell : Tuple × Tuple). cmp_key cell.0 t) (always_returns_same _ _ _ (λ a r f k. search (rules, of_calls))) in
    found_span t c.args.cells.now ascends c.binary_search_by.result c.in-Ok.at c.in-Ok.is c.binary_search_by.ensures.bound told

pub returns-in-Err : goal.returns-in-Err
returns-in-Err c = λ ascends.
    let t = c.args.tuple.now in
    let told = c.binary_search_by.ensures.position (λ (cell : Tuple × Tuple). cmp_key cell.0 t) (always_returns_same _ _ _ (λ a r f k. search (rules, of_calls))) in
    missed_span t c.args.cells.now ascends c.binary_search_by.result c.in-Err.at c.in-Err.is told
