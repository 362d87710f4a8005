use Rattle.std.proofs.Common.{◌≡◌, Some, List, slice_get, slice_set, sym, ap, subst, ◌∙◌}
use Rattle.std.proofs.lemmas.Option.{slice_get-get_or}
use Rattle.std.proofs.lemmas.Result.{on_ok_weaker}
use Rattle.mq_cells.specs.Columns.{ChangesAt, Column, results_in}
use Rattle.mq_cells.specs.Stores.{DiffersAt, Results, cell_name}
use Rattle.mq_cells.proofs.ColumnLemmas.{differs}
use Rattle.mq_cells.proofs.columns.Columns.put.Goals as goal

pub returns-clause-ok : goal.returns-clause-ok
returns-clause-ok c =
    let columns = c.reach.new.columns.items in
    let column = c.index_mut.result.now in
    let after = c.put.new.self in
    let there : slice_get columns c.args.m ≡ Some column =
    slice_get-get_or columns c.args.m column c.in_ok-reach.ensures.there ∙ ap (λ (x : Column). Some x) (sym c.index_mut.ensures.value) in
    let before : results_in columns ≡ results_in c.args.self.now =
    c.reach.ensures.same ∙ ap (λ (cs : List Column). results_in cs) c.self.view_is in
    on_ok_weaker c.put.result
    (λ (h : ChangesAt column after c.args.key (Some c.args.slot)).
    subst (λ (r : Results). DiffersAt r (results_in (slice_set columns c.args.m after)) (cell_name c.args.key c.args.m) (Some c.args.slot)) before
    (differs columns c.args.m column after c.args.key (Some c.args.slot) c.in_ok-reach.ensures.there there h))
    c.put.ensures.ok
