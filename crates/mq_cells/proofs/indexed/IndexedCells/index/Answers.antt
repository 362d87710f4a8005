use Rattle.std.proofs.Common.{sym, ap, ◌∙◌}
use Rattle.mq_dim_index.specs.Places.{is_there}
use Rattle.mq_cells.specs.IndexedStores.{IndexedStore, given_by, input_in, keys_in, result_by, results_of}
use Rattle.mq_cells.proofs.NumberLemmas.{lacks_number}
use Rattle.mq_cells.proofs.indexed.IndexedCells.index.Goals as goal

pub returns-clause-covers : goal.returns-clause-covers
unfolding keys_in input_in results_of
returns-clause-covers c = λ key lacking.
    let none = lacks_number c.self.inside.cells key (ap (λ (s : IndexedStore). is_there (keys_in s) key) c.self.view_is ∙ lacking) in
    ap (λ (s : IndexedStore). input_in s key) (sym c.self.view_is) ∙ ap (given_by c.self.inside.given) none

pub returns-clause-covers_results : goal.returns-clause-covers_results
unfolding keys_in input_in results_of
returns-clause-covers_results c = λ name lacking.
    let none = lacks_number c.self.inside.cells name.key (ap (λ (s : IndexedStore). is_there (keys_in s) name.key) c.self.view_is ∙ lacking) in
    ap (λ (s : IndexedStore). results_of s name) (sym c.self.view_is) ∙ ap (result_by c.self.inside.results name.measure) none
