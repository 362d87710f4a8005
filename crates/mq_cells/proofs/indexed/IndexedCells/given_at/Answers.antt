use Rattle.std.proofs.Common.{sym, ap, ◌∙◌}
use Rattle.std.specs.Prelude.{slice_index_or}
use Rattle.mq_cells.specs.IndexedStores.{IndexedStore, given_by, input_in, keys_in, results_of}
use Rattle.mq_cells.proofs.indexed.IndexedCells.given_at.Goals as goal

pub returns : goal.returns
unfolding keys_in input_in results_of
returns c = λ other.
    c.get.ensures ∙ ap (given_by c.self.inside.given) (sym (c.at.ensures.found other))
    ∙ ap (λ (s : IndexedStore). input_in s (slice_index_or (keys_in s) c.args.place other)) c.self.view_is
