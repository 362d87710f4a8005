use Rattle.std.proofs.Common.{ap, sym, ◌∙◌}
use Rattle.std.specs.Prelude.{nat_lt, slice_index_or}
use Rattle.std.proofs.lemmas.Bool.Decides.{Decides-ltb}
use Rattle.mq_cells.specs.IndexedStores.{keys_in}
use Rattle.mq_cells.specs.Stores.{cell_name}
use Rattle.mq_seq.proofs.ShownLemmas.{lacks, sets_nothing, sets_there}
use Rattle.mq_seq.proofs.marked_cells.set_measure.Goals as goal

pub returns-then-m-count_at-clause-set : goal.returns-then-m-count_at-clause-set
returns-then-m-count_at-clause-set c = λ other.
    sets_nothing c.args.store.now c.args.count (cell_name (slice_index_or (keys_in c.args.store.now) c.args.at other) c.args.m) c.args.v
    (ap (nat_lt c.args.m) (sym (c.count_at.ensures other)) ∙ lacks c.args.m c.count_at.result c.if-m-count_at.true)

pub returns-clause-set : goal.returns-clause-set
returns-clause-set c = λ other.
    sets_there c.args.store.now c.set_at.new.self c.args.count (cell_name (slice_index_or (keys_in c.args.store.now) c.args.at other) c.args.m) c.args.v
    (ap (nat_lt c.args.m) (sym (c.count_at.ensures other)) ∙ (Decides-ltb c.args.m c.count_at.result).1 c.if-m-count_at.false) (c.in_ok-set_at.ensures.ok other)
