use Rattle.std.proofs.Common.{◌∙◌}
use Rattle.mq_ir.specs.Unfolding.{model_of}
use Rattle.mq_cells.specs.IndexedStores.{input_in, results_of}
use Rattle.mq_lineage.proofs.ToldLemmas.{made, not_made}
use Rattle.mq_lineage.proofs.telling.is_made.Goals as goal

pub returns-then-not-are_told-clause-exact : goal.returns-then-not-are_told-clause-exact
returns-then-not-are_told-clause-exact c = λ earlier t.
    not_made earlier (input_in c.args.cells.now) (results_of c.args.cells.now) t c.steps_read_their_looks.ensures (model_of c.args.m.now) c.args.s.now c.args.rule.now c.args.step.now
    c.as_slice.result.now c.are_told.result (c.as_slice.ensures ∙ c.in_ok-looks.ensures) c.are_told.ensures c.if-not-are_told.true

pub returns-clause-exact : goal.returns-clause-exact
returns-clause-exact c = λ earlier t.
    made earlier (input_in c.args.cells.now) (results_of c.args.cells.now) t c.steps_read_their_looks.ensures (model_of c.args.m.now) c.args.s.now c.args.rule.now c.args.step.now
    c.as_slice.result.now c.are_told.result c.is_same_slot.result c.in_ok-slot.slot (c.as_slice.ensures ∙ c.in_ok-looks.ensures) c.are_told.ensures c.if-not-are_told.false c.in_ok-slot.ensures.exact c.is_same_slot.ensures
