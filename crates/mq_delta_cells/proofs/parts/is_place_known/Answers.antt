use Rattle.std.proofs.Common.{ap, ◌∙◌}
use Rattle.std.proofs.lemmas.Result.{IfOk-weaker}
use Rattle.mq_ir.specs.declared.query.Look.TheVariants.{Measure}
use Rattle.mq_ir.specs.Keys.{Tuple}
use Rattle.mq_cells.specs.Stores.{cell_name}
use Rattle.mq_delta_cells.specs.Walks.{ground_of, is_known_in}
use Rattle.mq_delta_cells.proofs.parts.is_place_known.Goals as goal

pub returns : goal.returns
returns c = λ other.
    IfOk-weaker c.is_measure_known.result _ _
    (λ known h. h ∙ ap (λ (key : Tuple). is_known_in (ground_of c.args.work.now) c.args.changed.now (Measure (cell_name key c.args.m))) (c.key_at-key.ensures other)) c.is_measure_known.ensures
