use Rattle.std.proofs.Common.{Ok, ap, subst, sym, ◌∙◌}
use Rattle.std.specs.List.{All}
use Rattle.mq_ir.specs.Ready.{IsReady}
use Rattle.mq_sources.specs.References.{cells_of_arrays}
use Rattle.mq_kept.specs.ReadyLaws.{all_ready}
use Rattle.mq_answers.proofs.RowLemmas.{rows_gathered}
use Rattle.mq_answers.proofs.models.model_rows.Goals as goal

pub all_partitions-requires-clause-ready : goal.all_partitions-requires-clause-ready
all_partitions-requires-clause-ready g c κs within = subst (All (IsReady c.args.part.now)) (sym c.in_ok-inputs.ensures) (all_ready c.args.part.now c.args.items c.requires.may_run.lefts c.requires.may_run.wide)

pub returns : goal.returns
returns g c =
    rows_gathered (g.T.TableSet.tables c.args.tables.now) c.args.part.now c.args.items (cells_of_arrays c.as_slice-2.result.now) c.as_slice.result.now c.in_ok-inputs.inputs _
    (c.in_ok-refs.ensures ∙ ap (λ arrays. Ok (cells_of_arrays arrays)) (sym c.as_slice-2.ensures))
    (c.in_ok-lists.ensures ∙ ap Ok (sym c.as_slice.ensures)) c.in_ok-inputs.ensures c.all_partitions.ensures
