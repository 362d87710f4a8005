use Rattle.std.proofs.Common.{Ok, ap, subst, sym, ◌∙◌}
use Rattle.std.specs.List.{All}
use Rattle.mq_ir.specs.Ready.{IsReady}
use Rattle.mq_sources.specs.References.{cells_of_arrays}
use Rattle.mq_answers.proofs.ExplainLemmas.{model_there}
use Rattle.mq_kept.specs.ReadyLaws.{all_ready}
use Rattle.mq_answers.proofs.explaining.explained_items.Goals as goal

pub explained_among-requires : goal.explained_among-requires
explained_among-requires g c = subst (All (IsReady c.args.part.now)) (sym c.in_ok-inputs.ensures) (all_ready c.args.part.now c.args.items c.requires.lefts c.requires.wide)

pub returns : goal.returns
returns g c =
    model_there (g.T.TableSet.tables c.args.tables.now) c.args.part.now c.args.items c.args.key.now c.args.cell.now (cells_of_arrays c.as_slice-2.result.now)
    c.as_slice.result.now c.in_ok-inputs.inputs c.in_ok-explained_among.field-0
    (c.in_ok-refs.ensures ∙ ap (λ arrays. Ok (cells_of_arrays arrays)) (sym c.as_slice-2.ensures))
    (c.in_ok-lists.ensures ∙ ap Ok (sym c.as_slice.ensures)) c.in_ok-inputs.ensures c.in_ok-explained_among.ensures
