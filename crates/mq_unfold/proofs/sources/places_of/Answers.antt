use Rattle.std.proofs.Common.{subst, ◌≡◌, Result, sym, ap, ◌∙◌, List}
use Rattle.mq_values.specs.Answers.{Gives}
use Rattle.mq_values.specs.declared.faults.ValueFault.{ValueFault}
use Rattle.mq_ir.specs.declared.query.SinglePlace.{SinglePlace}
use Rattle.mq_ir.specs.Results.{each}
use Rattle.mq_ir.specs.Unfolding.{model_of}
use Rattle.mq_unfold.specs.Rows.{Listed, first_listed, first_value, listed_places}
use Rattle.mq_unfold.proofs.RowLemmas.{listed_rows, listed_values}
use Rattle.mq_unfold.proofs.sources.places_of.Goals as goal

pub returns-in-Values : goal.returns-in-Values
returns-in-Values c =
    let model = model_of c.args.m.now in
    subst (λ (q : Listed). Gives c.evaluated_firsts.result q)
    (ap (each (first_listed c.args.turn c.args.kind)) c.as_slice.ensures ∙ sym (listed_values model c.args.turn c.args.kind c.in-Values.rows) ∙ ap (listed_places model c.args.turn c.args.kind) (sym c.in-Values.is))
    c.evaluated_firsts.ensures

pub returns-in-Rows : goal.returns-in-Rows
returns-in-Rows c =
    let model = model_of c.args.m.now in
    subst (λ (q : Listed). Gives c.converted_firsts.result q)
    (ap (each (first_value c.args.kind)) c.list_at.ensures ∙ sym (listed_rows model c.args.turn c.args.kind c.in-Rows.list) ∙ ap (listed_places model c.args.turn c.args.kind) (sym c.in-Rows.is))
    c.converted_firsts.ensures
