use Rattle.std.proofs.Common.{List, ap, ◌∙◌, subst}
use Rattle.mq_values.specs.Answers.{Gives}
use Rattle.mq_ir.specs.Keys.{Tuple}
use Rattle.mq_tables.specs.InPlace.{rows_left}
use Rattle.mq_tables.specs.KeyOrder.{judged}
use Rattle.mq_tables.proofs.keyed_rows.rows_without.Goals as goal

pub returns : goal.returns
returns c =
    let gone = c.args.gone.now in
    subst (λ (rows : List Tuple). Gives c.new.result (judged c.args.schema.now rows))
    (c.from_vec.ensures ∙ c.take_away.ensures ∙ ap (λ (rows : List Tuple). rows_left rows gone) c.in_ok-left.ensures) c.new.ensures
