use Rattle.std.proofs.Common.{sym, ◌∙◌, subst}
use Rattle.mq_values.specs.Answers.{Gives}
use Rattle.mq_tables.proofs.JudgeLemmas.{after_size, gives_stands, sized}
use Rattle.mq_tables.proofs.tables.Tables.stage.Goals as goal

pub returns-clause-exact : goal.returns-clause-exact
returns-clause-exact c =
    subst (Gives c.of_change.result)
    (sym (after_size c.args.self.now c.args.c.now c.as_str.result.now c.in-Some.table.now (c.as_str.ensures ∙ c.table_of-name.ensures) (sym c.in-Some.ensures)
    (sized c.args.self.now c.as_slice.result.now c.args.c.now c.in-Some.table.now c.rows_added.result c.in_ok-judge_size.field-0 c.as_slice.ensures c.rows_added.ensures c.in_ok-judge_size.ensures)))
    c.of_change.ensures

pub returns-clause-stands : goal.returns-clause-stands
returns-clause-stands c = λ fit. λ f. gives_stands c.args.self.now c.args.c.now c.of_change.result (returns-clause-exact c) fit f
