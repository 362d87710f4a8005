use Rattle.std.proofs.Common.{length, subst}
use Rattle.std.specs.Option.{IfSome}
use Rattle.std.proofs.lemmas.Result.{err_from_is_err_and}
use Rattle.mq_values.specs.Answers.{Gives}
use Rattle.mq_ir.specs.Ready.{ModelIsReady}
use Rattle.mq_kept.specs.ReadyLaws.{items_have}
use Rattle.mq_answers.proofs.AnswerLemmas.{may_run}
use Rattle.mq_answers.proofs.ExplainLemmas.{items_there, no_items}
use Rattle.mq_answers.proofs.explaining.explained_with.Goals as goal

pub returns-in_err-items : goal.returns-in_err-items
returns-in_err-items g c =
    let p = err_from_is_err_and c.from_residual.result c.from_residual.ensures.1 in
    rw (p.1, p.2) (no_items (g.T.TableSet.tables c.args.tables.now) c.args.q.now c.args.part.now c.args.key.now c.args.cell.now
    c.in_err-items.field-0.0 c.in_err-items.ensures)

pub explained_items-requires : goal.explained_items-requires
explained_items-requires g c =
    let q = c.args.q.now in
    let items = c.in_ok-items.items in
    let long = items_have (g.T.TableSet.tables c.args.tables.now) q.from q.items items c.in_ok-items.ensures in
    let model = subst (λ o. IfSome o (ModelIsReady (length q.items.items))) c.requires.model c.requires.ready in
    may_run q c.args.part.now items model long

pub returns : goal.returns
returns g c =
    subst (Gives c.explained_items.result)
    (items_there (g.T.TableSet.tables c.args.tables.now) c.args.q.now c.args.part.now c.args.key.now c.args.cell.now c.in_ok-items.items c.in_ok-items.ensures)
    c.explained_items.ensures
