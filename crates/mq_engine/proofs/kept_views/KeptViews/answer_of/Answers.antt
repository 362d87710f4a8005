use Rattle.mq_engine.proofs.KeptLemmas.{for_model, of_model}
use Rattle.mq_engine.proofs.kept_views.KeptViews.answer_of.Goals as goal

pub kept_answer-requires-clause-standing : goal.kept_answer-requires-clause-standing
kept_answer-requires-clause-standing g c κs within =
    for_model c.args.tables.now c.args.view.now c.in-Some.part c.in-Some.is c.take-old.result
    (c.take-old.ensures.taken c.args.tables.now c.args.views.now c.requires.standing c.args.view.now c.requires.named)

pub returns-in_err-now-clause-standing : goal.returns-in_err-now-clause-standing
returns-in_err-now-clause-standing g c = c.take-old.ensures.left c.args.tables.now c.args.views.now c.requires.standing

pub returns-clause-standing : goal.returns-clause-standing
returns-clause-standing g c =
    c.put.ensures c.args.tables.now c.args.views.now (c.take-old.ensures.left c.args.tables.now c.args.views.now c.requires.standing) c.args.view.now
    c.requires.named (of_model c.args.tables.now c.args.view.now c.in-Some.part c.in-Some.is c.in_ok-now.now c.in_ok-now.ensures.standing)
