use Rattle.mq_parse_query.proofs.PlainLemmas.{turned, join_none, join_no_word, join_leads}
use Rattle.mq_parse_query.proofs.froms.behind_join.Goals as goal

pub returns-in-Some : goal.returns-in-Some
returns-in-Some c =
    turned c.behind_word-in-Some.result (join_no_word c.in-Some.ensures.2) (λ n s. join_leads c.args.word c.args.t.now c.args.at c.in-Some.join n c.in-Some.ensures s) c.behind_word-in-Some.ensures

pub returns-in-None : goal.returns-in-None
returns-in-None c = join_none c.in-None.ensures
