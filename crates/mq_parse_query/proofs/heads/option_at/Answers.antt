use Rattle.mq_parse_query.proofs.ModelLemmas.{option_found}
use Rattle.mq_parse_query.proofs.heads.option_at.Goals as goal

pub returns : goal.returns
returns c = option_found c.args.t.now c.args.at c.terminal.result c.option_of.result c.terminal.ensures.kind c.terminal.ensures.inside c.option_of.ensures
