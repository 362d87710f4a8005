use Rattle.mq_parse_query.proofs.RuleLemmas.{rule_no_token}
use Rattle.mq_parse_query.proofs.rules.RuleTreeListed.read.Goals as goal

pub returns-in-None : goal.returns-in-None
returns-in-None c = rule_no_token c.in-None.ensures
