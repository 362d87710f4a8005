use Rattle.mq_parse_words.specs.NameLemmas.{token_no_name}
use Rattle.mq_parse_words.proofs.names.name_at.Goals as goal

pub returns-in_default : goal.returns-in_default
returns-in_default c = token_no_name c.in-Some.token c.in-Some.ensures.1 c.in_default.not-Name
