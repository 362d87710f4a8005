use Rattle.std.proofs.Common.{sym, ◌∙◌}
use denote.Enum.Bare.{same_true, true_same}
use Rattle.mq_lexer.specs.contracts.keywords.Keyword.{the_type}
use Rattle.mq_parse_words.proofs.terminals.same_word.Goals as goal

pub returns : goal.returns
returns c = (λ h. same_true the_type tt c.args.a c.args.b (sym c.eq.ensures ∙ h), λ e. c.eq.ensures ∙ true_same the_type c.args.a c.args.b e)
