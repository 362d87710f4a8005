use Rattle.std.proofs.Common.{not, rules, of_calls}
use Rattle.std.proofs.lemmas.Fn.{filter_same}
use Rattle.mq_ir.specs.Keys.{is_among}
use Rattle.mq_tables.proofs.ascending.keep_standing.Goals as goal

pub returns : goal.returns
returns c = filter_same _ (λ k. not (is_among c.args.gone.now.keys k)) _ (λ x b f' k. search (rules, of_calls)) _ _ c.retain.ensures.filtered
