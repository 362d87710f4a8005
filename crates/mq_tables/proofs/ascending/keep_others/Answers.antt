use Rattle.std.proofs.Common.{not, rules, of_calls}
use Rattle.std.proofs.lemmas.Fn.{filter_same}
use Rattle.mq_ir.specs.Keys.{is_among}
use Rattle.mq_tables.proofs.StandingLemmas.{ascend_standing}
use Rattle.mq_tables.proofs.ascending.keep_others.Goals as goal

pub returns-clause-left : goal.returns-clause-left
returns-clause-left c = filter_same _ (λ k. not (is_among c.args.gone.now.keys k)) _ (λ x b f' k. search (rules, of_calls)) _ _ c.retain.ensures.filtered

pub returns-clause-ascending : goal.returns-clause-ascending
returns-clause-ascending c =
    ascend_standing c.args.gone.now.keys c.args.keys.now.items c.retain.new.self.items
    (filter_same _ (λ k. not (is_among c.args.gone.now.keys k)) _ (λ x b f' k. search (rules, of_calls)) _ _ c.retain.ensures.filtered)
