use Rattle.std.proofs.Common.{sym, ◌∙◌}
use Rattle.mq_auto.proofs.stored.stored_cell.Goals as goal

pub stored_measures-requires : goal.stored_measures-requires
stored_measures-requires c = λ no. c.requires.standing c.args.key.now (sym (c.requires.updated c.args.key.now) ∙ sym c.has-updated.ensures ∙ no)
