use Rattle.std.proofs.Common.{None, get_or, length, sym, ap, ◌∙◌, arith}
use Rattle.mq_tables.specs.Staging.{Staged}
use Rattle.mq_tables.proofs.NoteLemmas.{none_behind}
use Rattle.mq_tables.proofs.staged.Staged.from.Goals as goal

pub returns-in-None : goal.returns-in-None
returns-in-None c =
    let past = c.in-None.ensures.lookup.3 in
    let lent = ap length c.deref.ensures.value in
    sym (none_behind c.self.inside.places.items c.self.inside.rows c.args.place (omega (arith, past, lent)))
    ∙ ap (λ (s : Staged). get_or s.origins c.args.place None) c.self.view_is
