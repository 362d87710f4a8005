use Rattle.std.proofs.Common.{position, sym, ap, ◌∙◌}
use Rattle.mq_cells.proofs.LookedLemmas.{is_at, put_behind, put_there}
use Rattle.mq_cells.proofs.looked.put_among.Goals as goal

pub returns-in-Some-clause-ok : goal.returns-in-Some-clause-ok
returns-in-Some-clause-ok c =
    put_there c.args.name c.args.slot c.args.results.now.items c.in-Some.at
    (ap (position (is_at c.args.name)) (sym c.deref.ensures.value) ∙ sym c.in-Some.ensures)

pub returns-in_ok-push-in-None-clause-ok : goal.returns-in_ok-push-in-None-clause-ok
returns-in_ok-push-in-None-clause-ok c =
    put_behind c.args.name c.args.slot c.args.results.now.items c.push.new.self.items
    (ap (position (is_at c.args.name)) (sym c.deref.ensures.value) ∙ sym c.in-None.ensures)
    c.in_ok-push-in-None.ensures.items
