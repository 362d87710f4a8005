use Rattle.std.proofs.Common.{sym, ap, ◌∙◌}
use Rattle.std.proofs.lemmas.Result.{on_ok_weaker}
use Rattle.mq_dim_index.specs.Places.{is_there}
use Rattle.mq_auto_shape.specs.Numbers.{Numbered}
use Rattle.mq_auto_shape.proofs.NumberLemmas.{has_place, put_differs}
use Rattle.mq_auto_shape.proofs.numbers.Numbers.put.Goals as goal

pub unreachable-requires : goal.unreachable-requires
unreachable-requires c = has_place c.self.inside.cells.now c.args.key.now (ap (λ (s : Numbered). is_there s.keys c.args.key.now) c.self.view_is ∙ c.requires) c.in_default.ensures

pub returns-clause-ok : goal.returns-clause-ok
returns-clause-ok c =
    on_ok_weaker c.put.result
    (put_differs c.args.self.now c.self.inside.cells.now c.self.inside.lanes c.put.new.self c.args.key.now c.args.m c.in-Some.place c.args.number c.self.view_is
    (sym c.place_near.ensures ∙ c.in-Some.is)) c.put.ensures.ok
