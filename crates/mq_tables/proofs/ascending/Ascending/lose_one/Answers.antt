use Rattle.std.proofs.Common.{List, false, sym, ap, ◌∙◌}
use Rattle.std.specs.Prelude.{cond}
use Rattle.mq_ir.specs.Keys.{Tuple, is_among, is_same}
use Rattle.mq_tables.proofs.RemovalLemmas.{lost_none}
use Rattle.mq_tables.proofs.StandingLemmas.{ascend_noted, ascend_without, noted, standing_key, taken_out}
use Rattle.mq_tables.proofs.ascending.Ascending.lose_one.Goals as goal

pub returns-then-not-contains : goal.returns-then-not-contains
returns-then-not-contains c = lost_none c.args.self.now c.args.key.now (sym c.contains.ensures ∙ c.if-not-contains.true)

pub invariant_of-self : goal.invariant_of-self
invariant_of-self c =
    let own = c.self.inside in
    let there = standing_key own.gone.keys own.keys.items c.args.self.now c.args.key.now c.self.view_is (sym c.contains.ensures ∙ c.if-not-contains.false) in
    ascend_without own.gone.keys c.put_copy.new.keys.keys own.keys.items c.take_out.new.keys.items c.args.key.now (c.put_copy.ensures.kept c.if-not-put_copy.true) there.1 c.take_out.ensures.lost
    c.take_out.ensures.ascending c.self.invariant

pub invariant_of-self-else-not-put_copy : goal.invariant_of-self-else-not-put_copy
invariant_of-self-else-not-put_copy c =
    let own = c.self.inside in
    let there = standing_key own.gone.keys own.keys.items c.args.self.now c.args.key.now c.self.view_is (sym c.contains.ensures ∙ c.if-not-contains.false) in
    ascend_noted own.gone.keys c.put_copy.new.keys.keys own.keys.items c.args.key.now (c.put_copy.ensures.put c.if-not-put_copy.false) there.0 c.self.invariant

pub returns-then-not-put_copy : goal.returns-then-not-put_copy
returns-then-not-put_copy c q =
    let own = c.self.inside in
    taken_out own.gone.keys c.put_copy.new.keys.keys own.keys.items c.take_out.new.keys.items c.args.key.now (c.put_copy.ensures.kept c.if-not-put_copy.true) c.take_out.ensures.lost q
    ∙ ap (λ (l : List Tuple). cond (is_same c.args.key.now q) false (is_among l q)) c.self.view_is

pub returns-else-not-put_copy : goal.returns-else-not-put_copy
returns-else-not-put_copy c q =
    let own = c.self.inside in
    noted own.gone.keys c.put_copy.new.keys.keys own.keys.items c.args.key.now (c.put_copy.ensures.put c.if-not-put_copy.false) q
    ∙ ap (λ (l : List Tuple). cond (is_same c.args.key.now q) false (is_among l q)) c.self.view_is
