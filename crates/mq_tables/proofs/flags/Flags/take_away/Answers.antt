use Rattle.std.proofs.Common.{◌≡◌, ◌≤◌, List, Bool, length, false, true, sym, ◌∙◌, arith, subst}
use Rattle.std.specs.Vec.{vec_len}
use Rattle.std.proofs.lemmas.Bool.{eqb-true}
use Rattle.mq_tables.specs.InPlace.{items_left}
use Rattle.mq_tables.proofs.LeftLemmas.{first_flag, none_gone, one_gone, one_left, told_within}
use Rattle.mq_tables.proofs.flags.Flags.take_away.Goals as goal

pub returns-then-is_empty : goal.returns-then-is_empty
returns-then-is_empty g c =
    let items = c.args.items.now.items in
    let told = c.self.inside.told.items in
    let k = c.self.inside.told.ok.0 in
    let e = eqb-true (vec_len c.self.inside.told) 0 (sym c.is_empty.ensures ∙ c.if-is_empty.true) in
    let none : length told ≡ 0 = omega (arith, k, e) in
    let long : length items ≤ length (told_within c.self.inside.before told c.self.inside.behind) = subst (λ (l : List Bool). length items ≤ length l) (sym c.self.view_is) c.requires in
    subst (λ (l : List Bool). items ≡ items_left items l) c.self.view_is (none_gone items c.self.inside.before told c.self.inside.behind none long)

pub returns-then-index : goal.returns-then-index
returns-then-index g c =
    let items = c.args.items.now.items in
    let told = c.self.inside.told.items in
    let k = c.self.inside.told.ok.0 in
    let t = c.if-len-eq1.true in
    let e = c.len.ensures in
    let one : length told ≡ 1 = omega (arith, k, t, e) in
    let long : length items ≤ length (told_within c.self.inside.before told c.self.inside.behind) = subst (λ (l : List Bool). length items ≤ length l) (sym c.self.view_is) c.requires in
    subst (λ (l : List Bool). c.take_one.new.items.items ≡ items_left items l) c.self.view_is
    (one_gone items c.take_one.new.items.items c.self.inside.before told c.self.inside.behind one (first_flag told c.index.result.now true one c.index.ensures c.if-index.true) long c.take_one.ensures)

pub returns-else-index : goal.returns-else-index
returns-else-index g c =
    let items = c.args.items.now.items in
    let told = c.self.inside.told.items in
    let k = c.self.inside.told.ok.0 in
    let t = c.if-len-eq1.true in
    let e = c.len.ensures in
    let one : length told ≡ 1 = omega (arith, k, t, e) in
    let long : length items ≤ length (told_within c.self.inside.before told c.self.inside.behind) = subst (λ (l : List Bool). length items ≤ length l) (sym c.self.view_is) c.requires in
    subst (λ (l : List Bool). items ≡ items_left items l) c.self.view_is
    (one_left items c.self.inside.before told c.self.inside.behind one (first_flag told c.index.result.now false one c.index.ensures c.if-index.false) long)
