use Rattle.std.proofs.Common.{ℕ, List, sym, ◌∙◌, subst}
use Rattle.mq_tables.specs.KeyOrder.{AreKept}
use Rattle.mq_tables.proofs.SeekLemmas.{none_told, one_told}
use Rattle.mq_tables.proofs.keyed_rows.KeyedRows.places_told.Goals as goal

pub returns-in-Some : goal.returns-in-Some
returns-in-Some c =
    let key = c.is_key_of.ensures c.if-not-is_key_of.false in
    one_told c.args.schema.now c.self.inside.rows.items c.self.inside.order c.as_slice.result.now key.0 key.1
    (subst (λ (cs : List ℕ). AreKept cs c.self.inside.rows.items c.self.inside.order) (sym c.as_slice.ensures) c.self.invariant) (c.are_alike.ensures c.if-not-are_alike.false) c.args.key.now
    c.args.self.now c.as_slice-in-Some.result.now c.self.view_is c.as_slice-in-Some.ensures.value c.place_with.result c.place_with.ensures

pub returns : goal.returns
returns c =
    let key = c.is_key_of.ensures c.if-not-is_key_of.false in
    none_told c.args.schema.now c.self.inside.rows.items c.self.inside.order c.as_slice.result.now key.0 key.1
    (subst (λ (cs : List ℕ). AreKept cs c.self.inside.rows.items c.self.inside.order) (sym c.as_slice.ensures) c.self.invariant) (c.are_alike.ensures c.if-not-are_alike.false) c.args.key.now
    c.args.self.now c.as_slice-2.result.now c.self.view_is c.as_slice-2.ensures.value c.first.result c.first.ensures (sym c.contains.ensures ∙ c.if-contains.false)
    (c.first_has_groups_of.ensures c.if-not-first_has_groups_of.false)
