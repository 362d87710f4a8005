use Rattle.std.proofs.Common.{◌≡◌, ◌<◌, true, None, Some, List, length, set, sym, subst, ◌∙◌, arith, rules}
use Rattle.std.specs.Vec.{vec_len}
use Rattle.mq_values.specs.declared.value.Value.{Value}
use Rattle.mq_cells.specs.Stores.{cell_name}
use Rattle.mq_auto_shape.specs.Numbers.{number_at}
use Rattle.mq_lineage.specs.Closing.{HasOneMore}
use Rattle.mq_lineage.specs.Held.{HeldMeasures, is_held}
use Rattle.mq_lineage.specs.Nodes.{Numbers}
use Rattle.mq_lineage.proofs.HeldLemmas.{flag_held, name_apart, name_held}
use Rattle.mq_lineage.proofs.NodeLemmas.{named_next}
use Rattle.mq_lineage.proofs.source_set.SourceSet.add.Goals as goal

pub index_mut-requires : goal.index_mut-requires
index_mut-requires c =
    let name = c.args.name.now in
    let below : c.in-Some.place < length c.self.inside.derived.items =
    c.self.invariant.own.below name c.in-Some.place
    ((λ i. number_at c.self.inside.places (sym c.as_slice.ensures i) name.measure) ∙ sym c.in-Some.ensures)
    in
    let whole : vec_len c.self.inside.derived ≡ length c.self.inside.derived.items = search rules in
    omega (arith, below, whole)

pub returns-in-Some-clause-more : goal.returns-in-Some-clause-more
returns-in-Some-clause-more c =
    let held = c.self.inside in
    let name = c.args.name.now in
    let found : number_at held.places name.key name.measure ≡ Some c.in-Some.place = (λ i. number_at held.places (sym c.as_slice.ensures i) name.measure) ∙ sym c.in-Some.ensures in
    subst (λ (s : HeldMeasures). HasOneMore name (is_held s) (is_held (record { places = held.places; derived = set held.derived.items c.in-Some.place true; given = held.given })))
    c.self.view_is (flag_held held.places held.derived.items held.given name c.self.invariant c.in-Some.place found)

pub invariant_of-self-in_ok-put-in-None : goal.invariant_of-self-in_ok-put-in-None
invariant_of-self-in_ok-put-in-None c =
    let held = c.self.inside in
    let name = c.args.name.now in
    name_apart held.places held.derived.items held.given name c.self.invariant
    ((λ i. number_at held.places (sym c.as_slice.ensures i) name.measure) ∙ sym c.in-None.ensures) c.put.new.self
    (named_next name 0 held.given c.put.new.self
    (subst (λ (key : List Value). Numbers held.given c.put.new.self (cell_name key name.measure) 0) c.in_ok-copy-in-None.ensures c.in_ok-put-in-None.ensures.ok))

pub returns-in_ok-put-in-None-clause-more : goal.returns-in_ok-put-in-None-clause-more
returns-in_ok-put-in-None-clause-more c =
    let held = c.self.inside in
    let name = c.args.name.now in
    subst (λ (s : HeldMeasures). HasOneMore name (is_held s) (is_held (record { places = held.places; derived = held.derived.items; given = c.put.new.self })))
    c.self.view_is
    (
    name_held held.places held.derived.items held.given name c.self.invariant
    ((λ i. number_at held.places (sym c.as_slice.ensures i) name.measure) ∙ sym c.in-None.ensures) c.put.new.self
    (named_next name 0 held.given c.put.new.self
    (subst (λ (key : List Value). Numbers held.given c.put.new.self (cell_name key name.measure) 0) c.in_ok-copy-in-None.ensures c.in_ok-put-in-None.ensures.ok))
    )
