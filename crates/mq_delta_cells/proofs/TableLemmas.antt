-- Numbers at measures of cells, once one is put.
use Rattle.std.proofs.Common.{◌≡◌, ℕ, ◌==◌, ◌&&◌, Bool, true, false, List, [], get_or, Option, Some, None, if◌then◌else◌, refl, sym, ap, ◌∙◌}
use Rattle.std.specs.BTreeMap.{is_at}
use Rattle.std.specs.Cmp.{unsigned_Decides}
use Rattle.std.specs.Option.{option_map_or}
use Rattle.std.specs.Ordering.{is_eq}
use Rattle.std.proofs.lemmas.List.Quantifiers.{position-Some}
use Rattle.mq_values.specs.Order.{cmp_key}
use Rattle.mq_values.specs.OrderTells.{key_itself}
use Rattle.mq_dim_index.specs.Places.{place_of}
use Rattle.mq_ir.specs.declared.query.CellName.{CellName}
use Rattle.mq_ir.specs.Keys.{Tuple, is_same}
use Rattle.mq_cells.specs.LaneItems.{LaneDiffers, Lanes, lane_item}
use Rattle.mq_cells.specs.Stores.{cell_name, is_named}
use Rattle.mq_change_laws.specs.SoundLaws.{same_is}
use Rattle.mq_delta_cells.specs.Nodes.{Nodes, Numbers, number_in}
use Rattle.mq_delta_cells.specs.Tables.{NumbersBy, Table, no_numbers, number_by}

-- where no measure has a number
pub none_by : (keys : List Tuple) (c : CellName) → number_by keys no_numbers c ≡ None
none_by keys c = by (place_of keys c.key)
  where
    by : (o : Option ℕ) → option_map_or (lane_item {T = ℕ} [] c.measure) o None ≡ None
    by None = refl
    by (Some p) = refl

-- one place has one key
pub one_key : (keys : List Tuple) (a b : Tuple) (at : ℕ) → place_of keys a ≡ Some at → place_of keys b ≡ Some at → is_same a b ≡ true
one_key keys a b at f g =
    let x = same_is a (get_or keys at a) (position-Some (is_at (cmp_key a)) keys at a f).1 in
    let y = same_is b (get_or keys at a) (position-Some (is_at (cmp_key b)) keys at a g).1 in
    sym (ap (λ c. is_eq (cmp_key a c)) (x ∙ sym y)) ∙ ap is_eq (key_itself a)

module _ (keys : List Tuple) (key : Tuple) (m number : ℕ) where
  -- the key of another measure has the same place
  place_same : (k : Tuple) → is_same key k ≡ true → place_of keys k ≡ place_of keys key
  place_same k e = sym (ap (place_of keys) (same_is key k e))

  module _ (before after : Lanes ℕ) (nodes : Nodes) (at : ℕ) (place : place_of keys key ≡ Some at) (d : LaneDiffers before after m at (Some number)) where
    here : (j : ℕ) → lane_item after j at ≡ (if m == j then Some number else lane_item before j at)
    here j = d j at ∙ by (m == j) (at == at) ((unsigned_Decides at at).1 refl)
      where
        by : (a b : Bool) → b ≡ true → (if a && b then Some number else lane_item before j at) ≡ (if a then Some number else lane_item before j at)
        by true true f = refl
        by true false f = cc
        by false b f = refl

    other : (k : Tuple) (j p : ℕ) → is_same key k ≡ false → place_of keys k ≡ Some p → lane_item after j p ≡ lane_item before j p
    other k j p apart e = d j p ∙ by (m == j) (at == p) refl
      where
        by : (a b : Bool) → (at == p) ≡ b → (if a && b then Some number else lane_item before j p) ≡ lane_item before j p
        by true true f =
            let there : place_of keys k ≡ Some at = e ∙ ap Some (sym ((unsigned_Decides at p).0 f)) in
            let same : is_same key k ≡ true = one_key keys key k at place there in
            absurd (cc)
        by true false f = refl
        by false b f = refl

    placed_at : (c : CellName) (b : Bool) → is_same key c.key ≡ b → (o : Option ℕ) → place_of keys c.key ≡ o
        → option_map_or (lane_item after c.measure) o (number_in nodes c)
        ≡ (if b && (m == c.measure) then Some number else option_map_or (lane_item before c.measure) o (number_in nodes c))
    placed_at c true e o f =
        let there : o ≡ Some at = sym f ∙ place_same c.key e ∙ place in
        ap (λ o. option_map_or (lane_item after c.measure) o (number_in nodes c)) there ∙ here c.measure
        ∙ sym (ap (λ o. if m == c.measure then Some number else option_map_or (lane_item before c.measure) o (number_in nodes c)) there)
    placed_at c false e None f = refl
    placed_at c false e (Some p) f = other c.key c.measure p e f

    -- a number is put at the place of a cell
    pub put_placed : NumbersBy keys (record { lanes = before; elsewhere = nodes }) (record { lanes = after; elsewhere = nodes }) (cell_name key m) number
    put_placed c = placed_at c (is_same key c.key) refl (place_of keys c.key) refl

  module _ (lanes : Lanes ℕ) (before after : Nodes) (place : place_of keys key ≡ None) (put : Numbers before after (cell_name key m) number) where
    named_at : (c : CellName) (b : Bool) → is_same key c.key ≡ b → (o : Option ℕ) → place_of keys c.key ≡ o
        → option_map_or (lane_item lanes c.measure) o (number_in after c)
        ≡ (if b && (m == c.measure) then Some number else option_map_or (lane_item lanes c.measure) o (number_in before c))
    named_at c b e None f = put c ∙ ap (λ b. if b && (m == c.measure) then Some number else number_in before c) e
    named_at c true e (Some p) f = let h : None ≡ Some p = sym place ∙ sym (place_same c.key e) ∙ f in absurd (cc)
    named_at c false e (Some p) f = refl

    -- .. or of a cell that has no place
    pub put_named : NumbersBy keys (record { lanes = lanes; elsewhere = before }) (record { lanes = lanes; elsewhere = after }) (cell_name key m) number
    put_named c = named_at c (is_same key c.key) refl (place_of keys c.key) refl

-- a number that is put into the table that is seen like this
pub put_seen : (keys : List Tuple) (seen inside after : Table) (name : CellName) (number : ℕ) → inside ≡ seen
    → NumbersBy keys inside after name number → NumbersBy keys seen after name number
put_seen keys seen inside after name number e h c = h c ∙ ap (λ (t : Table). if is_named name c then Some number else number_by keys t c) e
