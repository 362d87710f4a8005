-- What follows for a measure of a cell where the shape of an input is sound.
use Rattle.std.proofs.Common.{◌≡◌, ℕ, ◌-◌, ◌<◌, Bool, true, false, List, [], ◌∷◌, cond, Option, Some, None, IsSome, slice_get, slice_index_or, refl, sym, ap, subst, ◌∙◌, eqb}
use Rattle.std.specs.List.{find}
use Rattle.std.specs.Map.{keys_of}
use Rattle.std.specs.Option.{option_and_then, option_map, option_map_or}
use Rattle.std.specs.Ordering.{is_eq}
use Rattle.std.specs.declared.cmp.Ordering.{Ordering}
use Rattle.std.specs.declared.cmp.Ordering.TheVariants.{Less, Equal, Greater}
use Rattle.std.proofs.lemmas.Bool.{and_parts, or_parts}
use Rattle.mq_values.specs.declared.value.Value.TheVariants.{Null}
use Rattle.mq_values.specs.Order.{cmp_key}
use Rattle.mq_values.specs.OrderTells.{same_key}
use Rattle.mq_ir.specs.declared.query.CellName.{CellName}
use Rattle.mq_ir.specs.declared.query.Look.TheVariants.{Measure}
use Rattle.mq_ir.specs.Affected.{Side}
use Rattle.mq_ir.specs.Automatic.{node_looks, rule_at}
use Rattle.mq_ir.specs.EachLaws.{Each, each_in}
use Rattle.mq_ir.specs.Keys.{Tuple, is_among, is_same}
use Rattle.mq_ir.specs.Partitions.{Cells, cell_at}
use Rattle.mq_ir.specs.Reads.{measure_at}
use Rattle.mq_ir.specs.Shape.{Assignment, assigns}
use Rattle.mq_ir.specs.Unfolding.{Model}
use Rattle.mq_change_laws.specs.NodeLaws.{looked}
use Rattle.mq_change_laws.specs.ShapeLaws.{IsSound}

equal_is : (r : Ordering) → is_eq r ≡ true → r ≡ Equal
equal_is Less h = cc
equal_is Equal h = refl
equal_is Greater h = cc

pub same_is : (a b : Tuple) → is_same a b ≡ true → a ≡ b
same_is a b h = same_key a b (equal_is (cmp_key a b) h)

-- an item that is found has what each item has, and passes
pub found_has : {A : Type 0} (P : A → Type 0) (p : A → Bool) (xs : List A) → Each P xs → (a : A) → find p xs ≡ Some a → P a × (p a ≡ true)
found_has P p [] all a h = cc
found_has {A} P p (x ∷ xs) all a h = by (p x) refl (found_has P p xs all.1 a) h
  where
    by : (b : Bool) → p x ≡ b → (find p xs ≡ Some a → P a × (p a ≡ true)) → cond b (Some x) (find p xs) ≡ Some a → P a × (p a ≡ true)
    by true e rest h = let is : x ≡ a = cc in (subst P is all.0, ap p (sym is) ∙ e)
    by false e rest h = rest h

-- what stands at no key of these cells is null in them
missing : (c : CellName) (cells : Cells) → is_among (keys_of cells) c.key ≡ false → measure_at cells c ≡ Null
missing c [] h = refl
missing c (x ∷ xs) h =
    let both = or_parts (is_same c.key x.0) (is_among (keys_of xs) c.key) h in
    ap (λ b. option_map_or (λ measures. slice_index_or measures c.measure Null) (cond b (Some x.1) (cell_at xs c.key)) Null) both.0
    ∙ missing c xs both.1

-- a rule of the model
abbrev IsRule : Model → Assignment → Type 0
IsRule model a = (0 < a.2) × IsSome (slice_get model.part.rules (a.2 - 1))

module _ (model : Model) (side : Side) (sound : IsSound model (keys_of side.input) side.shape) where
  abbrev found_at : CellName → Option Assignment
  found_at c = find (assigns c.measure c.key) side.shape.assigned

  placed_by : (c : CellName) (o : Option Assignment) → found_at c ≡ o → (number : ℕ) → option_map (λ a. a.2) o ≡ Some number
      → is_among side.shape.cells c.key ≡ true
  placed_by c None e number h = cc
  placed_by c (Some a) e number h =
      let at = found_has (λ (a : Assignment). is_among side.shape.cells a.0 ≡ true) (assigns c.measure c.key) side.shape.assigned
      (each_in (λ (a : Assignment). is_among side.shape.cells a.0 ≡ true) side.shape.assigned sound.placed) a e in
      let same : c.key ≡ a.0 = same_is c.key a.0 (and_parts (is_same c.key a.0) (eqb c.measure a.1) at.1).0 in
      ap (is_among side.shape.cells) same ∙ at.0

  -- the cell of an assigned measure is there
  pub placed_at : (c : CellName) (number : ℕ) → rule_at side.shape (Measure c) ≡ Some number → is_among side.shape.cells c.key ≡ true
  placed_at c number h = placed_by c (found_at c) refl number h

  pub unplaced : (c : CellName) → is_among side.shape.cells c.key ≡ false → rule_at side.shape (Measure c) ≡ None
  unplaced c h = by (rule_at side.shape (Measure c)) refl
    where
      by : (o : Option ℕ) → rule_at side.shape (Measure c) ≡ o → o ≡ None
      by None e = refl
      by (Some number) e = let k : true ≡ false = sym (placed_at c number e) ∙ h in cc

  ruled_by : (c : CellName) (o : Option Assignment) → found_at c ≡ o → (number : ℕ) → option_map (λ a. a.2) o ≡ Some number
      → IsSome (slice_get model.part.rules (number - 1))
  ruled_by c None e number h = cc
  ruled_by c (Some a) e number h =
      let at = found_has (IsRule model) (assigns c.measure c.key) side.shape.assigned
      (each_in (IsRule model) side.shape.assigned sound.ruled) a e in
      let is : a.2 ≡ number = cc in
      subst (λ n. IsSome (slice_get model.part.rules (n - 1))) is at.0.1

  -- its rule is one of the model
  pub ruled_at : (c : CellName) (number : ℕ) → rule_at side.shape (Measure c) ≡ Some number
      → IsSome (slice_get model.part.rules (number - 1))
  ruled_at c number h = ruled_by c (found_at c) refl number h

  -- a cell that is not there in the end is not in the input either
  pub not_based : (key : Tuple) → is_among side.shape.cells key ≡ false → is_among side.shape.base key ≡ false
  not_based key h = by (is_among side.shape.base key) refl
    where
      by : (b : Bool) → is_among side.shape.base key ≡ b → b ≡ false
      by true e = let k : true ≡ false = sym (sound.kept key e) ∙ h in cc
      by false e = refl

  -- what is not in the input is null there
  pub null_at : (c : CellName) → is_among side.shape.base c.key ≡ false → measure_at side.input c ≡ Null
  null_at c h = missing c side.input (sym (ap (λ keys. is_among keys c.key) sound.base) ∙ h)

  -- what no rule assigns has no looks
  pub unassigned_at : (c : CellName) → rule_at side.shape (Measure c) ≡ None → node_looks model side.shape (Measure c) ≡ None
  unassigned_at c h =
      ap (λ o. looked model side.shape (Measure c) (option_and_then (λ number. slice_get model.part.rules (number - 1)) o)) h
