-- A shape without a cycle is one of which every node is levelled.
use Rattle.std.proofs.Common.{◌≡◌, ◌↔◌, Bool, true, false, not, List, [], ◌∷◌, cond, Option, Some, None, slice_get, refl, ap, ◌∙◌, eqb}
use Rattle.std.specs.List.{filter, find}
use Rattle.std.specs.Option.{option_map}
use Rattle.std.specs.Ordering.{is_gt}
use Rattle.std.specs.Prelude.{if◌then◌else◌}
use Rattle.std.specs.declared.cmp.Ordering.{Ordering}
use Rattle.std.proofs.lemmas.Bool.{and_parts, eqb-true}
use Rattle.mq_values.specs.declared.faults.FaultKind.TheVariants as kind
use Rattle.mq_ir.specs.declared.query.CellName.{CellName}
use Rattle.mq_ir.specs.declared.query.Look.{Look}
use Rattle.mq_ir.specs.declared.query.Look.TheVariants.{Measure, Presence}
use Rattle.mq_ir.specs.declared.query.PartShape.{PartShape}
use Rattle.mq_ir.specs.Automatic.{cycle_in, node_of, round_count}
use Rattle.mq_ir.specs.EachLaws.{Each}
use Rattle.mq_ir.specs.Keys.{is_same}
use Rattle.mq_ir.specs.Partitions.{ascending, placed}
use Rattle.mq_ir.specs.Placed.{Placed, placed_fault}
use Rattle.mq_ir.specs.Shape.{Assignment, assigns, cmp_by_rule, least_of}
use Rattle.mq_ir.specs.Unfolding.{Model}
use Rattle.mq_change_laws.specs.NodeLaws.{unassigned_levelled}
use Rattle.mq_change_laws.specs.Sides.{is_levelled_in}
use Rattle.mq_change_laws.specs.SoundLaws.{found_has, same_is}

-- There is no cycle exactly where each node is levelled in the end.
abbrev pub NoCycleLevelsAll : Model → PartShape → Type 0
NoCycleLevelsAll model shape = (cycle_in model shape ≡ None) ↔ ((node : Look) → is_levelled_in model shape node ≡ true)

least_some : {K : Type 0} (cmp : K → K → Ordering) (x : K) (xs : List K) → slice_get (placed cmp x xs) 0 ≡ None → ⊥
least_some cmp x [] h = cc
least_some cmp x (y ∷ ys) h = by (is_gt (cmp x y)) h
  where
    by : (b : Bool) → slice_get (if b then y ∷ placed cmp x ys else x ∷ y ∷ ys) 0 ≡ None → ⊥
    by true h = cc
    by false h = cc

-- only of no items there is no least
pub least_none : {K : Type 0} (cmp : K → K → Ordering) (xs : List K) → least_of cmp xs ≡ None → xs ≡ []
least_none cmp [] h = refl
least_none cmp (x ∷ xs) h = absurd (least_some cmp x (ascending cmp xs) h)

-- where a test keeps nothing, each item fails it
pub none_kept : {K : Type 0} (p : K → Bool) (xs : List K) → filter p xs ≡ [] → Each (λ x. p x ≡ false) xs
none_kept p [] h = tt
none_kept p (x ∷ xs) h = by (p x) refl (none_kept p xs) h
  where
    by : (b : Bool) → p x ≡ b → (filter p xs ≡ [] → Each (λ x. p x ≡ false) xs) → cond b (x ∷ filter p xs) (filter p xs) ≡ []
        → Each (λ x. p x ≡ false) (x ∷ xs)
    by true e rest h = cc
    by false e rest h = (e, rest h)

module _ (model : Model) (shape : PartShape) where
  abbrev unlevelled : Assignment → Bool
  unlevelled a = not (is_levelled_in model shape (node_of a))

  -- those that are never levelled, and the fault of one
  abbrev late : List Assignment
  late = filter unlevelled shape.assigned

  abbrev as_fault : Assignment → Placed
  as_fault a = placed_fault a.2 a.0 kind.Cycle

  least_is_none : {A B : Type 0} (f : A → B) (o : Option A) → option_map f o ≡ None → o ≡ None
  least_is_none f None h = refl
  least_is_none f (Some x) h = cc

  each_levelled : cycle_in model shape ≡ None → Each (λ a. unlevelled a ≡ false) shape.assigned
  each_levelled none =
      none_kept unlevelled shape.assigned (least_none cmp_by_rule late (least_is_none as_fault (least_of cmp_by_rule late) none))

  same_node : (c : CellName) (a : Assignment) → assigns c.measure c.key a ≡ true → Measure c ≡ node_of a
  same_node c a h =
      let both = and_parts (is_same c.key a.0) (eqb c.measure a.1) h in
      let key : c.key ≡ a.0 = same_is c.key a.0 both.0 in
      let measure : c.measure ≡ a.1 = eqb-true c.measure a.1 both.1 in
      λ i. Measure (record { key = key i; measure = measure i })

  levelled_by : cycle_in model shape ≡ None → (c : CellName) (o : Option Assignment)
      → find (assigns c.measure c.key) shape.assigned ≡ o → is_levelled_in model shape (Measure c) ≡ true
  levelled_by none c None e = unassigned_levelled model shape (round_count shape) (Measure c) (rw e refl)
  levelled_by none c (Some a) e =
      let at = found_has (λ (a : Assignment). unlevelled a ≡ false) (assigns c.measure c.key) shape.assigned (each_levelled none) a e in
      ap (is_levelled_in model shape) (same_node c a at.1) ∙ passes (is_levelled_in model shape (node_of a)) at.0
    where
      passes : (b : Bool) → not b ≡ false → b ≡ true
      passes true h = refl
      passes false h = cc

  pub all_levelled : cycle_in model shape ≡ None → (t : Look) → is_levelled_in model shape t ≡ true
  all_levelled none (Measure c) = levelled_by none c (find (assigns c.measure c.key) shape.assigned) refl
  all_levelled none (Presence key) = unassigned_levelled model shape (round_count shape) (Presence key) refl

  kept_none : {A : Type 0} (p : A → Bool) (xs : List A) → ((x : A) → p x ≡ false) → filter p xs ≡ []
  kept_none p [] h = refl
  kept_none p (x ∷ xs) h = ap (λ b. cond b (x ∷ filter p xs) (filter p xs)) (h x) ∙ kept_none p xs h

  no_cycle : ((t : Look) → is_levelled_in model shape t ≡ true) → cycle_in model shape ≡ None
  no_cycle all =
      ap (λ l. option_map as_fault (least_of cmp_by_rule l)) (kept_none unlevelled shape.assigned (λ a. ap not (all (node_of a))))

  pub no_cycle_levels_all : NoCycleLevelsAll model shape
  no_cycle_levels_all = (all_levelled, no_cycle)
