-- What follows for the shape that is found of keys, and of a partition.
use Rattle.std.proofs.Common.{◌≡◌, List, [], Option, Some, None, Result, Ok, Err, length, refl, sym, ap, subst, ◌∙◌}
use Rattle.std.specs.Cmp.{IsTotalOrder, nat_cmp_total, on_total, then_total}
use Rattle.std.specs.List.{enumerate_from}
use Rattle.std.specs.List.Sorted.{IsStrictlySortedBy}
use Rattle.std.specs.Map.{keys_of}
use Rattle.std.specs.Option.{option_map, option_map_or, option_or}
use Rattle.std.specs.Prelude.{nat_lt, if◌then◌else◌}
use Rattle.mq_values.specs.declared.faults.FaultKind.TheVariants as kind
use Rattle.mq_values.specs.declared.faults.QueryFault.{QueryFault}
use Rattle.mq_values.specs.declared.limits.TheConstants.{MAX_CELLS_OF_PARTITION}
use Rattle.mq_values.specs.Order.{cmp_key}
use Rattle.mq_values.specs.OrderLaws.{key_total}
use Rattle.mq_ir.specs.declared.query.PartInput.{PartInput}
use Rattle.mq_ir.specs.declared.query.PartShape.{PartShape}
use Rattle.mq_ir.specs.Automatic.{cycle_in, levelled_shape, shape_found}
use Rattle.mq_ir.specs.Iteration.{input_fault}
use Rattle.mq_ir.specs.Keys.{Tuple}
use Rattle.mq_ir.specs.Placed.{Placed, at_partition, placed_fault}
use Rattle.mq_ir.specs.Ready.{IsReady}
use Rattle.mq_ir.specs.Results.{◌>>=◌, each_in_turn, marked}
use Rattle.mq_ir.specs.Rising.{Rising}
use Rattle.mq_ir.specs.Shape.{Assignment, Growing, cmp_assignment, shape_over, shape_rule}
use Rattle.mq_ir.specs.SortLaws.{rising_ascending}
use Rattle.mq_ir.specs.Partitions.{ascending}
use Rattle.mq_ir.specs.Unfolding.{Model}
use Rattle.mq_change_laws.specs.ShapeLaws.{ShapeIsSound}
use Rattle.mq_auto.specs.declared.verdict.Verdict.TheVariants.{Done}
use Rattle.mq_auto.specs.Meaning.{judged, verdict_on}
use Rattle.mq_auto_shape.specs.Conditions.{AreReady}
use Rattle.mq_auto_shape.specs.Found.{shape_meant}
use Rattle.mq_lineage.specs.Found.{IsFound, MayBeDerived}

assignment_total : IsTotalOrder cmp_assignment
assignment_total =
    then_total (on_total (λ (a : Assignment). a.0) key_total)
    (then_total (on_total (λ (a : Assignment). a.1) nat_cmp_total) (on_total (λ (a : Assignment). a.2) nat_cmp_total))

none_twice : (o : Option Tuple) (b : Option Placed) → option_or (option_map (λ key. placed_fault 0 key kind.NotUnique) o) b ≡ None → o ≡ None
none_twice None b h = refl
none_twice (Some key) b h = cc

module _ (model : Model) where
  -- a shape without a fault and without a cycle is one that the rules make
  levelled_parts : (keys : List Tuple) (shape : PartShape) → levelled_shape model keys ≡ Ok shape
      → (shape_over model keys ≡ Ok shape) × (cycle_in model shape ≡ None)
  levelled_parts keys shape h = made (shape_over model keys) refl h
    where
      kept : (s : PartShape) (o : Option Placed) → cycle_in model s ≡ o → option_map_or Err o (Ok s) ≡ Ok shape
          → (s ≡ shape) × (cycle_in model shape ≡ None)
      kept s None e h = let same : s ≡ shape = cc in (same, subst (λ x. cycle_in model x ≡ None) same e)
      kept s (Some fault) e h = cc

      made : (r : Result PartShape Placed) → shape_over model keys ≡ r
          → (r >>= (λ s. option_map_or Err (cycle_in model s) (Ok s))) ≡ Ok shape
          → (shape_over model keys ≡ Ok shape) × (cycle_in model shape ≡ None)
      made (Ok s) e h = let k = kept s (cycle_in model s) refl h in (e ∙ ap Ok k.0, k.1)
      made (Err fault) e h = cc

  -- its assignments ascend, and its input has these keys
  over_parts : (keys : List Tuple) (shape : PartShape) → shape_over model keys ≡ Ok shape
      → Rising cmp_assignment shape.assigned × (shape.base ≡ keys)
  over_parts keys shape h = by (each_in_turn (shape_rule model) (enumerate_from 1 model.part.rules) begun) h
    where
      begun : Growing
      begun = record { set = keys; assigned = [] }

      made_of : Growing → PartShape
      made_of g = record { base = keys; cells = g.set; assigned = ascending cmp_assignment g.assigned }

      by : (r : Result Growing Placed) → (r >>= (λ g. Ok (made_of g))) ≡ Ok shape
          → Rising cmp_assignment shape.assigned × (shape.base ≡ keys)
      by (Ok g) h =
          let same : made_of g ≡ shape = cc in (
            subst (λ (s : PartShape). Rising cmp_assignment s.assigned) same (rising_ascending assignment_total g.assigned),
            ap (λ (s : PartShape). s.base) (sym same),
          )
      by (Err fault) h = cc

  -- what is found once more is that shape
  pub same_found : (keys : List Tuple) (shape again : PartShape) → Ok shape ≡ levelled_shape model keys → Ok again ≡ shape_meant model keys
      → again ≡ shape
  same_found keys shape again h e =
      let same : Ok again ≡ Ok shape = e ∙ ap (marked (at_partition [])) (sym h) in cc

  pub never_fault : (keys : List Tuple) (shape : PartShape) (fault : QueryFault) → Ok shape ≡ levelled_shape model keys
      → Err fault ≡ shape_meant model keys → ⊥
  never_fault keys shape fault h e =
      let same : Err fault ≡ Ok shape = e ∙ ap (marked (at_partition [])) (sym h) in cc

  -- a shape of keys that ascend, without a fault and without a cycle
  pub is_found : (keys : List Tuple) (shape : PartShape) → ShapeIsSound model keys shape → IsStrictlySortedBy cmp_key keys
      → Ok shape ≡ levelled_shape model keys → IsFound model shape
  is_found keys shape law sorted h =
      let parts = levelled_parts keys shape (sym h) in
      let sound = law sorted parts.0 in
      record {
        levelled = parts.1;
        ascend = (over_parts keys shape parts.0).0;
        ruled = sound.ruled;
        own = sound.own;
        there = sound.placed;
      }

  -- the shape of a partition on which the rules may run
  module _ (p : PartInput) (shape : PartShape) (ready : IsReady model.part p) where
    abbrev others : Option Placed
    others = if nat_lt MAX_CELLS_OF_PARTITION (length p.cells) then Some (placed_fault 0 [] kind.TooManyCells) else None

    found_is : (r : Result PartShape Placed) → Done shape ≡ judged p.key r → r ≡ Ok shape
    found_is (Ok s) h = let same : shape ≡ s = cc in ap Ok (sym same)
    found_is (Err fault) h = cc

    whole : shape_found model p ≡ Ok shape → (o : Option Placed) → input_fault p ≡ o
        → option_map_or Err o (levelled_shape model (keys_of p.cells)) ≡ Ok shape → MayBeDerived model p shape
    whole found (Some fault) e h = cc
    whole found None e h =
        let parts = levelled_parts (keys_of p.cells) shape h in
        let base = (over_parts (keys_of p.cells) shape parts.0).1 in
        record {
          ready = subst (AreReady model.part) (sym base) (record {
            lefts = ready.lefts;
            wide = ready.wide;
            ascend = ready.ascend (none_twice p.repeated others e);
          });
          found = sym (ap (levelled_shape model) base ∙ h);
          whole = found;
        }

    pub may_be_derived : Done shape ≡ verdict_on model p → MayBeDerived model p shape
    may_be_derived h = let found = found_is (shape_found model p) h in whole found (input_fault p) refl found
