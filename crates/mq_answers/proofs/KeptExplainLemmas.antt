-- Explaining a measure of a cell by what is kept of its view.
use Rattle.std.proofs.Common.{◌≡◌, ℕ, zero, suc, ◌<◌, List, [], ◌∷◌, Bool, true, false, cond, length, map, get_or, Option, Some, None, Result, Ok, Err, Less, Equal, refl, sym, ap, subst, ◌∙◌, arith}
use Rattle.std.specs.List.{AllByRecursion, find}
use Rattle.std.specs.List.Sorted.{IsBinarySearchResult, IsStrictlySortedBy}
use Rattle.std.specs.Map.{keys_of}
use Rattle.std.specs.Option.{option_map, option_map_or}
use Rattle.std.specs.Ordering.{is_eq, on}
use Rattle.std.proofs.lemmas.Map.Keys.{Less-from_sorted}
use Rattle.mq_values.specs.Answers.{result_map}
use Rattle.mq_values.specs.Order.{cmp_key}
use Rattle.mq_values.specs.OrderTells.{same_key}
use Rattle.mq_values.specs.declared.faults.QueryFault.{QueryFault}
use Rattle.mq_ir.specs.declared.query.BoundQuery.{BoundQuery}
use Rattle.mq_ir.specs.declared.query.CellName.{CellName}
use Rattle.mq_ir.specs.declared.query.Explained.{Explained}
use Rattle.mq_ir.specs.declared.query.Explained.TheVariants as explained
use Rattle.mq_ir.specs.declared.query.ModelPart.{ModelPart}
use Rattle.mq_ir.specs.declared.query.PartInput.{PartInput}
use Rattle.mq_ir.specs.Automatic.{levelled_shape, shape_found}
use Rattle.mq_ir.specs.Explaining.{explained_in, explained_over, model_with_items}
use Rattle.mq_ir.specs.Keys.{is_same}
use Rattle.mq_ir.specs.Partitions.{Tuple, input_of, partition_keys, partitions}
use Rattle.mq_ir.specs.Placed.{Placed}
use Rattle.mq_ir.specs.RowLaws.{PartitionsAscend}
use Rattle.mq_ir.specs.Tables.{Tables}
use Rattle.mq_ir.specs.Unfolding.{Model}
use Rattle.mq_cells.specs.AscentLaws.{at_no_place, turned}
use Rattle.mq_cells.specs.IndexedStores.{input_in, results_of}
use Rattle.mq_auto.specs.Findings.{IsLevelled}
use Rattle.mq_auto.specs.Meaning.{HoldsValues}
use Rattle.mq_kept.specs.declared.kept_view.KeptPart.{KeptPart}
use Rattle.mq_kept.specs.declared.kept_view.KeptView.{KeptView}
use Rattle.mq_kept.specs.declared.kept_view.ShapedCells.{ShapedCells}
use Rattle.mq_kept.specs.declared.kept_view.SharedShape.{SharedShape}
use Rattle.mq_kept.specs.Kept.{HasValues, IsKept, inputs_of, model_in}
use Rattle.mq_answers.specs.Explained.{PartsAscend, explained_among, has_key, key_of}

-- ---- what a search among ascending partitions finds
module _ (key : Tuple) where
  no_part : (parts : List KeptPart) → ((k : ℕ) (d : KeptPart) → k < length parts → is_same key (key_of (get_or parts k d)) ≡ false)
      → find (has_key key) parts ≡ None
  no_part [] h = refl
  no_part (p ∷ ps) h =
      ap (λ b. cond b (Some p) (find (has_key key) ps)) (h 0 p (omega arith)) ∙ no_part ps (λ k d l. h (suc k) d (omega arith))

  pub missed_part : (parts : List KeptPart) (r : Result ℕ ℕ) (at : ℕ) → IsBinarySearchResult (λ (kept : KeptPart). cmp_key kept.input.key key) parts r
      → r ≡ Err at → PartsAscend parts → None ≡ find (has_key key) parts
  missed_part parts (Ok place) at told is s = absurd (cc)
  missed_part parts (Err place) at told is s = sym (no_part parts (at_no_place key_of parts key s place told))

  first_part : (parts : List KeptPart) (at : ℕ) (d : KeptPart) → PartsAscend parts → at < length parts
      → cmp_key (key_of (get_or parts at d)) key ≡ Equal → find (has_key key) parts ≡ Some (get_or parts at d)
  unfolding IsStrictlySortedBy
  first_part [] at d s l h = absurd (omega arith)
  first_part (p ∷ ps) zero d s l h = ap (λ b. cond b (Some p) (find (has_key key) ps)) (ap is_eq (turned p.input.key key Equal h))
  first_part (p ∷ ps) (suc at) d s l h =
      let less : cmp_key p.input.key key ≡ Less =
      sym (ap (cmp_key p.input.key) (same_key (key_of (get_or ps at d)) key h))
      ∙ Less-from_sorted (on key_of cmp_key) (p ∷ ps) 0 (suc at) d s (omega arith) l in
      ap (λ b. cond b (Some p) (find (has_key key) ps)) (ap is_eq (turned p.input.key key Less less)) ∙ first_part ps at d s.1 (omega arith) h

  abbrev place_in : Result ℕ ℕ → ℕ
  place_in (Ok n) = n
  place_in (Err n) = n

  pub found_part : (parts : List KeptPart) (r : Result ℕ ℕ) (at : ℕ) (d : KeptPart) → at < length parts
      → IsBinarySearchResult (λ (kept : KeptPart). cmp_key kept.input.key key) parts r → r ≡ Ok at → PartsAscend parts
      → Some (get_or parts at d) ≡ find (has_key key) parts
  found_part parts (Ok place) at d l told is s =
      sym (first_part parts at d s l (subst (λ (n : ℕ). cmp_key (key_of (get_or parts n d)) key ≡ Equal) (ap place_in is) (told d)))
  found_part parts (Err place) at d l told is s = absurd (cc)

  -- the same among their inputs
  found_input : (parts : List KeptPart) → find (λ p. is_same key p.key) (inputs_of parts) ≡ option_map (λ kept. kept.input) (find (has_key key) parts)
  found_input [] = refl
  found_input (p ∷ ps) = by (has_key key p) (found_input ps)
    where
      by : (b : Bool) → find (λ p. is_same key p.key) (inputs_of ps) ≡ option_map (λ kept. kept.input) (find (has_key key) ps)
          → cond b (Some p.input) (find (λ p. is_same key p.key) (inputs_of ps)) ≡ option_map (λ kept. kept.input) (cond b (Some p) (find (has_key key) ps))
      by true h = refl
      by false h = h

-- ---- the partitions of tables ascend
keys_of_inputs : (f : Tuple → PartInput) → ((key : Tuple) → (f key).key ≡ key) → (keys : List Tuple) → map (λ (p : PartInput). p.key) (map f keys) ≡ keys
keys_of_inputs f own [] = refl
keys_of_inputs f own (key ∷ keys) = λ i. own key i ∷ keys_of_inputs f own keys i

all_by : (p : KeptPart) (ps : List KeptPart) → AllByRecursion (λ y. cmp_key p.input.key y ≡ Less) (map (λ (p : PartInput). p.key) (inputs_of ps))
    → AllByRecursion (λ y. on key_of cmp_key p y ≡ Less) ps
all_by p [] all = tt
all_by p (q ∷ qs) all = (all.0, all_by p qs all.1)

by_keys : (parts : List KeptPart) → IsStrictlySortedBy cmp_key (map (λ (p : PartInput). p.key) (inputs_of parts)) → PartsAscend parts
unfolding IsStrictlySortedBy
by_keys [] s = tt
by_keys (p ∷ ps) s = (all_by p ps s.0, by_keys ps s.1)

module _ (part : ModelPart) (law : (parts : ℕ) (items : List Tuple) → PartitionsAscend parts items) where
  parts_ascend : (parts : List KeptPart) (items : List Tuple) → inputs_of parts ≡ partitions part items → PartsAscend parts
  parts_ascend parts items is =
      by_keys parts
      (subst (IsStrictlySortedBy cmp_key)
      (sym (ap (map (λ (p : PartInput). p.key)) is ∙ keys_of_inputs (input_of part items) (λ key. refl) (partition_keys part.parts items)))
      (law part.parts items))

-- ---- what is kept of a view tells what explaining comes to
module _ (tables : Tables) (q : BoundQuery) (part : ModelPart) (view : KeptView) (kept : IsKept tables q part view) where
  abbrev seen : List Tuple × Model → List PartInput × Model
  seen found = (partitions part found.0, found.1)

  kept_ascends : ((parts : ℕ) (items : List Tuple) → PartitionsAscend parts items) → PartsAscend view.parts
  kept_ascends law = by (model_with_items tables q part) kept.read
    where
      by : (r : Result (List Tuple × Model) QueryFault) → result_map seen r ≡ Ok (inputs_of view.parts, model_in part view) → PartsAscend view.parts
      by (Ok found) h =
          let it : (partitions part found.0, found.1) ≡ (inputs_of view.parts, model_in part view) = cc in
          parts_ascend part law view.parts found.0 (sym (ap (λ (it : List PartInput × Model). it.0) it))
      by (Err fault) h = absurd (cc)

  module _ (key : Tuple) (c : CellName) where
    abbrev told : Result (List Tuple × Model) QueryFault → Explained
    told r =
        elim r [
          | Err fault ↦ explained.Fault fault
          | Ok found ↦ explained_among found.1 (partitions part found.0) key c
        ]

    kept_told : explained_over tables q part key c ≡ explained_among (model_in part view) (inputs_of view.parts) key c
    kept_told = by (model_with_items tables q part) kept.read
      where
        by : (r : Result (List Tuple × Model) QueryFault) → result_map seen r ≡ Ok (inputs_of view.parts, model_in part view)
            → told r ≡ explained_among (model_in part view) (inputs_of view.parts) key c
        by (Ok found) h =
            let it : (partitions part found.0, found.1) ≡ (inputs_of view.parts, model_in part view) = cc in
            ap (λ (it : List PartInput × Model). explained_among it.1 it.0 key c) it
        by (Err fault) h = absurd (cc)

    -- by the partition that a search finds
    module _ (law : (parts : ℕ) (items : List Tuple) → PartitionsAscend parts items) (parts : List KeptPart) (same : parts ≡ view.parts)
        (found : Option KeptPart) (is : PartsAscend parts → found ≡ find (has_key key) parts) where
      abbrev told_in : Option KeptPart → Explained
      told_in o = option_map_or (λ (kept : KeptPart). explained_in (model_in part view) c kept.input) o explained.NoPartition

      one : (o : Option KeptPart) → option_map_or (explained_in (model_in part view) c) (option_map (λ (kept : KeptPart). kept.input) o) explained.NoPartition ≡ told_in o
      one (Some kept) = refl
      one None = refl

      told_by : explained_over tables q part key c ≡ told_in found
      told_by =
          kept_told
          ∙ ap (λ (o : Option PartInput). option_map_or (explained_in (model_in part view) c) o explained.NoPartition)
          (ap (λ (parts : List KeptPart). find (λ p. is_same key p.key) (inputs_of parts)) (sym same) ∙ found_input key parts
          ∙ ap (option_map (λ (kept : KeptPart). kept.input)) (sym (is (subst PartsAscend (sym same) (kept_ascends law)))))
          ∙ one found

      pub told_found : (kept : KeptPart) → found ≡ Some kept → explained_in (model_in part view) c kept.input ≡ explained_over tables q part key c
      told_found kept h = sym (told_by ∙ ap told_in h)

      pub told_missing : found ≡ None → explained.NoPartition ≡ explained_over tables q part key c
      told_missing h = sym (told_by ∙ ap told_in h)

-- ---- a partition whose values are kept
module _ (model : Model) (p : PartInput) (kept : ShapedCells) (has : HasValues model p kept) (shape : SharedShape) (same : shape ≡ kept.shape.value) where
  pub levelled_kept : IsLevelled model shape.found
  levelled_kept = subst (λ (s : SharedShape). IsLevelled model s.found) (sym same) has.shape.shared.levelled

  pub shape_kept : shape_found model p ≡ Ok shape.found.shape
  shape_kept =
      ap (λ (o : Option Placed). option_map_or Err o (levelled_shape model (keys_of p.cells))) has.shape.faultless
      ∙ has.shape.shaped ∙ sym (ap (λ (s : SharedShape). Ok s.found.shape) same)

  pub values_kept : HoldsValues model shape.found.shape p.cells (input_in kept.cells) (results_of kept.cells)
  values_kept =
      subst (λ (s : SharedShape). HoldsValues model s.found.shape p.cells (input_in kept.cells) (results_of kept.cells)) (sym same) has.values
