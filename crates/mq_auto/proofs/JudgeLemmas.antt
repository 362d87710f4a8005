-- What is found of a partition: the fault of its input, or what is found of its keys.
use Rattle.std.proofs.Common.{◌≡◌, ℕ, ◌+◌, ◌<◌, false, List, [], ◌∷◌, ◌++◌, Option, Some, None, Result, Ok, Err, Ordering, Less, Equal, Greater, get_or, length, take, refl, sym, ap, ◌∙◌}
use Rattle.std.specs.Map.{keys_of}
use Rattle.std.specs.Option.{option_map, option_map_or, option_or}
use Rattle.std.specs.Ordering.{is_ne}
use Rattle.std.specs.Prelude.{nat_lt, if◌then◌else◌}
use Rattle.std.specs.Result.{result_unwrap_or}
use Rattle.std.proofs.lemmas.List.{map-append, take_more}
use Rattle.mq_values.specs.Order.{cmp_key}
use Rattle.mq_values.specs.OrderTells.{same_key}
use Rattle.mq_values.specs.declared.faults.FaultKind.TheVariants as kind
use Rattle.mq_values.specs.declared.faults.QueryFault.{QueryFault}
use Rattle.mq_values.specs.declared.limits.TheConstants.{MAX_CELLS_OF_PARTITION}
use Rattle.mq_ir.specs.declared.query.ModelPart.{ModelPart}
use Rattle.mq_ir.specs.declared.query.PartInput.{PartInput}
use Rattle.mq_ir.specs.declared.query.PartResult.{PartResult}
use Rattle.mq_ir.specs.declared.query.PartResult.TheVariants.{Fault}
use Rattle.mq_ir.specs.declared.query.PartShape.{PartShape}
use Rattle.mq_ir.specs.Automatic.{automatic, levelled_shape, shape_found, slot_cells, slots_in}
use Rattle.mq_ir.specs.Iteration.{input_fault, part_result}
use Rattle.mq_ir.specs.Keys.{Tuple}
use Rattle.mq_ir.specs.Partitions.{Cells}
use Rattle.mq_ir.specs.Placed.{Placed, at_partition, placed_fault}
use Rattle.mq_ir.specs.Results.{◌>>=◌, marked}
use Rattle.mq_ir.specs.Shape.{bare_shape}
use Rattle.mq_ir.specs.Unfolding.{Model}
use Rattle.mq_auto_shape.specs.declared.indexed.IndexedShape.{IndexedShape}
use Rattle.mq_auto_shape.specs.Indexed.{IsIndexed}
use Rattle.mq_auto_shape.specs.Conditions.{AreReady}
use Rattle.mq_auto_shape.specs.Found.{AreRoundsOf, IsShapeOf, shape_meant}
use Rattle.mq_auto.specs.declared.verdict.Verdict.TheVariants.{Done, Broken}
use Rattle.mq_ir.specs.Ready.{IsReady}
use Rattle.mq_auto.specs.Findings.{IsJudged}
use Rattle.mq_auto.specs.Meaning.{judged, result_with, verdict_on}

-- one cell more at its key
pub one_more_at : (cells : Cells) (keys : List Tuple) (i : ℕ) (cell : Tuple × Tuple) (key : Tuple) → i < length cells → i < length keys → cell ≡ get_or cells i cell → key ≡ get_or keys i key
    → is_ne (cmp_key cell.0 key) ≡ false → keys_of (take i cells) ≡ take i keys → keys_of (take (i + 1) cells) ≡ take (i + 1) keys
one_more_at cells keys i cell key l m at is same h =
    ap keys_of (take_more cells i cell l ∙ ap (λ (c : Tuple × Tuple). take i cells ++ c ∷ []) (sym at))
    ∙ map-append (λ (c : Tuple × Tuple). c.0) (take i cells) (cell ∷ [])
    ∙ (λ j. h j ++ same_key cell.0 key (equal (cmp_key cell.0 key) same) j ∷ [])
    ∙ sym (take_more keys i key m ∙ ap (λ (k : Tuple). take i keys ++ k ∷ []) (sym is))
  where
    equal : (r : Ordering) → is_ne r ≡ false → r ≡ Equal
    equal Less e = cc
    equal Equal e = refl
    equal Greater e = cc

-- the fault, where there is one
abbrev fault_in : QueryFault → Result PartShape QueryFault → QueryFault
fault_in d (Ok s) = d
fault_in d (Err f) = f

-- a fault of the input is what is found
pub input_faulted : (model : Model) (p : PartInput) (fault : QueryFault) → Some fault ≡ option_map (at_partition p.key) (input_fault p) → IsJudged model p (Err fault)
input_faulted model p fault h = record { exact = by (input_fault p) refl h; rounds = tt }
  where
    by : (o : Option Placed) → input_fault p ≡ o → Some fault ≡ option_map (at_partition p.key) o → Err fault ≡ marked (at_partition p.key) (shape_found model p)
    by None e g = cc
    by (Some f) e g =
        ap Err (ap (λ o. option_map_or (λ x. x) o fault) g)
        ∙ sym (ap (λ (o : Option Placed). marked (at_partition p.key) (option_map_or Err o (levelled_shape model (keys_of p.cells)))) e)

no_fault : (key : Tuple) (o : Option Placed) → None ≡ option_map (at_partition key) o → o ≡ None
no_fault key None h = refl
no_fault key (Some f) h = cc

none_twice : (o : Option Tuple) (b : Option Placed) → option_or (option_map (λ key. placed_fault 0 key kind.NotUnique) o) b ≡ None → o ≡ None
none_twice None b h = refl
none_twice (Some key) b h = cc

-- without a fault of the input its keys are ready
pub keys_ready : (part : ModelPart) (p : PartInput) → IsReady part p → None ≡ option_map (at_partition p.key) (input_fault p) → AreReady part (keys_of p.cells)
keys_ready part p ready h = record {
  lefts = ready.lefts;
  wide = ready.wide;
  ascend = ready.ascend (none_twice p.repeated (if nat_lt MAX_CELLS_OF_PARTITION (length p.cells) then Some (placed_fault 0 [] kind.TooManyCells) else None) (no_fault p.key (input_fault p) h));
}

module _ (model : Model) (p : PartInput) (none : None ≡ option_map (at_partition p.key) (input_fault p)) where
  found_is : shape_found model p ≡ levelled_shape model (keys_of p.cells)
  found_is = ap (λ (o : Option Placed). option_map_or Err o (levelled_shape model (keys_of p.cells))) (no_fault p.key (input_fault p) none)

  pub shape_judged : (found : IndexedShape) → Ok found.shape ≡ shape_meant model (keys_of p.cells) → IsShapeOf model (keys_of p.cells) found.shape → AreRoundsOf model found.shape found.leveled.rounds
      → IsIndexed found → IsJudged model p (Ok found)
  shape_judged found is of rounds indexed =
      record {
        exact = by (levelled_shape model (keys_of p.cells)) refl is;
        rounds = record {
          exact = own (levelled_shape model (keys_of p.cells)) is ∙ sym (ap (levelled_shape model) of.base);
          own = of.own;
          ruled = of.ruled;
          few = of.few;
          rounds = rounds;
          indexed = indexed;
        };
      }
    where
      by : (r : Result PartShape Placed) → levelled_shape model (keys_of p.cells) ≡ r → Ok found.shape ≡ marked (at_partition []) r → Ok found.shape ≡ marked (at_partition p.key) (shape_found model p)
      by (Ok s) e h = h ∙ sym (ap (marked (at_partition p.key)) (found_is ∙ e))
      by (Err f) e h = cc

      own : (r : Result PartShape Placed) → Ok found.shape ≡ marked (at_partition []) r → Ok found.shape ≡ r
      own (Ok s) h = let e : found.shape ≡ s = cc in ap Ok e
      own (Err f) h = cc

  pub fault_judged : (fault : QueryFault) (key : Tuple) → key ≡ p.key → Err fault ≡ shape_meant model (keys_of p.cells)
      → IsJudged model p (Err (record { kind = fault.kind; rule = fault.rule; partition = key; cell = fault.cell }))
  fault_judged fault key same is = record { exact = by (levelled_shape model (keys_of p.cells)) refl is; rounds = tt }
    where
      by : (r : Result PartShape Placed) → levelled_shape model (keys_of p.cells) ≡ r → Err fault ≡ marked (at_partition []) r
          → Err (record { kind = fault.kind; rule = fault.rule; partition = key; cell = fault.cell }) ≡ marked (at_partition p.key) (shape_found model p)
      by (Ok s) e h = cc
      by (Err f) e h =
          let one : fault ≡ at_partition [] f = ap (fault_in fault) h in
          (λ i. Err (record { kind = (one i).kind; rule = (one i).rule; partition = same i; cell = (one i).cell }))
          ∙ sym (ap (marked (at_partition p.key)) (found_is ∙ e))

-- the verdict on what is found
module _ (model : Model) (p : PartInput) where
  pub done_is : (shape : PartShape) → Ok shape ≡ marked (at_partition p.key) (shape_found model p) → Done shape ≡ verdict_on model p
  done_is shape h = by (shape_found model p) h
    where
      by : (r : Result PartShape Placed) → Ok shape ≡ marked (at_partition p.key) r → Done shape ≡ judged p.key r
      by (Ok s) e = ap (λ r. Done (result_unwrap_or r shape)) e
      by (Err f) e = cc

  pub broken_is : (fault : QueryFault) → Err fault ≡ marked (at_partition p.key) (shape_found model p) → Broken fault ≡ verdict_on model p
  broken_is fault h = by (shape_found model p) h
    where
      by : (r : Result PartShape Placed) → Err fault ≡ marked (at_partition p.key) r → Broken fault ≡ judged p.key r
      by (Ok s) e = cc
      by (Err f) e = ap (λ r. Broken (fault_in fault r)) e

  abbrev over : Result PartShape Placed → PartShape × PartResult
  over found = (result_unwrap_or found (bare_shape (keys_of p.cells)), part_result p.key (found >>= (λ shape. slot_cells model shape (slots_in model shape p.cells))))

  -- what the definitions make of the partition, by the verdict on it
  pub automatic_done : (shape : PartShape) (r : PartResult) → Done shape ≡ verdict_on model p → r ≡ result_with model p.key shape (slots_in model shape p.cells) → (shape, r) ≡ automatic model p
  automatic_done shape r h e = by (shape_found model p) refl h
    where
      same : (s : PartShape) → Done shape ≡ Done s → shape ≡ s
      same s g = cc

      by : (found : Result PartShape Placed) → shape_found model p ≡ found → Done shape ≡ judged p.key found → (shape, r) ≡ automatic model p
      by (Ok s) g d = (λ i. (shape, e i)) ∙ (λ i. over (Ok (same s d i))) ∙ sym (ap over g)
      by (Err f) g d = cc

  pub automatic_broken : (fault : QueryFault) (shape : PartShape) → Broken fault ≡ verdict_on model p → shape ≡ bare_shape (keys_of p.cells) → (shape, Fault fault) ≡ automatic model p
  automatic_broken fault shape h e = by (shape_found model p) refl h
    where
      same : (f : QueryFault) → Broken fault ≡ Broken f → fault ≡ f
      same f g = cc

      by : (found : Result PartShape Placed) → shape_found model p ≡ found → Broken fault ≡ judged p.key found → (shape, Fault fault) ≡ automatic model p
      by (Ok s) g d = cc
      by (Err f) g d = (λ i. (e i, Fault (same (at_partition p.key f) d i))) ∙ sym (ap over g)
