-- Explaining a measure of a cell, once what its query reads is there, or has a fault.
use Rattle.std.proofs.Common.{◌≡◌, List, [], Bool, true, false, Result, Ok, Err, refl, sym, ap, ◌∙◌}
use Rattle.std.specs.Prelude.{if◌then◌else◌}
use Rattle.std.specs.List.{enumerate_from}
use Rattle.mq_values.specs.Answers.{Gives}
use Rattle.mq_values.specs.declared.faults.QueryFault.{QueryFault}
use Rattle.mq_values.specs.declared.memory.Fail.{Fail}
use Rattle.mq_ir.specs.declared.query.BoundQuery.{BoundQuery}
use Rattle.mq_ir.specs.declared.query.CellName.{CellName}
use Rattle.mq_ir.specs.declared.query.Derivation.{Derivation}
use Rattle.mq_ir.specs.declared.query.Explained.{Explained}
use Rattle.mq_ir.specs.declared.query.Explained.TheVariants as explained
use Rattle.mq_ir.specs.declared.query.ModelPart.{ModelPart}
use Rattle.mq_ir.specs.declared.query.PartInput.{PartInput}
use Rattle.mq_ir.specs.declared.query.PartShape.{PartShape}
use Rattle.mq_ir.specs.Answer.{list_rows, model_over, plain_fault}
use Rattle.mq_ir.specs.Automatic.{shape_found}
use Rattle.mq_ir.specs.Derivations.{derivation}
use Rattle.mq_ir.specs.Explaining.{explained_in, explained_over, model_with_items}
use Rattle.mq_ir.specs.Items.{items_over}
use Rattle.mq_ir.specs.Keys.{is_among}
use Rattle.mq_ir.specs.Partitions.{Cells, Tuple, partitions}
use Rattle.mq_ir.specs.Placed.{Placed, at_partition}
use Rattle.mq_ir.specs.References.{reference_over}
use Rattle.mq_ir.specs.Results.{◌>>=◌, each, marked}
use Rattle.mq_ir.specs.Tables.{Tables}
use Rattle.mq_ir.specs.Unfolding.{Model}
use Rattle.mq_auto.specs.declared.verdict.Verdict.TheVariants.{Done}
use Rattle.mq_auto.specs.Meaning.{judged, verdict_on}
use Rattle.mq_answers.specs.Explained.{explained_among, explained_items, explained_with}
use Rattle.mq_answers.proofs.TurnLemmas.{fault_is_last}

-- ---- a fault of what is read is what explaining comes to
abbrev shown_of : Result Explained QueryFault → Explained
shown_of (Ok e) = e
shown_of (Err fault) = explained.Fault fault

module _ (tables : Tables) (q : BoundQuery) (part : ModelPart) (key : Tuple) (c : CellName) where
  abbrev found_with : Result (List Tuple × Model) QueryFault → Result Explained QueryFault
  found_with r = r >>= (λ found. Ok (explained_among found.1 (partitions part found.0) key c))

  shown_is : shown_of (explained_with tables q part key c) ≡ explained_over tables q part key c
  shown_is = by (model_with_items tables q part)
    where
      by : (r : Result (List Tuple × Model) QueryFault) → shown_of (r >>= (λ found. Ok (explained_among found.1 (partitions part found.0) key c)))
          ≡ elim r [ Err fault ↦ explained.Fault fault | Ok found ↦ explained_among found.1 (partitions part found.0) key c ]
      by (Ok found) = refl
      by (Err fault) = refl

  pub explained_is : (e : Explained) → explained_with tables q part key c ≡ Ok e → e ≡ explained_over tables q part key c
  explained_is e h = sym (ap shown_of h) ∙ shown_is

  pub fault_is : (fault : QueryFault) → explained_with tables q part key c ≡ Err fault → explained.Fault fault ≡ explained_over tables q part key c
  fault_is fault h = sym (ap shown_of h) ∙ shown_is

  -- once the items are there
  abbrev paired : List Tuple → Model → Result (List Tuple × Model) QueryFault
  paired items model = Ok (items, model)

  abbrev with_items : Result (List Tuple) QueryFault → Result Explained QueryFault
  with_items r = found_with (r >>= (λ items. model_over tables part >>= paired items))

  there : (items : List Tuple) → explained_items tables items part key c ≡ with_items (Ok items)
  there items = by (model_over tables part)
    where
      by : (r : Result Model QueryFault) → (r >>= (λ model. Ok (explained_among model (partitions part items) key c)))
          ≡ found_with (r >>= paired items)
      by (Ok model) = refl
      by (Err fault) = refl

  pub items_there : (items : List Tuple) → marked (plain_fault 0) (items_over tables q.from q.items) ≡ Ok items
      → explained_items tables items part key c ≡ explained_with tables q part key c
  items_there items e = there items ∙ sym (ap with_items e)

  pub no_items : (e : Fail QueryFault) → Gives {T = List Tuple} (Err e) (marked (plain_fault 0) (items_over tables q.from q.items))
      → Gives {T = Explained} (Err e) (explained_with tables q part key c)
  no_items e g = fault_is_last (marked (plain_fault 0) (items_over tables q.from q.items)) (explained_with tables q part key c) e g (λ fault is. ap with_items is)

-- ---- once references and FOR subqueries are there
module _ (tables : Tables) (part : ModelPart) (items : List Tuple) (key : Tuple) (c : CellName) where
  abbrev model_with : List Cells → List (List Tuple) → Model
  model_with refs lists = record { part = part; lists = lists; refs = refs }

  abbrev explained_from : Result (List Cells) QueryFault → Result (List (List Tuple)) QueryFault → Result Explained QueryFault
  explained_from refs lists =
      (refs >>= (λ refs. lists >>= (λ lists. Ok (model_with refs lists)))) >>= (λ model. Ok (explained_among model (partitions part items) key c))

  pub model_there : (refs : List Cells) (lists : List (List Tuple)) (inputs : List PartInput) (e : Explained)
      → marked (at_partition []) (each (reference_over tables) part.refs) ≡ Ok refs → each (list_rows tables part) (enumerate_from 0 part.lists) ≡ Ok lists
      → inputs ≡ partitions part items → e ≡ explained_among (model_with refs lists) inputs key c → explained_items tables items part key c ≡ Ok e
  model_there refs lists inputs e f h is g =
      ap (λ r. explained_from r (each (list_rows tables part) (enumerate_from 0 part.lists))) f ∙ ap (explained_from (Ok refs)) h
      ∙ ap Ok (sym (g ∙ ap (λ inputs. explained_among (model_with refs lists) inputs key c) is))

-- ---- in a partition

pub found_done : (model : Model) (p : PartInput) (shape : PartShape) → Done shape ≡ verdict_on model p → shape_found model p ≡ Ok shape
found_done model p shape h = by (shape_found model p) refl h
  where
    by : (r : Result PartShape Placed) → shape_found model p ≡ r → Done shape ≡ judged p.key r → shape_found model p ≡ Ok shape
    by (Ok s) e g = let is : shape ≡ s = cc in e ∙ ap Ok (sym is)
    by (Err fault) e g = absurd (cc)

module _ (model : Model) (p : PartInput) (shape : PartShape) (c : CellName) (found : shape_found model p ≡ Ok shape) where
  abbrev answer_where : Bool → Explained
  answer_where b = if b then explained.Steps (record { steps = derivation model shape p.cells c }) else explained.NoCell

  abbrev told : Result PartShape Placed → Explained
  told r =
      elim r [
        | Err fault ↦ explained.Fault (at_partition p.key fault)
        | Ok s ↦ if is_among s.cells c.key then explained.Steps (record { steps = derivation model s p.cells c }) else explained.NoCell
      ]

  pub steps_told : (d : Derivation) → is_among shape.cells c.key ≡ true → d.steps ≡ derivation model shape p.cells c
      → explained.Steps d ≡ explained_in model c p
  steps_told d is steps = ap (λ steps. explained.Steps (record { steps = steps })) steps ∙ sym (ap answer_where is) ∙ sym (ap told found)

  pub no_cell_told : is_among shape.cells c.key ≡ false → explained.NoCell ≡ explained_in model c p
  no_cell_told is = sym (ap answer_where is) ∙ sym (ap told found)
