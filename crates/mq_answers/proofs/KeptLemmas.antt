-- What a view that is kept answers.
use Rattle.std.proofs.Common.{◌≡◌, ℕ, ◌<◌, length, get_or, arith, List, [], ◌∷◌, ◌++◌, Option, Some, Result, Ok, Err, refl, sym, ap, ◌∙◌, subst}
use Rattle.std.specs.List.{All, AllZip}
use Rattle.std.specs.Option.{option_map_or}
use Rattle.std.proofs.Math.ListN.{get_or-map}
use Rattle.std.proofs.lemmas.List.{length-map, map-append}
use Rattle.std.proofs.lemmas.List.Elements.{All-append, All-cons, All-head, All-nil, All-tail}
use Rattle.mq_values.specs.Answers.{result_map}
use Rattle.mq_values.specs.declared.faults.QueryFault.{QueryFault}
use Rattle.mq_ir.specs.declared.query.BoundQuery.{BoundQuery}
use Rattle.mq_ir.specs.declared.query.Model.{Model as Lent}
use Rattle.mq_ir.specs.declared.query.ModelPart.{ModelPart}
use Rattle.mq_ir.specs.declared.query.PartInput.{PartInput}
use Rattle.mq_ir.specs.Answer.{answer_of, model_over, model_rows}
use Rattle.mq_ir.specs.Items.{items_over}
use Rattle.mq_ir.specs.Partitions.{Tuple, partitions}
use Rattle.mq_ir.specs.Placed.{plain_fault}
use Rattle.mq_ir.specs.Printing.{printed_rows}
use Rattle.mq_ir.specs.Results.{◌>>=◌, marked}
use Rattle.mq_ir.specs.Tables.{Tables}
use Rattle.mq_ir.specs.Unfolding.{Model, model_of}
use Rattle.mq_kept.specs.declared.kept_view.KeptPart.{KeptPart}
use Rattle.mq_kept.specs.declared.kept_view.KeptView.{KeptView}
use Rattle.mq_kept.specs.Kept.{IsRight, inputs_of, model_in, read_over, view_in}
use Rattle.mq_answers.specs.declared.kept_stretches.KeptStretch.{KeptStretch}
use Rattle.mq_answers.specs.KeptStretches.{AreRight, IsSettledOf, MaySettle, parts_in}
use Rattle.mq_answers.specs.Models.{gathered_rows}
use Rattle.mq_answers.specs.Queries.{shown_of}
use Rattle.mq_answers.proofs.AnswerLemmas.{shown_is}

-- ---- what its partitions make is what its query answers
module _ (tables : Tables) (q : BoundQuery) (part : ModelPart) where
  abbrev seen : List Tuple × Model → List PartInput × Model
  seen found = (partitions part found.0, found.1)

  abbrev rows_of : Result (List Tuple) QueryFault → Option ModelPart → Result (List Tuple) QueryFault
  rows_of r o = r >>= (λ items. option_map_or (model_rows tables items) o (Ok items))

  rows_read : (r : Result (List Tuple) QueryFault) (m : Result Model QueryFault) (inputs : List PartInput) (model : Model)
      → result_map seen (r >>= (λ items. m >>= (λ model. Ok (items, model)))) ≡ Ok (inputs, model)
      → (r >>= (λ items. m >>= (λ model. gathered_rows model (partitions part items)))) ≡ gathered_rows model inputs
  rows_read (Ok items) (Ok m) inputs model h =
      let it : (partitions part items, m) ≡ (inputs, model) = cc in ap (λ (found : List PartInput × Model). gathered_rows found.1 found.0) it
  rows_read (Ok items) (Err f) inputs model h = absurd (cc)
  rows_read (Err f) m inputs model h = absurd (cc)

  pub kept_shown : (view : KeptView) → q.model ≡ Some part → read_over tables q part ≡ Ok (view_in part view)
      → shown_of (result_map (printed_rows q) (gathered_rows (model_in part view) (inputs_of view.parts))) ≡ answer_of tables q
  kept_shown view has h =
      let items = marked (plain_fault 0) (items_over tables q.from q.items) in
      let rows = ap (rows_of items) has ∙ rows_read items (model_over tables part) (inputs_of view.parts) (model_in part view) h in
      ap (λ (r : Result (List Tuple) QueryFault). shown_of (result_map (printed_rows q) r)) (sym rows) ∙ shown_is tables q

-- ---- stretches that were run have the partitions that they had, and what was found of each is right
module _ {R : Type 0} (m : Lent) where
  pub all_settleable : (handed : List (KeptStretch R)) → All (MaySettle m) handed → All AreRight handed
  all_settleable [] can = All-nil AreRight
  all_settleable (s ∷ ss) can = All-cons AreRight s ss (All-head (MaySettle m) s ss can).1 (all_settleable ss (All-tail (MaySettle m) s ss can))

  pub all_right : (handed after : List (KeptStretch R)) → All (MaySettle m) handed → AllZip IsSettledOf handed after
      → All (IsRight (model_of m)) (parts_in after)
  all_right [] [] can ran = All-nil (IsRight (model_of m))
  all_right [] (a ∷ after) can ran = absurd ran
  all_right (b ∷ handed) [] can ran = absurd ran
  all_right (b ∷ handed) (a ∷ after) can ran =
      All-append (IsRight (model_of m)) a.parts.items (parts_in after)
      (subst (λ (m : Lent). All (IsRight (model_of m)) a.parts.items) (All-head (MaySettle m) b handed can).0 ran.0.1)
      (all_right handed after (All-tail (MaySettle m) b handed can) ran.1)

pub same_parts : {R : Type 0} (handed after : List (KeptStretch R)) → AllZip IsSettledOf handed after → inputs_of (parts_in after) ≡ inputs_of (parts_in handed)
same_parts [] [] ran = refl
same_parts [] (a ∷ after) ran = absurd ran
same_parts (b ∷ handed) [] ran = absurd ran
same_parts (b ∷ handed) (a ∷ after) ran =
    map-append (λ (p : KeptPart). p.input) a.parts.items (parts_in after)
    ∙ (λ i. ran.0.0 i ++ same_parts handed after ran.1 i)
    ∙ sym (map-append (λ (p : KeptPart). p.input) b.parts.items (parts_in handed))

-- ---- kept partitions one after another, of which the inputs stay
pub is_within : (parts : List KeptPart) (i : ℕ) → i < length parts → i < length (inputs_of parts)
is_within parts i h = omega (arith, h, length-map parts (λ (p : KeptPart). p.input))

pub input_at : (parts : List KeptPart) (inputs : List PartInput) (i : ℕ) (x : KeptPart) → inputs_of parts ≡ inputs → x ≡ get_or parts i x
    → x.input ≡ get_or inputs i x.input
input_at parts inputs i x same is =
    ap (λ (p : KeptPart). p.input) is
    ∙ sym (get_or-map (λ (p : KeptPart). p.input) parts i x)
    ∙ ap (λ (ps : List PartInput). get_or ps i x.input) same
