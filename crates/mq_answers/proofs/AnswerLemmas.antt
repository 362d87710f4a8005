-- What a query answers: its items, its rows as they are printed, or its first fault.
use Rattle.std.proofs.Common.{◌≡◌, ℕ, List, length, map, Option, Some, None, Result, Ok, Err, refl, sym, ap, ◌∙◌, subst}
use Rattle.std.specs.Option.{option_map_or}
use Rattle.std.proofs.lemmas.List.{map-id}
use Rattle.mq_values.specs.Answers.{Gives, result_map}
use Rattle.mq_values.specs.declared.faults.QueryFault.{QueryFault}
use Rattle.mq_values.specs.declared.memory.Fail.{Fail}
use Rattle.mq_ir.specs.declared.query.Answer.TheVariants as answer
use Rattle.mq_ir.specs.declared.query.BoundQuery.{BoundQuery}
use Rattle.mq_ir.specs.declared.query.ModelPart.{ModelPart}
use Rattle.mq_ir.specs.Answer.{answer_of, model_rows, plain_fault, query_rows}
use Rattle.mq_ir.specs.Items.{items_over}
use Rattle.mq_ir.specs.Partitions.{Tuple}
use Rattle.mq_ir.specs.Printing.{printed_rows}
use Rattle.mq_ir.specs.Results.{◌>>=◌, marked}
use Rattle.mq_ir.specs.Tables.{Tables}
use Rattle.mq_ir.specs.Ready.{HaveLength, ModelIsReady}
use Rattle.mq_answers.specs.Models.{MayRun}
use Rattle.mq_answers.specs.Queries.{rows_shown, shown_of}
use Rattle.mq_answers.proofs.TurnLemmas.{fault_is_last}

-- what a query with MODEL asks of its items
pub may_run : (q : BoundQuery) (part : ModelPart) (items : List Tuple) → ModelIsReady (length q.items.items) part → HaveLength (length q.items.items) items → MayRun part items
may_run q part items m h = record { lefts = m.lefts; wide = subst (λ (n : ℕ). HaveLength n items) m.wide h }

-- what a query answers once its items are there, or their first fault

pub with_model : (tables : Tables) (q : BoundQuery) (items : List Tuple) (part : ModelPart) → marked (plain_fault 0) (items_over tables q.from q.items) ≡ Ok items → q.model ≡ Some part
    → result_map (printed_rows q) (model_rows tables items part) ≡ rows_shown tables q
with_model tables q items part e h =
    sym (ap (λ (r : Result (List Tuple) QueryFault). result_map (printed_rows q) (r >>= (λ items. option_map_or (model_rows tables items) q.model (Ok items)))) e
    ∙ ap (λ (o : Option ModelPart). result_map (printed_rows q) (option_map_or (model_rows tables items) o (Ok items))) h)

pub without_model : (tables : Tables) (q : BoundQuery) (items rows : List Tuple) → marked (plain_fault 0) (items_over tables q.from q.items) ≡ Ok items → q.model ≡ None
    → rows ≡ printed_rows q items → rows_shown tables q ≡ Ok rows
without_model tables q items rows e h f =
    ap (λ (r : Result (List Tuple) QueryFault). result_map (printed_rows q) (r >>= (λ items. option_map_or (model_rows tables items) q.model (Ok items)))) e
    ∙ ap (λ (o : Option ModelPart). result_map (printed_rows q) (option_map_or (model_rows tables items) o (Ok items))) h
    ∙ ap Ok (sym f)

pub no_items : (tables : Tables) (q : BoundQuery) (e : Fail QueryFault) → Gives {T = List Tuple} (Err e) (marked (plain_fault 0) (items_over tables q.from q.items))
    → Gives {T = List Tuple} (Err e) (rows_shown tables q)
no_items tables q e g =
    fault_is_last (marked (plain_fault 0) (items_over tables q.from q.items)) (rows_shown tables q) e g
    (λ fault is. ap (λ (r : Result (List Tuple) QueryFault). result_map (printed_rows q) (r >>= (λ items. option_map_or (model_rows tables items) q.model (Ok items)))) is)

-- the rows of a model as they are printed, or its fault

pub cells_shown : (q : BoundQuery) (found : Result (List Tuple) QueryFault) (rows printed : List Tuple) → found ≡ Ok rows → printed ≡ printed_rows q (map (λ (row : Tuple). row) rows)
    → result_map (printed_rows q) found ≡ Ok printed
cells_shown q found rows printed e f = ap (λ (r : Result (List Tuple) QueryFault). result_map (printed_rows q) r) e ∙ ap Ok (ap (printed_rows q) (sym (map-id rows)) ∙ sym f)

pub no_cells : (q : BoundQuery) (found : Result (List Tuple) QueryFault) (e : Fail QueryFault) → Gives {T = List Tuple} (Err e) found
    → Gives {T = List Tuple} (Err e) (result_map (printed_rows q) found)
no_cells q found e g = fault_is_last found (result_map (printed_rows q) found) e g (λ fault is. ap (λ (r : Result (List Tuple) QueryFault). result_map (printed_rows q) r) is)

-- the answer as a value

pub shown_is : (tables : Tables) (q : BoundQuery) → shown_of (rows_shown tables q) ≡ answer_of tables q
shown_is tables q = by (query_rows tables q)
  where
    by : (r : Result (List Tuple) QueryFault) → shown_of (result_map (printed_rows q) r) ≡ elim r [ Ok rows ↦ answer.Rows (printed_rows q rows) | Err fault ↦ answer.Fault fault ]
    by (Ok rows) = refl
    by (Err fault) = refl

pub rows_answered : (tables : Tables) (q : BoundQuery) (rows : List Tuple) → rows_shown tables q ≡ Ok rows → answer.Rows rows ≡ answer_of tables q
rows_answered tables q rows e = sym (ap shown_of e) ∙ shown_is tables q

pub fault_answered : (tables : Tables) (q : BoundQuery) (fault : QueryFault) → rows_shown tables q ≡ Err fault → answer.Fault fault ≡ answer_of tables q
fault_answered tables q fault e = sym (ap shown_of e) ∙ shown_is tables q
