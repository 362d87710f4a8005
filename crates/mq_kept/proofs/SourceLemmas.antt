-- What a query with MODEL reads of tables.
use Rattle.std.proofs.Common.{◌≡◌, ℕ, false, List, [], ◌∷◌, Option, Some, None, Result, Ok, Err, refl, sym, ap, subst, ◌∙◌}
use Rattle.std.specs.Prelude.{is_ok, IfSome}
use Rattle.std.specs.List.{enumerate_from}
use Rattle.std.specs.Option.{option_map, option_map_or}
use Rattle.mq_values.specs.Answers.{Gives, result_map}
use Rattle.mq_values.specs.declared.faults.QueryFault.{QueryFault}
use Rattle.mq_values.specs.declared.memory.Fail.{Fail}
use Rattle.mq_values.specs.declared.memory.Fail.TheVariants as fail
use Rattle.mq_ir.specs.declared.query.Answer.{Answer}
use Rattle.mq_ir.specs.declared.query.Answer.TheVariants as answer
use Rattle.mq_ir.specs.declared.query.BoundQuery.{BoundQuery}
use Rattle.mq_ir.specs.declared.query.ModelPart.{ModelPart}
use Rattle.mq_ir.specs.declared.query.PartInput.{PartInput}
use Rattle.mq_ir.specs.Answer.{answer_of, list_rows, model_over, model_rows, partition_step}
use Rattle.mq_ir.specs.Items.{items_over}
use Rattle.mq_ir.specs.Partitions.{Cells, Tuple, partitions}
use Rattle.mq_ir.specs.Placed.{at_partition, plain_fault}
use Rattle.mq_ir.specs.Printing.{printed_rows}
use Rattle.mq_ir.specs.References.{reference_over}
use Rattle.mq_ir.specs.Results.{◌>>=◌, each, each_in_turn, marked}
use Rattle.mq_ir.specs.Tables.{Table, Tables, rows_of as rows_standing, table_at}
use Rattle.mq_ir.specs.Unfolding.{Model}
use Rattle.mq_delta_items.specs.LineLaws.{lines_tell}
use Rattle.mq_delta_items.specs.Lines.{GoesByRow, items_in, lines_of}
use Rattle.mq_tables.specs.Rows.{rows_at}
use Rattle.mq_kept.specs.Kept.{AreLinesOver, IsBegun, model_with, read_over}
use Rattle.mq_kept.specs.Sources.{read_with}

-- a fault of a list is marked as that of its item
pub marked_each : {A B E F : Type 0} (mark : E → F) (f : A → Result B E) (xs : List A) → marked mark (each f xs) ≡ each (λ x. marked mark (f x)) xs
marked_each mark f [] = refl
marked_each {A} {B} {E} {F} mark f (x ∷ xs) = by (f x) (each f xs) (marked_each mark f xs)
  where
    by : (r : Result B E) (q : Result (List B) E) → marked mark q ≡ each (λ x. marked mark (f x)) xs
        → marked mark (r >>= (λ y. q >>= (λ ys. Ok (y ∷ ys)))) ≡ (marked mark r >>= (λ y. each (λ x. marked mark (f x)) xs >>= (λ ys. Ok (y ∷ ys))))
    by (Ok y) (Ok ys) h = ap (λ q. q >>= (λ ys. Ok (y ∷ ys))) h
    by (Ok y) (Err e) h = ap (λ q. q >>= (λ ys. Ok (y ∷ ys))) h
    by (Err e) q h = refl

-- where each fault of the inner call is the outer one's
fault_is_last : {T U E : Type 0} (inner : Result T E) (outer : Result U E) (e : Fail E) → Gives {T = T} (Err e) inner
    → ((fault : E) → inner ≡ Err fault → outer ≡ Err fault) → Gives {T = U} (Err e) outer
fault_is_last inner outer (fail.Cause fault) h f = f fault h
fault_is_last inner outer fail.Memory h f = tt

-- ---- once references and FOR subqueries are there
module _ (tables : Tables) (part : ModelPart) (items : List Tuple) where
  abbrev read_from : Result (List Cells) QueryFault → Result (List (List Tuple)) QueryFault → Result (List PartInput × Model) QueryFault
  read_from refs lists =
      (refs >>= (λ refs. lists >>= (λ lists. Ok (model_with part lists refs)))) >>= (λ model. Ok (partitions part items, model))

  pub read_there : (refs : List Cells) (lists : List (List Tuple)) (inputs : List PartInput)
      → marked (at_partition []) (each (reference_over tables) part.refs) ≡ Ok refs → each (list_rows tables part) (enumerate_from 0 part.lists) ≡ Ok lists
      → inputs ≡ partitions part items → read_with tables items part ≡ Ok (inputs, model_with part lists refs)
  read_there refs lists inputs e f is =
      ap (λ r. read_from r (each (list_rows tables part) (enumerate_from 0 part.lists))) e ∙ ap (read_from (Ok refs)) f
      ∙ ap (λ (inputs : List PartInput). Ok (inputs, model_with part lists refs)) (sym is)

-- ---- once the items are there
module _ (tables : Tables) (q : BoundQuery) (part : ModelPart) where
  abbrev seen : List Tuple × Model → List PartInput × Model
  seen found = (partitions part found.0, found.1)

  abbrev read_items : Result (List Tuple) QueryFault → Result (List PartInput × Model) QueryFault
  read_items r = result_map seen (r >>= (λ items. model_over tables part >>= (λ model. Ok (items, model))))

  there : (items : List Tuple) → read_with tables items part ≡ read_items (Ok items)
  there items = by (model_over tables part)
    where
      by : (r : Result Model QueryFault) → (r >>= (λ model. Ok (partitions part items, model))) ≡ result_map seen (r >>= (λ model. Ok (items, model)))
      by (Ok model) = refl
      by (Err fault) = refl

  pub items_there : (items : List Tuple) → marked (plain_fault 0) (items_over tables q.from q.items) ≡ Ok items
      → read_with tables items part ≡ read_over tables q part
  items_there items e = there items ∙ sym (ap read_items e)

  pub no_items : (e : Fail QueryFault) → Gives {T = List Tuple} (Err e) (marked (plain_fault 0) (items_over tables q.from q.items))
      → Gives {T = List PartInput × Model} (Err e) (read_over tables q part)
  no_items e g = fault_is_last (marked (plain_fault 0) (items_over tables q.from q.items)) (read_over tables q part) e g (λ fault is. ap read_items is)

  -- ---- a fault of what is read is what the query answers
  abbrev rows_of : Result (List Tuple) QueryFault → Option ModelPart → Result (List Tuple) QueryFault
  rows_of r o = r >>= (λ items. option_map_or (model_rows tables items) o (Ok items))

  rows_faulted : (r : Result (List Tuple) QueryFault) (m : Result Model QueryFault) (fault : QueryFault)
      → result_map seen (r >>= (λ items. m >>= (λ model. Ok (items, model)))) ≡ Err fault
      → (rest : List Tuple → Model → Result (List Tuple) QueryFault) → (r >>= (λ items. m >>= rest items)) ≡ Err fault
  rows_faulted (Ok items) (Ok model) fault h rest = absurd (cc)
  rows_faulted (Ok items) (Err f) fault h rest = let same : f ≡ fault = cc in ap Err same
  rows_faulted (Err f) m fault h rest = let same : f ≡ fault = cc in ap Err same

  abbrev answered : Result (List Tuple) QueryFault → Answer
  answered r = elim r [ Ok rows ↦ answer.Rows (printed_rows q rows) | Err fault ↦ answer.Fault fault ]

  abbrev left_by : List Tuple → Model → Result (List Tuple) QueryFault
  left_by items model = each_in_turn (partition_step model) (partitions part items) (0, []) >>= (λ gathered. Ok gathered.1)

  pub fault_answered : (fault : QueryFault) → q.model ≡ Some part → read_over tables q part ≡ Err fault → answer_of tables q ≡ answer.Fault fault
  fault_answered fault is h =
      let items = marked (plain_fault 0) (items_over tables q.from q.items) in
      ap answered (ap (rows_of items) is ∙ rows_faulted items (model_over tables part) fault h left_by)

  -- the fault that is handed out in place of a view
  pub begun_fault : (e : Fail QueryFault) → q.model ≡ Some part → Gives {T = List PartInput × Model} (Err e) (read_over tables q part) → IsBegun tables q part (Err e)
  begun_fault (fail.Cause fault) is h = fault_answered fault is h
  begun_fault fail.Memory is h = tt

  pub not_followed : (fault : QueryFault) → read_over tables q part ≡ Err fault → is_ok (read_over tables q part) ≡ false
  not_followed fault h = ap is_ok h

some_one : {A : Type 0} {x y : A} → Some x ≡ Some y → x ≡ y
some_one h = cc

-- lines that are handed on
pub same_lines : (tables : Tables) (q : BoundQuery) {lines found : Option (List (Option Tuple))} → lines ≡ found → IfSome found (AreLinesOver tables q)
    → IfSome lines (AreLinesOver tables q)
same_lines tables q e h = subst (λ (o : Option (List (Option Tuple))). IfSome o (AreLinesOver tables q)) (sym e) h

-- the rows of a table that is there
pub rows_there : (tables : Tables) (table : List ℕ) (rows : List Tuple) → rows_at tables table ≡ Some rows → rows_standing tables table ≡ rows
rows_there tables table rows at = by (table_at tables table) at
  where
    by : (o : Option Table) → option_map (λ (t : Table). t.rows) o ≡ Some rows → option_map_or (λ (t : Table). t.rows) o [] ≡ rows
    by None h = absurd (cc)
    by (Some t) h = some_one h

-- the lines of the rows of the only table of a query
pub lines_there : (tables : Tables) (q : BoundQuery) (table : List ℕ) (rows : List Tuple) → GoesByRow q.from q.items table → rows_at tables table ≡ Some rows
    → (found : Option (List (Option Tuple))) → found ≡ lines_of q.from q.items rows → IfSome found (AreLinesOver tables q)
lines_there tables q table rows goes at None e = tt
lines_there tables q table rows goes at (Some lines) e = record {
  table = table;
  by_row = goes;
  lines_are = ap (lines_of q.from q.items) (rows_there tables table rows at) ∙ sym e;
}

-- .. tell its items
pub lines_items : (tables : Tables) (q : BoundQuery) (lines : List (Option Tuple)) → AreLinesOver tables q lines
    → marked (plain_fault 0) (items_over tables q.from q.items) ≡ Ok (items_in lines)
lines_items tables q lines are = ap (marked (plain_fault 0)) (lines_tell tables q.from q.items are.table lines are.by_row are.lines_are)

pub lines_found : (tables : Tables) (q : BoundQuery) (found : Option (List (Option Tuple))) (lines : List (Option Tuple)) → found ≡ Some lines
    → IfSome found (AreLinesOver tables q) → marked (plain_fault 0) (items_over tables q.from q.items) ≡ Ok (items_in lines)
lines_found tables q found lines is h = lines_items tables q lines (subst (λ (o : Option (List (Option Tuple))). IfSome o (AreLinesOver tables q)) is h)
