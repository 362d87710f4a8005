-- A view that is kept, over other tables.
use Rattle.std.proofs.Common.{◌≡◌, ℕ, ◌+◌, ◌≤◌, ◌<◌, Bool, true, false, List, [], ◌∷◌, ◌++◌, length, map, Option, Some, None, Result, Ok, Err, refl, sym, ap, subst, ◌∙◌, arith}
use Rattle.std.specs.Prelude.{IfOk, IfSome}
use Rattle.std.specs.List.{All, AllByRecursion, enumerate_from}
use Rattle.std.specs.Option.{option_and_then}
use Rattle.std.specs.Result.{result_ok}
use Rattle.std.proofs.lemmas.List.{length-map}
use Rattle.std.proofs.lemmas.List.Elements.{recursion_from_All}
use Rattle.mq_values.specs.declared.faults.FaultKind.{FaultKind}
use Rattle.mq_values.specs.declared.limits.TheConstants.{MAX_BASE_ROWS}
use Rattle.mq_ir.specs.declared.query.BoundQuery.{BoundQuery}
use Rattle.mq_ir.specs.declared.query.FromPart.{FromPart}
use Rattle.mq_ir.specs.declared.query.ItemPart.{ItemPart}
use Rattle.mq_ir.specs.declared.query.ModelPart.{ModelPart}
use Rattle.mq_ir.specs.declared.query.PartInput.{PartInput}
use Rattle.mq_ir.specs.declared.query.PlainPart.{PlainPart}
use Rattle.mq_ir.specs.declared.query.RefPart.{RefPart}
use Rattle.mq_ir.specs.Answer.{list_rows, model_over, rule_of_list}
use Rattle.mq_ir.specs.BaseRows.{kept_places, rows_at}
use Rattle.mq_ir.specs.Items.{item_rows, items_over}
use Rattle.mq_ir.specs.Keys.{Tuple}
use Rattle.mq_ir.specs.Partitions.{partitions}
use Rattle.mq_ir.specs.Placed.{at_partition, placed_fault, plain_fault}
use Rattle.mq_ir.specs.Ready.{HaveLength, ModelIsReady, QueryIsReady}
use Rattle.mq_ir.specs.References.{reference_of, reference_over}
use Rattle.mq_ir.specs.Results.{◌>>=◌, each, marked}
use Rattle.mq_ir.specs.Tables.{Tables, rows_of}
use Rattle.mq_delta_items.specs.LineLaws.{few_are, few_were}
use Rattle.mq_delta_items.specs.Lines.{GoesByRow, few, items_in, line_of, lines_of}
use Rattle.mq_delta_items.specs.declared.following.ItemChange.{ItemChange}
use Rattle.mq_delta_parts.specs.Woven.{IsChangeOf, Woven, woven_end, woven_some, woven_stay}
use Rattle.mq_kept.specs.declared.kept_view.KeptPart.{KeptPart}
use Rattle.mq_kept.specs.declared.kept_view.KeptView.{KeptView}
use Rattle.mq_kept.specs.declared.row_changes.RowChange.{RowChange}
use Rattle.mq_kept.specs.Beside.{AreItemsOf, HasSameSources, HaveLinesBeside, HaveSameRows, IsChangeOfLines}
use Rattle.mq_kept.specs.Kept.{AreLinesOver, IsKept, IsRight, inputs_of, model_in}
use Rattle.mq_kept.specs.Lent.{with_parts}
use Rattle.mq_kept.specs.ReadyLaws.{items_have}
use Rattle.mq_kept.specs.Renewed.{MayRenew}
use Rattle.mq_kept.proofs.CarryLemmas.{by_items, of_items}
use Rattle.mq_kept.proofs.SourceLemmas.{lines_items}

-- ---- the lines of rows that are woven of others
module _ (f : Tuple → Result (Option Tuple) FaultKind) where
  -- the line of a row, where it has one
  abbrev line_at : Tuple → Option Tuple
  line_at row = elim (f row) [ Ok found ↦ found | Err fault ↦ None ]

  abbrev lines_at : List Tuple → List (Option Tuple)
  lines_at rows = map line_at rows

  -- each row has its line
  abbrev AreFine : List Tuple → Type 0
  AreFine = AllByRecursion (λ row. f row ≡ Ok (line_at row))

  fine_each : (rows : List Tuple) → AreFine rows → each f rows ≡ Ok (lines_at rows)
  fine_each [] fine = refl
  fine_each (row ∷ rows) fine = λ i. fine.0 i >>= (λ y. fine_each rows fine.1 i >>= (λ ys. Ok (y ∷ ys)))

  record Lined (rows : List Tuple) (found : List (Option Tuple)) : Type 0 where
    fine : AreFine rows
    are : found ≡ lines_at rows

  each_fine : (rows : List Tuple) (found : List (Option Tuple)) → each f rows ≡ Ok found → Lined rows found
  each_fine [] found h = let e : [] ≡ found = cc in record { fine = tt; are = sym e }
  each_fine (row ∷ rows) found h = by (f row) refl (each f rows) (each_fine rows) h
    where
      by : (r : Result (Option Tuple) FaultKind) → f row ≡ r → (rs : Result (List (Option Tuple)) FaultKind)
          → ((rest : List (Option Tuple)) → rs ≡ Ok rest → Lined rows rest)
          → (r >>= (λ y. rs >>= (λ ys. Ok (y ∷ ys)))) ≡ Ok found → Lined (row ∷ rows) found
      by (Ok one) e (Ok rest) more h =
          let is : one ∷ rest ≡ found = cc in
          let own : line_at row ≡ one = ap (λ (r : Result (Option Tuple) FaultKind). elim r [ Ok found ↦ found | Err fault ↦ None ]) e in
          let behind = more rest refl in
          record { fine = (e ∙ ap Ok (sym own), behind.fine); are = sym is ∙ (λ i. sym own i ∷ behind.are i) }
      by (Ok one) e (Err fault) more h = absurd (cc)
      by (Err fault) e rs more h = absurd (cc)

  -- what stays has its lines
  stay_fine : {stay some all : List Tuple} → Woven stay some all → AreFine all → AreFine stay
  stay_fine woven_end fine = tt
  stay_fine (woven_stay w) fine = (fine.0, stay_fine w fine.1)
  stay_fine (woven_some w) fine = stay_fine w fine.1

  all_fine : {stay some all : List Tuple} → Woven stay some all → AreFine stay → AreFine some → AreFine all
  all_fine woven_end s m = tt
  all_fine (woven_stay w) s m = (s.0, all_fine w s.1 m)
  all_fine (woven_some w) s m = (m.0, all_fine w s m.1)

  -- the items are woven as the rows are
  items_woven : {stay some all : List Tuple} → Woven stay some all → Woven (items_in (lines_at stay)) (items_in (lines_at some)) (items_in (lines_at all))
  items_woven woven_end = woven_end
  items_woven (woven_stay {x = row} {stay = stay} {all = all} w) = by (line_at row) (items_woven w)
    where
      by : (l : Option Tuple) {items : List Tuple} → Woven (items_in (lines_at stay)) items (items_in (lines_at all))
          → Woven (items_in (l ∷ lines_at stay)) items (items_in (l ∷ lines_at all))
      by None v = v
      by (Some item) v = woven_stay v
  items_woven (woven_some {x = row} {some = some} {all = all} w) = by (line_at row) (items_woven w)
    where
      by : (l : Option Tuple) {items : List Tuple} → Woven items (items_in (lines_at some)) (items_in (lines_at all))
          → Woven items (items_in (l ∷ lines_at some)) (items_in (l ∷ lines_at all))
      by None v = v
      by (Some item) v = woven_some v

few_items : (lines : List (Option Tuple)) → length (items_in lines) ≤ length lines
few_items [] = omega arith
few_items (None ∷ lines) = let h = few_items lines in omega (arith, h)
few_items (Some item ∷ lines) = let h = few_items lines in omega (arith, h)

each_of : (found : Result (List (Option Tuple)) FaultKind) (lines : List (Option Tuple)) → option_and_then few (result_ok found) ≡ Some lines → found ≡ Ok lines
each_of (Err fault) lines h = absurd (cc)
each_of (Ok all) lines h = ap Ok (few_were all lines h).0

module _ (from : FromPart) (part : ItemPart) where
  abbrev one : Tuple → Result (Option Tuple) FaultKind
  one = line_of from part

  lined : (rows : List Tuple) (found : List (Option Tuple)) → lines_of from part rows ≡ Some found → Lined one rows found
  lined rows found h = each_fine one rows found (each_of (each one rows) found h)

  -- rows that went and came, and their items
  pub change_of_lines : (old new : List Tuple) (was : List (Option Tuple)) (rows : RowChange) (change : ItemChange) → length new ≤ MAX_BASE_ROWS
      → lines_of from part old ≡ Some was → IsChangeOf old rows.gone rows.come new → AreItemsOf from part rows change
      → IsChangeOfLines from part new was change
  change_of_lines old new was rows change few_rows h changed are =
      let before = lined old was h in
      let gone = lined rows.gone are.gone are.gone_are in
      let come = lined rows.come are.come are.come_are in
      let fine = all_fine one changed.after (stay_fine one changed.before before.fine) come.fine in
      let after = lines_at one new in
      let room : length (items_in after) ≤ MAX_BASE_ROWS = omega (arith, few_items after, length-map new (line_at one), few_rows) in
      record {
        after = after;
        lines_are = ap (λ (r : Result (List (Option Tuple)) FaultKind). option_and_then few (result_ok r)) (fine_each one new fine) ∙ few_are after room;
        items = record {
          stay = items_in (lines_at one changed.stay);
          before =
              subst (λ (l : List (Option Tuple)). Woven (items_in (lines_at one changed.stay)) change.gone (items_in l)) (sym before.are)
              (subst (λ items. Woven (items_in (lines_at one changed.stay)) items (items_in (lines_at one old))) (sym (are.items_gone ∙ ap items_in gone.are))
              (items_woven one changed.before));
          after =
              subst (λ items. Woven (items_in (lines_at one changed.stay)) items (items_in after)) (sym (are.items_come ∙ ap items_in come.are))
              (items_woven one changed.after);
        };
      }

-- ---- what reads the same rows reads the same
module _ (before under : Tables) where
  same_items : (from : FromPart) (part : ItemPart) → HaveSameRows before under from.tables → items_over under from part ≡ items_over before from part
  same_items from part h =
      ap (λ (items : List (List Tuple)). (kept_places from items >>= (λ kept. Ok (map (rows_at items) kept))) >>= item_rows part) h

  same_references : (refs : List RefPart) → AllByRecursion (λ (r : RefPart). HaveSameRows before under r.source.from.tables) refs
      → each (reference_over under) refs ≡ each (reference_over before) refs
  same_references [] h = refl
  same_references (r ∷ refs) h =
      λ i. (marked (placed_fault 0 []) (same_items r.source.from r.source.items h.0 i) >>= reference_of r) >>= (λ y.
      same_references refs h.1 i >>= (λ ys. Ok (y ∷ ys)))

  same_lists : (part : ModelPart) (n : ℕ) (lists : List PlainPart) → AllByRecursion (λ (list : PlainPart). HaveSameRows before under list.from.tables) lists
      → each (list_rows under part) (enumerate_from n lists) ≡ each (list_rows before part) (enumerate_from n lists)
  same_lists part n [] h = refl
  same_lists part n (list ∷ lists) h =
      λ i. marked (plain_fault (rule_of_list part n)) (same_items list.from list.items h.0 i) >>= (λ y. same_lists part (n + 1) lists h.1 i >>= (λ ys. Ok (y ∷ ys)))

  same_model : (part : ModelPart) → HasSameSources before under part → model_over under part ≡ model_over before part
  same_model part same =
      λ i. marked (at_partition []) (same_references part.refs (recursion_from_All _ part.refs same.refs) i) >>= (λ refs.
      same_lists part 0 part.lists (recursion_from_All _ part.lists same.lists) i >>= (λ lists. Ok (record { part = part; lists = lists; refs = refs })))

-- ---- the tables of a query
one_table : (a b : List ℕ) → a ∷ [] ≡ b ∷ [] → a ≡ b
one_table a b h = cc

pub rows_of_table : (tables : Tables) (q : BoundQuery) (table : List ℕ) (lines : List (Option Tuple)) → GoesByRow q.from q.items table → AreLinesOver tables q lines
    → lines_of q.from q.items (rows_of tables table) ≡ Some lines
rows_of_table tables q table lines goes are =
    ap (λ (name : List ℕ). lines_of q.from q.items (rows_of tables name)) (one_table table are.table (sym goes.only ∙ are.by_row.only)) ∙ are.lines_are

-- .. and those of the other rows
pub lines_beside : (under : Tables) (q : BoundQuery) (table : List ℕ) (rows : List Tuple) (lines : List (Option Tuple)) (change : ItemChange)
    → GoesByRow q.from q.items table → rows_of under table ≡ rows → IsChangeOfLines q.from q.items rows lines change → HaveLinesBeside under q lines change
lines_beside under q table rows lines change goes is of = record {
  after = of.after;
  lines_are = record { table = table; by_row = goes; lines_are = ap (lines_of q.from q.items) is ∙ of.lines_are };
  items = of.items;
}

-- ---- what is told of a find, where there is one
module _ {A E : Type 0} (P Q R : A → Type 0) where
  pub tell : (r : Result (Option A) E) → ((x : A) → P x → R x) → IfOk r (λ found. IfSome found P) → IfOk r (λ found. IfSome found R)
  tell (Ok (Some x)) f p = f x p
  tell (Ok None) f p = tt
  tell (Err e) f p = tt

  pub tell_both : (r : Result (Option A) E) → ((x : A) → P x → Q x → R x) → IfOk r (λ found. IfSome found P) → IfOk r (λ found. IfSome found Q)
      → IfOk r (λ found. IfSome found R)
  tell_both (Ok (Some x)) f p q = f x p q
  tell_both (Ok None) f p q = tt
  tell_both (Err e) f p q = tt

-- ---- a view, and its partitions over the other tables
module _ (before under : Tables) (q : BoundQuery) (part : ModelPart) (view : KeptView) (is : q.model ≡ Some part) (ready : QueryIsReady q)
    (same : HasSameSources before under part) (kept : IsKept before q part view) (lines : List (Option Tuple)) (has : view.lines ≡ Some lines) where
  pub lines_before : AreLinesOver before q lines
  lines_before = subst (λ (o : Option (List (Option Tuple))). IfSome o (AreLinesOver before q)) has kept.lines

  pub read_before : (inputs_of view.parts ≡ partitions part (items_in lines)) × (model_over before part ≡ Ok (model_in part view))
  read_before = by_items before q part (items_in lines) (inputs_of view.parts) (model_in part view) (lines_items before q lines lines_before) kept.read

  is_ready : ModelIsReady (length q.items.items) part
  is_ready = subst (λ (o : Option ModelPart). IfSome o (ModelIsReady (length q.items.items))) is ready

  module _ (change : ItemChange) (found : HaveLinesBeside under q lines change) where
    items_under : marked (plain_fault 0) (items_over under q.from q.items) ≡ Ok (items_in found.after)
    items_under = lines_items under q found.after found.lines_are

    pub may_renew_beside : MayRenew part change (inputs_of view.parts)
    may_renew_beside = record {
      before = items_in lines;
      after = items_in found.after;
      inputs_are = read_before.0;
      change_is = found.items;
      lefts = is_ready.lefts;
      wide = subst (λ n. HaveLength n (items_in found.after)) is_ready.wide (items_have under q.from q.items (items_in found.after) items_under);
    }

    pub is_kept_beside : (parts : List KeptPart) → All (IsRight (model_in part view)) parts → inputs_of parts ≡ partitions part (items_in found.after)
        → IsKept under q part (with_parts view parts)
    is_kept_beside parts right renewed = record {
      read =
          of_items under q part (items_in found.after) (model_in part view) items_under (same_model before under part same ∙ read_before.1)
          ∙ ap (λ (inputs : List PartInput). Ok (inputs, model_in part view)) (sym renewed);
      right = right;
      lines = tt;
    }
