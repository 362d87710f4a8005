-- A query that takes a table as it stands: its lines are the rows.
use Rattle.std.proofs.Common.{◌≡◌, ◌≤◌, Bool, true, false, List, [], ◌∷◌, ◌++◌, length, map, Option, Some, None, Result, Ok, refl, sym, ap, subst, ◌∙◌, arith}
use Rattle.std.specs.Prelude.{is_some, not, if◌then◌else◌, ◌==◌}
use Rattle.std.specs.List.{filter_map, list_all, list_any}
use Rattle.std.specs.Option.{option_and_then, option_to_list}
use Rattle.std.specs.Result.{result_ok}
use Rattle.std.proofs.lemmas.Bool.{and_parts}
use Rattle.mq_values.specs.declared.limits.TheConstants.{MAX_BASE_ROWS}
use Rattle.mq_values.specs.declared.faults.FaultKind.{FaultKind}
use Rattle.mq_ir.specs.declared.expression.Expr.{Expr}
use Rattle.mq_ir.specs.declared.query.FromPart.{FromPart}
use Rattle.mq_ir.specs.declared.query.ItemPart.{ItemPart}
use Rattle.mq_ir.specs.BaseRows.{all_true, conditions_of, items_of, row_leaves}
use Rattle.mq_ir.specs.Items.{items_at, items_over}
use Rattle.mq_ir.specs.Partitions.{Tuple}
use Rattle.mq_ir.specs.Placed.{kind_of}
use Rattle.mq_ir.specs.Results.{◌>>=◌, each, marked}
use Rattle.mq_ir.specs.Tables.{Tables}
use Rattle.mq_delta_items.specs.ColumnLaws.{row_is}
use Rattle.mq_delta_items.specs.Columns.{columns_of}
use Rattle.mq_delta_items.specs.LineLaws.{few_are, lines_of_rows}
use Rattle.mq_delta_items.specs.Lines.{few, items_in, line_of, lines_of}

-- ---- no conditions
none_stand : (ons : List (Option Expr)) → list_any is_some ons ≡ false → filter_map (λ (on : Option Expr). on) ons ≡ []
none_stand [] h = refl
none_stand (None ∷ ons) h = none_stand ons h
none_stand (Some e ∷ ons) h = absurd (cc)

not_there : {A : Type 0} (o : Option A) → is_some o ≡ false → o ≡ None
not_there None h = refl
not_there (Some x) h = absurd (cc)

pub unconditioned : (from : FromPart) (filter ons : Bool) → filter ≡ is_some from.filter → filter ≡ false → ons ≡ list_any is_some from.ons → not ons ≡ true → conditions_of from ≡ []
unconditioned from filter true a b c d = absurd (cc)
unconditioned from filter false a b c d = λ i. none_stand from.ons (sym c) i ++ option_to_list (not_there from.filter (sym a ∙ b) i)

-- ---- the lines of rows that are taken whole
abbrev taken : Tuple → Option Tuple
taken row = Some row

module _ (from : FromPart) (part : ItemPart) (free : conditions_of from ≡ []) (columns : part.items ≡ columns_of (length part.items)) where
  line_is : (row : Tuple) → length row ≡ length part.items → line_of from part row ≡ Ok (taken row)
  line_is row wide =
      let item : items_at part.items (row_leaves (row ∷ [])) ≡ Ok row =
      ap (λ (es : List Expr). items_at es (row_leaves (row ∷ []))) columns ∙ row_is row (length part.items) wide in
      ap (λ (es : List Expr). marked kind_of (all_true (row_leaves (row ∷ [])) es) >>= (λ taken.
      if taken then items_at part.items (row_leaves (row ∷ [])) >>= (λ item. Ok (Some item)) else Ok None)) free
      ∙ ap (λ (r : Result Tuple FaultKind). r >>= (λ item. Ok (Some item))) item

  lines_are : (rows : List Tuple) → list_all (λ (row : Tuple). length row == length part.items) rows ≡ true
      → each (line_of from part) rows ≡ Ok (map taken rows)
  lines_are [] h = refl
  lines_are (row ∷ rows) h =
      let s = and_parts (length row == length part.items) (list_all (λ (row : Tuple). length row == length part.items) rows) h in
      let wide : length row ≡ length part.items = grind (arith, s.0) in
      ap (λ (r : Result (Option Tuple) FaultKind). r >>= (λ line. each (line_of from part) rows >>= (λ lines. Ok (line ∷ lines)))) (line_is row wide)
      ∙ ap (λ (r : Result (List (Option Tuple)) FaultKind). r >>= (λ lines. Ok (taken row ∷ lines))) (lines_are rows s.1)

items_are : (rows : List Tuple) → items_in (map taken rows) ≡ rows
items_are [] = refl
items_are (row ∷ rows) = ap (λ l. row ∷ l) (items_are rows)

pub whole_is : (tables : Tables) (from : FromPart) (part : ItemPart) (rows : List Tuple) → conditions_of from ≡ [] → part.group ≡ None → part.items ≡ columns_of (length part.items)
    → items_of tables from ≡ rows ∷ [] → length rows ≤ MAX_BASE_ROWS → list_all (λ (row : Tuple). length row == length part.items) rows ≡ true → items_over tables from part ≡ Ok rows
whole_is tables from part rows free plain columns only within wide =
    let lines : lines_of from part rows ≡ Some (map taken rows) =
    ap (λ (r : Result (List (Option Tuple)) FaultKind). option_and_then few (result_ok r)) (lines_are from part free columns rows wide) ∙ few_are (map taken rows) (subst (λ (l : List Tuple). length l ≤ MAX_BASE_ROWS) (sym (items_are rows)) within) in
    lines_of_rows from part rows tables (map taken rows) only plain lines ∙ ap Ok (items_are rows)
