-- The loop over items that may be columns, and rows that are their own items.
use Rattle.std.proofs.Common.{◌≡◌, ℕ, ◌+◌, ◌<◌, ◌≤◌, take, List, [], ◌∷◌, ◌++◌, length, get_or, Bool, true, ◌&&◌, eqb, IsTrue, Ok, sym, ap, ◌∙◌, arith}
use Rattle.std.proofs.lemmas.Bool.{and_parts, eqb-true}
use Rattle.std.proofs.lemmas.List.{take_all, take_more}
use Rattle.std.proofs.lemmas.List.FromFn.{length-map-range_with_len, map-range_with_len_more}
use Rattle.mq_ir.specs.declared.expression.Expr.{Expr}
use Rattle.mq_ir.specs.BaseRows.{row_leaves}
use Rattle.mq_ir.specs.Items.{items_at}
use Rattle.mq_ir.specs.Keys.{Tuple}
use Rattle.mq_delta_items.specs.ColumnLaws.{row_is}
use Rattle.mq_delta_items.specs.Columns.{column, columns_of}

pub column_more : (items : List Expr) (i : ℕ) (x : Expr) → i < length items → x ≡ get_or items i x → x ≡ column i → take i items ≡ columns_of i → take (i + 1) items ≡ columns_of (i + 1)
column_more items i x h at is before =
    take_more items i x h ∙ (λ j. before j ++ (sym at ∙ is) j ∷ []) ∙ sym (map-range_with_len_more column 0 i i (omega arith))

pub columns_end : (items : List Expr) (i : ℕ) → length items ≤ i → take i items ≡ columns_of i → items ≡ columns_of (length items)
columns_end items i h all =
    let is : items ≡ columns_of i = sym (take_all i items h) ∙ all in
    let count : length items ≡ i = ap length is ∙ length-map-range_with_len column 0 i in
    is ∙ ap columns_of (sym count)

-- a row that has just the columns that are asked for is its own items
pub whole_row : (items : List Expr) (row seen key : Tuple) (width : ℕ) (columns : Bool) → (IsTrue columns → items ≡ columns_of (length items))
    → seen ≡ row → width ≡ length items → (columns && eqb (length seen) width) ≡ true → key ≡ row
    → items_at items (row_leaves (row ∷ [])) ≡ Ok key
whole_row items row seen key width columns are s w h k =
    let both = and_parts columns (eqb (length seen) width) h in
    let wide : length row ≡ length items = ap length (sym s) ∙ eqb-true (length seen) width both.1 ∙ w in
    ap (λ (es : List Expr). items_at es (row_leaves (row ∷ []))) (are both.0) ∙ row_is row (length items) wide ∙ ap Ok (sym k)
