-- The order in which rows are printed: it is total, and a stable sort by it gives the rows as they are printed.
use Rattle.std.proofs.Common.{◌≡◌, ℕ, List, [], ◌∷◌, ◌++◌, Bool, true, false, map, Ordering, Less, Equal, Greater, Bor, refl, sym, ap, ◌∙◌}
use Rattle.std.specs.Prelude.{slice_index_or}
use Rattle.std.specs.Cmp.{IsTotalOrder, back_total, on_total, then_total}
use Rattle.std.specs.Cmp.Derive.{point_total}
use Rattle.std.specs.Fn.{ComparesAs, Mut}
use Rattle.std.specs.List.Sorted.{IsSortedByClosure, IsStableByClosure}
use Rattle.std.specs.Ordering.{is_lt, is_ne, ordering_then}
use Rattle.std.proofs.lemmas.List.Sorted.{ranks_by}
use Rattle.mq_values.specs.OrderLaws.{value_total}
use Rattle.mq_values.specs.declared.value.Value.TheVariants.{Null}
use Rattle.mq_ir.specs.declared.query.BoundQuery.{BoundQuery}
use Rattle.mq_ir.specs.Partitions.{Tuple, ascending}
use Rattle.mq_ir.specs.Printing.{cmp_column, cmp_columns, cmp_printed, columns_at, printed_rows}
use Rattle.mq_ir.specs.SortLaws.{mapped_ascending, stable_is_ascending}
use Rattle.mq_answers.specs.Printing.{cmp_rows, with_ascending}

-- columns in front decide before the others

then_again : (r s t : Ordering) → ordering_then r (ordering_then s t) ≡ ordering_then (ordering_then r s) t
then_again Less s t = refl
then_again Equal s t = refl
then_again Greater s t = refl

joined : (cs ds : List (ℕ × Bool)) (a b : Tuple) → cmp_columns (cs ++ ds) a b ≡ ordering_then (cmp_columns cs a b) (cmp_columns ds a b)
joined [] ds a b = refl
joined (c ∷ cs) ds a b =
    ap (ordering_then (cmp_column c a b)) (joined cs ds a b)
    ∙ then_again (cmp_column c a b) (cmp_columns cs a b) (cmp_columns ds a b)

decides : (r s : Ordering) → is_ne r ≡ true → r ≡ ordering_then r s
decides Less s h = refl
decides Equal s h = cc
decides Greater s h = refl

leaves : (r s : Ordering) → is_ne r ≡ false → s ≡ ordering_then r s
leaves Less s h = cc
leaves Equal s h = refl
leaves Greater s h = cc

pub order_decides : (order : List (ℕ × Bool)) (print : List ℕ) (a b : Tuple) → is_ne (cmp_columns order a b) ≡ true
    → cmp_columns order a b ≡ cmp_columns (with_ascending order print) a b
order_decides order print a b h =
    let shown = map (λ (n : ℕ). (n, false)) print in
    decides (cmp_columns order a b) (cmp_columns shown a b) h ∙ sym (joined order shown a b)

pub print_decides : (order : List (ℕ × Bool)) (print : List ℕ) (a b : Tuple) → is_ne (cmp_columns order a b) ≡ false
    → cmp_columns (map (λ n. (n, false)) print) a b ≡ cmp_columns (with_ascending order print) a b
print_decides order print a b h =
    let shown = map (λ (n : ℕ). (n, false)) print in
    leaves (cmp_columns order a b) (cmp_columns shown a b) h ∙ sym (joined order shown a b)

-- the order is total

column_total : (c : ℕ × Bool) → IsTotalOrder (cmp_column c)
column_total (n, true) = on_total (λ (row : Tuple). slice_index_or row n Null) (back_total value_total)
column_total (n, false) = on_total (λ (row : Tuple). slice_index_or row n Null) value_total

pub columns_total : (cs : List (ℕ × Bool)) → IsTotalOrder (cmp_columns cs)
columns_total [] = point_total
columns_total (c ∷ cs) = then_total (column_total c) (columns_total cs)

-- what a stable sort by a closure gives
pub sorted_is : {X F : Type 0} {R : X → X → Ordering} {g : Mut F (Bor X × (Bor X × Unit {0})) Ordering} {f : F} (o : IsTotalOrder R) (xs ys : List X)
    → IsSortedByClosure g f ys → IsStableByClosure g f xs ys → ComparesAs g (λ a b. is_lt (R a b)) f → ys ≡ ascending R xs
sorted_is {R = R} o xs ys sorted stable answers =
    stable_is_ascending o xs ys
    (sorted (λ a b. is_lt (R a b)) (ranks_by o (λ k. k)) answers)
    (stable (λ a b. is_lt (R a b)) (ranks_by o (λ k. k)) answers)

-- the printed columns of rows in order

map_map : {A B C : Type 0} (f : B → C) (g : A → B) (xs : List A) → map f (map g xs) ≡ map (λ x. f (g x)) xs
map_map f g [] = refl
map_map f g (x ∷ xs) = ap (λ l. f (g x) ∷ l) (map_map f g xs)

pub printed_is : {R : Type 0} (columns : R → Tuple) (q : BoundQuery) (rows sorted : List R) (print : List ℕ) (printed : List Tuple)
    → print ≡ q.print → sorted ≡ ascending (cmp_rows columns q) rows → printed ≡ map (λ row. columns_at print (columns row)) sorted
    → printed ≡ printed_rows q (map columns rows)
printed_is columns q rows sorted print printed e f h =
    h
    ∙ (λ i. map (λ row. columns_at (e i) (columns row)) (f i))
    ∙ sym (map_map (columns_at q.print) columns (ascending (cmp_rows columns q) rows))
    ∙ ap (map (columns_at q.print)) (mapped_ascending columns (cmp_printed q) rows)
