-- Items row by row and group by group as items of rows or groups, and aggregates member by member.
use Rattle.std.proofs.Common.{◌≡◌, ℕ, List, [], ◌∷◌, length, map, pos, Option, Some, None, refl, sym, ap, subst, ◌∙◌, arith}
use Rattle.std.specs.Prelude.{slice_get, slice_index_or, IfSome}
use Rattle.std.specs.Borrow.{Bor}
use Rattle.std.specs.Option.{option_copied, option_map_or}
use Rattle.std.specs.Slice.{IsItemAt}
use Rattle.std.proofs.lemmas.List.{get_or_past, get_or-map, length-map}
use Rattle.mq_values.specs.Aggregate.{aggregate}
use Rattle.mq_values.specs.Arithmetic.{in_range}
use Rattle.mq_values.specs.declared.operators.Agg.{Agg}
use Rattle.mq_ir.specs.declared.expression.Expr.{Expr}
use Rattle.mq_ir.specs.declared.query.ColRef.{ColRef}
use Rattle.mq_ir.specs.declared.query.ItemPart.{ItemPart}
use Rattle.mq_ir.specs.Answer.{plain_fault}
use Rattle.mq_ir.specs.Expression.{ev}
use Rattle.mq_ir.specs.Items.{BaseRow, group_leaves, group_value, groups_of, item_rows, items_at, members_of, row_leaves, stands_of}
use Rattle.mq_ir.specs.Results.{◌>>=◌, each, marked}
use Rattle.mq_ir.specs.Worth.{a_number}
use Rattle.mq_group.specs.Members.{aggregate_found, group_found, items_found, row_found, row_or_none}
use Rattle.mq_group.proofs.TakingLemmas.{each_map, each_marked}

module _ {R : Type 0} (values : R → BaseRow) where
  -- the row that a slice lends, or the empty one where it lends none
  pub row_lent : (rows : List R) (n : ℕ) (r : Option (Bor R)) → IsItemAt rows n r → row_or_none values (option_copied r) ≡ slice_index_or (map values rows) n []
  row_lent rows n None (some, told, there, past, same) = sym (get_or_past (map values rows) n [] (omega (arith, past, length-map rows values)))
  row_lent rows n (Some x) (some, told, there, (within, at), same) = ap values told ∙ sym (get_or-map values rows n x.now [] within)

  -- the first member, where there is one, and where there is none
  pub first_member : (rows : List R) (group : List ℕ) (n : ℕ) → slice_get group 0 ≡ Some n → slice_index_or (map values rows) n [] ≡ slice_index_or (members_of (map values rows) group) 0 []
  first_member rows [] n h = cc
  first_member rows (m ∷ group) n h = ap (λ o. option_map_or (λ k. slice_index_or (map values rows) k []) o []) (sym h)

  pub no_member : (rows : List R) (group : List ℕ) → slice_get group 0 ≡ None → slice_index_or (members_of (map values rows) group) 0 [] ≡ []
  no_member rows [] h = refl
  no_member rows (m ∷ group) h = cc

  pub row_items_are : (part : ItemPart) (rows : List R) → part.group ≡ None → each (row_found values part.items) rows ≡ marked (plain_fault 0) (item_rows part (map values rows))
  row_items_are part rows h =
      sym (each_map (λ row. items_found part.items (row_leaves row)) values rows)
      ∙ sym (each_map (items_found part.items) row_leaves (map values rows))
      ∙ sym (each_marked (plain_fault 0) (items_at part.items) (map row_leaves (map values rows)))
      ∙ ap (λ g. marked (plain_fault 0) (each (items_at part.items) (stands_of g (map values rows)))) (sym h)

  pub group_items_are : (part : ItemPart) (cols : List ColRef) (rows : List R) (groups : List (List ℕ)) → part.group ≡ Some cols → IfSome part.group (λ cols. groups ≡ groups_of cols (map values rows))
      → each (group_found values cols rows part.items) groups ≡ marked (plain_fault 0) (item_rows part (map values rows))
  group_items_are part cols rows groups h g =
      ap (each (group_found values cols rows part.items)) (subst (λ o. IfSome o (λ cols. groups ≡ groups_of cols (map values rows))) h g)
      ∙ sym (each_map (items_found part.items) (λ group. group_leaves cols (members_of (map values rows) group)) (groups_of cols (map values rows)))
      ∙ sym (each_marked (plain_fault 0) (items_at part.items) (map (λ group. group_leaves cols (members_of (map values rows) group)) (groups_of cols (map values rows))))
      ∙ ap (λ o. marked (plain_fault 0) (each (items_at part.items) (stands_of o (map values rows)))) (sym h)

  pub members_found : (rows : List R) (group : List ℕ) (agg : Agg) (e : Expr)
      → aggregate_found values rows agg e group ≡ group_value (members_of (map values rows) group) agg (Some e)
  members_found rows group agg e =
      ap (λ r. r >>= aggregate agg) (sym (each_map (λ row. ev (row_leaves row) e) (λ n. slice_index_or (map values rows) n []) group))

  pub members_counted : (rows : List R) (group : List ℕ) (agg : Agg) → a_number (in_range (pos (length group)) 0) ≡ group_value (members_of (map values rows) group) agg None
  members_counted rows group agg = ap (λ n. a_number (in_range (pos n) 0)) (sym (length-map group (λ n. slice_index_or (map values rows) n [])))
