-- One single left side: whether it may assign its targets, and what has grown behind it.
use Rattle.std.proofs.Common.{◌≡◌, ℕ, List, ◌++◌, length, map, Option, Some, None, Ok, Err, refl, sym, ap, ◌∙◌}
use Rattle.std.specs.List.{filter, list_any}
use Rattle.std.specs.Option.{option_map_or}
use Rattle.mq_values.specs.Order.{cmp_key}
use Rattle.mq_ir.specs.declared.query.Rule.{Rule}
use Rattle.mq_ir.specs.declared.query.SingleLeft.{SingleLeft}
use Rattle.mq_ir.specs.Keys.{Tuple}
use Rattle.mq_ir.specs.Partitions.{ascending}
use Rattle.mq_ir.specs.Placed.{Placed}
use Rattle.mq_ir.specs.Shape.{Growing, assigns, cmp_assignment, least_of, shape_fault}
use Rattle.mq_ir.specs.Targets.{Targets, targets}
use Rattle.mq_auto_shape.specs.Walk.{assigned_by, fault_in, left_grown, placed_all}

-- where no fault is found, none is assigned again
pub none_again : (number : ℕ) (again : Option Tuple) (count : ℕ) → None ≡ fault_in number again count → None ≡ again
none_again number None count h = refl
none_again number (Some key) count h = cc

module _ (number : ℕ) (rule : Rule) (left : SingleLeft) (g : Growing) where
  abbrev found : Targets
  found = targets left rule.mode g.set

  abbrev set : List Tuple
  set = ascending cmp_key (found.created ++ g.set)

  abbrev grown : Growing
  grown = record { set = set; assigned = placed_all cmp_assignment (map (assigned_by rule.measure number) found.cells) g.assigned }

  module _ (cells created : List Tuple) (again : Option Tuple) (there : Growing) (c : cells ≡ found.cells) (d : created ≡ found.created)
      (a : again ≡ least_of cmp_key (filter (λ key. list_any (assigns rule.measure key) g.assigned) cells))
      (s : there.set ≡ ascending cmp_key (created ++ g.set)) where
    sets : there.set ≡ set
    sets = s ∙ ap (λ l. ascending cmp_key (l ++ g.set)) d

    judged : shape_fault number rule.measure g.assigned found.cells set ≡ fault_in number again (length there.set)
    judged = sym ((λ i. fault_in number (a i) (length (sets i))) ∙ ap (λ l. shape_fault number rule.measure g.assigned l set) c)

    pub left_fails : (fault : Placed) → Some fault ≡ fault_in number again (length there.set) → left_grown number rule left g ≡ Err fault
    left_fails fault h = ap (λ o. option_map_or Err o (Ok grown)) (judged ∙ sym h)

    pub left_passes : (after : Growing) → None ≡ fault_in number again (length there.set) → after.set ≡ there.set
        → after.assigned ≡ placed_all cmp_assignment (map (assigned_by rule.measure number) cells) there.assigned → there.assigned ≡ g.assigned
        → left_grown number rule left g ≡ Ok after
    left_passes after h e f b =
        ap (λ o. option_map_or Err o (Ok grown)) (judged ∙ sym h)
        ∙ sym (λ i. Ok (record {
          set = (e ∙ sets) i;
          assigned = (f ∙ (λ j. placed_all cmp_assignment (map (assigned_by rule.measure number) (c j)) (b j))) i;
        }))
