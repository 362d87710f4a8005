-- Values that the order finds equal are one.
use Rattle.std.proofs.Common.{◌≡◌, true, Ordering, Less, Equal, Greater, refl, sym, ap, ◌∙◌}
use Rattle.std.specs.Bool.{Decides}
use Rattle.std.specs.Ordering.{is_eq}
use Rattle.mq_values.specs.Order.{cmp_value}
use Rattle.mq_values.specs.OrderTells.{same_value, value_itself}
use Rattle.mq_values.specs.declared.value.Value.{Value}

equal_is : (r : Ordering) → is_eq r ≡ true → r ≡ Equal
equal_is Less h = cc
equal_is Equal h = refl
equal_is Greater h = cc

itself : (a b : Value) → a ≡ b → is_eq (cmp_value a b) ≡ true
itself a b e = ap (λ (v : Value). is_eq (cmp_value a v)) (sym e) ∙ ap is_eq (value_itself a)

pub value_decides : (a b : Value) → Decides (is_eq (cmp_value a b)) (a ≡ b)
value_decides a b = (λ h. same_value a b (equal_is (cmp_value a b) h), itself a b)
