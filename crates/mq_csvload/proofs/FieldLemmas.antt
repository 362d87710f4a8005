-- What bytes that are UTF-8, and bytes that are not, hold as values.
use Rattle.std.proofs.Common.{◌≡◌, ℕ, List, Bool, true, false, ◌&&◌, Option, Some, None, refl, sym, ap, subst, ◌∙◌}
use Rattle.std.specs.Prelude.{IsUtf8, if◌then◌else◌}
use Rattle.std.specs.Option.{ok_or, option_map}
use Rattle.std.specs.Str.{is_utf8}
use Rattle.std.proofs.lemmas.Str.{IsUtf8-from_is_utf8, is_utf8-from_IsUtf8}
use Rattle.mq_values.specs.Calendar.{SpellsDay}
use Rattle.mq_values.specs.Text.{is_text}
use Rattle.mq_values.specs.declared.faults.Refused.TheVariants.{LoadRow}
use Rattle.mq_values.specs.declared.value.Value.{Value}
use Rattle.mq_values.specs.declared.value.Value.TheVariants as value
use Rattle.mq_lexer.specs.Numbers.{is_number, number_of}
use Rattle.mq_ir.specs.declared.statement.Column.{Column}
use Rattle.mq_csvload.specs.Fields.{Field, column_value, date_value, plain_number, text_value}
use Rattle.mq_csvload.specs.Loading.{value_of}
use Rattle.mq_csvload.proofs.AsciiLemmas.{day_is_utf8, number_is_utf8}
use Rattle.mq_csvload.proofs.DayLemmas.{day_spelled, no_day_is}

pub no_number : (z : Field) → (IsUtf8 z → ⊥) → plain_number z ≡ None
no_number z n = by (is_number z) refl
  where
    by : (b : Bool) → is_number z ≡ b → (if b then number_of z else None) ≡ None
    by true h = absurd (n (number_is_utf8 z h))
    by false h = refl

-- the test of UTF-8 and the test of a text
text_found : (z : Field) → IsUtf8 z → text_value z ≡ (if is_text z then Some (value.Text z) else None)
text_found z u = ap (λ b. if b && is_text z then Some (value.Text z) else None) (is_utf8-from_IsUtf8 z u)

pub text_is : (z t : Field) (o : Option (List ℕ)) → IsUtf8 z → o ≡ (if is_text t then Some t else None) → t ≡ z → text_value z ≡ option_map value.Text o
text_is z t o u e same = text_found z u ∙ by (is_text z) ∙ ap (option_map value.Text) (sym (e ∙ ap (λ t. if is_text t then Some t else None) same))
  where
    by : (b : Bool) → (if b then Some (value.Text z) else None) ≡ option_map value.Text (if b then Some z else None)
    by true = refl
    by false = refl

pub no_text : (z : Field) → (IsUtf8 z → ⊥) → text_value z ≡ None
no_text z n = by (is_utf8 z) refl
  where
    by : (b : Bool) → is_utf8 z ≡ b → (if b && is_text z then Some (value.Text z) else None) ≡ None
    by true h = absurd (n (IsUtf8-from_is_utf8 z h))
    by false h = refl

pub date_found : (z : Field) (day : Option ℕ) → SpellsDay z day → date_value z ≡ option_map value.Date day
date_found z day h = ap (option_map value.Date) (day_spelled z day h)

pub no_date : (z : Field) → (IsUtf8 z → ⊥) → date_value z ≡ None
no_date z n = ap (option_map value.Date) (no_day_is z (λ day h e. n (subst IsUtf8 e (day_is_utf8 day))))

-- the answer for a field is that for its bytes
pub value_is : (number : ℕ) (col : Column) (z t : Field) (o : Option Value) → z ≡ t → o ≡ column_value col t → value_of number (col, z) ≡ ok_or o (LoadRow number)
value_is number col z t o same e = ap (λ z. value_of number (col, z)) same ∙ ap (λ o. ok_or o (LoadRow number)) (sym e)
