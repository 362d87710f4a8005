-- The day that prints as a text is the only one among all days of the calendar.
use Rattle.std.proofs.Common.{◌≡◌, ◌≢◌, ℕ, zero, suc, ◌+◌, ◌<◌, ◌≤◌, List, Bool, true, false, Option, Some, None, IsTrue, refl, sym, ap, ◌∙◌, arith}
use Rattle.std.specs.Prelude.{if◌then◌else◌, ◌&&◌, nat_le}
use Rattle.std.specs.List.{find, range_with_len}
use Rattle.std.specs.Str.{bytes_eq}
use Rattle.std.proofs.lemmas.Bool.Decides.{nat_tests}
use Rattle.std.proofs.lemmas.Slice.Eq.{bytes_eq-Decides}
use Rattle.mq_values.specs.Calendar.{SpellsDay, is_ordinal, text_of_day}
use Rattle.mq_values.specs.CalendarLaws.{days_print_apart}
use Rattle.mq_values.specs.declared.limits.TheConstants.{MAX_ORDINAL}
use Rattle.mq_csvload.specs.Fields.{day_of_text}

-- the one number of a range that passes a test
find_only : (p : ℕ → Bool) (a n d : ℕ) → a ≤ d → d < a + n → p d ≡ true → ((k : ℕ) → a ≤ k → k < a + n → p k ≡ true → k ≡ d)
    → find p (range_with_len a n) ≡ Some d
find_only p a zero d low high e only = absurd (omega arith)
find_only p a (suc n) d low high e only =
    by (p a) refl (λ more. find_only p (a + 1) n d more (omega arith) e (λ k l m. only k (omega arith) (omega arith)))
  where
    by : (b : Bool) → p a ≡ b → (a + 1 ≤ d → find p (range_with_len (a + 1) n) ≡ Some d) → (if b then Some a else find p (range_with_len (a + 1) n)) ≡ Some d
    by true h more = ap Some (only a (omega arith) (omega arith) h)
    by false h more =
        let other : a ≢ d = λ q. cc in
        more (omega arith)

find_none : (p : ℕ → Bool) (a n : ℕ) → ((k : ℕ) → a ≤ k → k < a + n → p k ≡ true → ⊥) → find p (range_with_len a n) ≡ None
find_none p a zero none = refl
find_none p a (suc n) none = by (p a) refl (find_none p (a + 1) n (λ k l m. none k (omega arith) (omega arith)))
  where
    by : (b : Bool) → p a ≡ b → find p (range_with_len (a + 1) n) ≡ None → (if b then Some a else find p (range_with_len (a + 1) n)) ≡ None
    by true h more = absurd (none a (omega arith) (omega arith) h)
    by false h more = more

-- the ordinals up to some number
numbered : (n k : ℕ) → 1 ≤ k → k < 1 + n → (nat_le 1 k && nat_le k n) ≡ true
numbered n k l h = grind (arith, nat_tests)

within : (n k : ℕ) → (nat_le 1 k && nat_le k n) ≡ true → (1 ≤ k) × (k < 1 + n)
within n k h = (grind (arith, nat_tests), grind (arith, nat_tests))

pub day_is : (z : List ℕ) (day : ℕ) → IsTrue (is_ordinal day) → text_of_day day ≡ z → day_of_text z ≡ Some day
unfolding day_of_text
day_is z day h e =
    let range = within MAX_ORDINAL day h in
    find_only (λ day. bytes_eq (text_of_day day) z) 1 MAX_ORDINAL day range.0 range.1 ((bytes_eq-Decides (text_of_day day) z).1 e)
    (λ k low high same. days_print_apart k day (numbered MAX_ORDINAL k low high) h ((bytes_eq-Decides (text_of_day k) z).0 same ∙ sym e))

pub no_day_is : (z : List ℕ) → ((day : ℕ) → IsTrue (is_ordinal day) → text_of_day day ≢ z) → day_of_text z ≡ None
unfolding day_of_text
no_day_is z none =
    find_none (λ day. bytes_eq (text_of_day day) z) 1 MAX_ORDINAL
    (λ k low high same. none k (numbered MAX_ORDINAL k low high) ((bytes_eq-Decides (text_of_day k) z).0 same))

-- what the relation of a text to its day says of that search
pub day_spelled : (z : List ℕ) (found : Option ℕ) → SpellsDay z found → day_of_text z ≡ found
day_spelled z (Some day) h = day_is z day h.0 h.1
day_spelled z None h = no_day_is z h
