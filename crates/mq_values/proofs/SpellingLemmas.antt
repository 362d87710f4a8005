-- Which day a text spells.
use Rattle.std.proofs.Common.{◌≡◌, ℕ, suc, ◌+◌, ◌<◌, ◌++◌, List, [], ◌∷◌, length, get_or, drop, drop-cons, refl, sym, ap, ◌∙◌, arith, Bool, true, false, true≢false, IsTrue, Some, None}
use Rattle.std.specs.Prelude.{if◌then◌else◌}
use Rattle.std.proofs.lemmas.List.{drop_all}
use Rattle.mq_values.specs.Number.{fixed_digits}
use Rattle.mq_values.specs.Calendar.{SpellsDay, is_date, date_of, ordinal_of, year_of, month_of, day_of_month, date_text, text_of_day}
use Rattle.mq_values.specs.CalendarLemmas.{dated, is_date_of, is_ordinal_of, date_has_parts, parts}
use Rattle.mq_values.specs.CalendarLaws.{Short, dates_short, texts_tell}

abbrev four : List ℕ → List ℕ
four bs = get_or bs 0 0 ∷ get_or bs 1 0 ∷ get_or bs 2 0 ∷ get_or bs 3 0 ∷ []

abbrev two : ℕ → List ℕ → List ℕ
two i bs = get_or bs i 0 ∷ get_or bs (i + 1) 0 ∷ []

-- a text that has another length, other bytes for the dashes or no such digits spells no day
pub none_by_length : (bs : List ℕ) → (length bs ≡ 10 → ⊥) → SpellsDay bs None
unfolding text_of_day
none_by_length bs apart day h e = apart (sym (ap length e))

pub none_by_dash : (bs : List ℕ) → (get_or bs 4 0 ≡ 45 → ⊥) → SpellsDay bs None
unfolding text_of_day
none_by_dash bs apart day h e = apart (sym (ap (λ xs. get_or xs 4 0) e))

pub none_by_other_dash : (bs : List ℕ) → (get_or bs 7 0 ≡ 45 → ⊥) → SpellsDay bs None
unfolding text_of_day
none_by_other_dash bs apart day h e = apart (sym (ap (λ xs. get_or xs 7 0) e))

pub none_by_year : (bs : List ℕ) → ((n : ℕ) → fixed_digits 4 n ≡ four bs → ⊥) → SpellsDay bs None
unfolding text_of_day
none_by_year bs apart day h e = apart (year_of day) (ap four e)

pub none_by_month : (bs : List ℕ) → ((n : ℕ) → fixed_digits 2 n ≡ two 5 bs → ⊥) → SpellsDay bs None
unfolding text_of_day
none_by_month bs apart day h e = apart (month_of day) (ap (two 5) e)

pub none_by_day : (bs : List ℕ) → ((n : ℕ) → fixed_digits 2 n ≡ two 8 bs → ⊥) → SpellsDay bs None
unfolding text_of_day
none_by_day bs apart day h e = apart (day_of_month day) (ap (two 8) e)

-- the bytes of a text that is so long
ten : (bs : List ℕ) → length bs ≡ 10 → four bs ++ get_or bs 4 0 ∷ (two 5 bs ++ get_or bs 7 0 ∷ two 8 bs) ≡ bs
ten bs l =
    let from : (i : ℕ) → i < 10 → get_or bs i 0 ∷ drop (suc i) bs ≡ drop i bs = λ i h. sym (drop-cons bs i 0 (omega arith)) in
    let end : [] ≡ drop 10 bs = sym (drop_all 10 bs (omega arith)) in
    let front : (x : ℕ) (xs ys : List ℕ) → xs ≡ ys → x ∷ xs ≡ x ∷ ys = λ x xs ys e. ap (λ zs. x ∷ zs) e in
    front _ _ _ (front _ _ _ (front _ _ _ (front _ _ _ (front _ _ _ (front _ _ _ (front _ _ _ (front _ _ _ (front _ _ _ (front _ _ _ end
    ∙ from 9 (omega arith)) ∙ from 8 (omega arith)) ∙ from 7 (omega arith)) ∙ from 6 (omega arith)) ∙ from 5 (omega arith))
    ∙ from 4 (omega arith)) ∙ from 3 (omega arith)) ∙ from 2 (omega arith)) ∙ from 1 (omega arith)) ∙ from 0 (omega arith)

pub reads : (bs : List ℕ) (y m d : ℕ) → length bs ≡ 10 → get_or bs 4 0 ≡ 45 → get_or bs 7 0 ≡ 45
    → fixed_digits 4 y ≡ four bs → fixed_digits 2 m ≡ two 5 bs → fixed_digits 2 d ≡ two 8 bs → date_text y m d ≡ bs
reads bs y m d l p q a b c = (λ i. a i ++ sym p i ∷ (b i ++ sym q i ∷ c i)) ∙ ten bs l

-- and one that has them spells the day of that date, where there is one
pub spells : (bs : List ℕ) (y m d : ℕ) → Short y m d → date_text y m d ≡ bs → SpellsDay bs (date_of y m d)
unfolding text_of_day
spells bs y m d short e = by (is_date y m d) refl
  where
    by : (b : Bool) → is_date y m d ≡ b → SpellsDay bs (if b then Some (ordinal_of y m d) else None)
    by true is =
        let t = dated y m d is in
        let p = date_has_parts y m d t in
        (is_ordinal_of y m d t, (λ i. date_text (p.year i) (p.month i) (p.day i)) ∙ e)
    by false is = λ day h f.
        let p = parts day h in
        let same = texts_tell (year_of day) (month_of day) (day_of_month day) y m d (dates_short _ _ _ p.date) short (f ∙ sym e) in
        let t : IsTrue (is_date y m d) = (λ i. is_date (sym same.year i) (sym same.month i) (sym same.day i)) ∙ is_date_of _ _ _ p.date in
        true≢false (sym t ∙ is)
