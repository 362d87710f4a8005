-- What stands at the front of a text has at least one byte, ends in the text, and splits no character.
use Rattle.std.proofs.Common.{◌≡◌, ℕ, zero, suc, ◌+◌, ◌-◌, ◌<◌, ◌≤◌, Bool, true, false, not, ◌&&◌, ◌||◌, cond, eqb, List, [], ◌∷◌, length, get_or, drop, length-drop, IsUtf8, refl, ap, sym, subst, ◌∙◌, arith}
use Rattle.std.proofs.lemmas.Bool.Decides.{nat_tests}
use Rattle.std.proofs.lemmas.List.{get_or-drop}
use Rattle.std.proofs.lemmas.List.Sums.{prefix_len_passes, prefix_len_stops, prefix_len-le-length}
use Rattle.std.proofs.lemmas.Str.{IsCharBoundary-end, IsCharBoundary-after_ascii}
use Rattle.std.specs.Prelude.{Option, Some, None, nat_lt}
use Rattle.std.specs.Char.{is_ascii_digit, is_ascii_alphabetic}
use Rattle.std.specs.List.{prefix_len}
use Rattle.std.specs.Option.{option_map}
use Rattle.std.specs.Str.{IsCharBoundary}
use Rattle.mq_lexer.specs.declared.sorts.Front.{Front}
use Rattle.mq_lexer.specs.Fronts.{Text}
use Rattle.mq_lexer.specs.Numbers.{digits_len, fraction_len, number}
use Rattle.mq_lexer.specs.Pieces.{is_word_byte, word_len, word, is_not_lf, line_comment, comment_end, comment_of, block_comment, sign_len, is_continuation, char_len, sign_of, sign_or_bad, front, is_blank}
use Rattle.mq_lexer.specs.Quotes.{closing, text_of, quoted}
use Rattle.mq_lexer.proofs.QuoteLemmas.{closing_ends, closing_bounds}

pub record Cut (z : Text) (n : ℕ) : Type 0 where
  pub some : 1 ≤ n
  pub within : n ≤ length z
  pub splits : IsUtf8 z → IsCharBoundary z n

-- it ends with an ASCII character
ascii_end : (z : Text) (n : ℕ) → 1 ≤ n → n ≤ length z → get_or z (n - 1) 0 < 128 → Cut z n
ascii_end z n some within ascii =
    let back : n - 1 + 1 ≡ n = omega arith in
    record { some = some; within = within; splits = λ u. subst (IsCharBoundary z) back (IsCharBoundary-after_ascii z (n - 1) u (omega arith) ascii) }

all_of : (z : Text) → 0 < length z → Cut z (length z)
all_of z some = record { some = omega arith; within = omega arith; splits = λ _. IsCharBoundary-end z }

-- the byte behind it begins a character
before : (z : Text) (n : ℕ) → 1 ≤ n → n ≤ length z → (n < length z → 128 ≤ get_or z n 0 → 192 ≤ get_or z n 0) → Cut z n
before z n some within starts = record { some = some; within = within; splits = λ _. (within, starts) }

-- a first element that passes
prefix_len_some : (p : ℕ → Bool) (z : List ℕ) → 0 < length z → p (get_or z 0 0) ≡ true → 1 ≤ prefix_len p z
prefix_len_some p [] some passes = absurd (omega arith)
prefix_len_some p (b ∷ z) some passes = rw passes (omega arith)

word_ascii : (b : ℕ) → is_word_byte b ≡ true → b < 128
word_ascii b is = grind (arith, nat_tests)

letter_word : (b : ℕ) → is_ascii_alphabetic b ≡ true → is_word_byte b ≡ true
letter_word b is = grind (arith, nat_tests)

digit_ascii : (b : ℕ) → is_ascii_digit b ≡ true → b < 128
digit_ascii b is = grind (arith, nat_tests)

pub word-cut : (z : Text) → 0 < length z → is_ascii_alphabetic (get_or z 0 0) ≡ true → Cut z (word z).len
unfolding word
word-cut z some letter =
    let first : 1 ≤ word_len z = prefix_len_some is_word_byte z some (letter_word (get_or z 0 0) letter) in
    ascii_end z (word_len z) first (prefix_len-le-length is_word_byte z) (word_ascii (get_or z (word_len z - 1) 0) (prefix_len_passes is_word_byte z (word_len z - 1) 0 (omega arith)))

-- the last of some digits
last_digit : (z : Text) (at : ℕ) → 1 ≤ digits_len z at → get_or z (at + digits_len z at - 1) 0 < 128
last_digit z at some =
    let n = digits_len z at in
    let is : at + (n - 1) ≡ at + n - 1 = omega arith in
    let here : get_or (drop at z) (n - 1) 0 ≡ get_or z (at + n - 1) 0 = get_or-drop at z (n - 1) 0 ∙ ap (λ i. get_or z i 0) is in
    subst (λ b. b < 128) here (digit_ascii (get_or (drop at z) (n - 1) 0) (prefix_len_passes is_ascii_digit (drop at z) (n - 1) 0 (omega arith)))

digits_within : (z : Text) (at : ℕ) → digits_len z at ≤ length z - at
digits_within z at = omega (arith, prefix_len-le-length is_ascii_digit (drop at z), length-drop at z)

-- digits, with a point and digits behind them or without
number_end : (z : Text) (whole : ℕ) (point none : Bool) → whole ≤ length z → none ≡ eqb (digits_len z (whole + 1)) 0
    → ((point && not none) ≡ false → (1 ≤ whole) × (get_or z (whole - 1) 0 < 128))
    → Cut z (whole + cond (point && not none) (digits_len z (whole + 1) + 1) 0)
number_end z whole point none within is alone =
    elim (point && not none) as (λ q. ((point && not none) ≡ q) → Cut z (whole + cond q (digits_len z (whole + 1) + 1) 0)) [
      | true ↦ λ e.
          let n = digits_len z (whole + 1) in
          let digits : 1 ≤ n = grind (arith, nat_tests) in
          let fits : n ≤ length z - (whole + 1) = digits_within z (whole + 1) in
          let at_end : whole + 1 + n - 1 ≡ whole + (n + 1) - 1 = omega arith in
          ascii_end z (whole + (n + 1)) (omega arith) (omega arith) (subst (λ i. get_or z i 0 < 128) at_end (last_digit z (whole + 1) digits))
      | false ↦ λ e.
          let here : whole ≡ whole + 0 = omega arith in
          subst (Cut z) here (ascii_end z whole (alone e).0 within (alone e).1)
    ] refl

second_within : (z : Text) → 0 < get_or z 1 0 → 2 ≤ length z
second_within [] h = absurd (omega arith)
second_within (b ∷ []) h = absurd (omega arith)
second_within (b ∷ c ∷ z) h = omega arith

begins_digit : (z : Text) → is_ascii_digit (get_or z 0 0) ≡ true → 0 < length z → 1 ≤ digits_len z 0
begins_digit z is some = prefix_len_some is_ascii_digit z some is

-- a number that begins with a point has digits behind it
begins_point : (z : Text) → 0 < length z → digits_len z 0 ≡ 0 → (is_ascii_digit (get_or z 0 0) || (eqb (get_or z 0 0) 46 && is_ascii_digit (get_or z 1 0))) ≡ true
    → (eqb (get_or z 0 0) 46 && not (eqb (digits_len z 1) 0)) ≡ true
begins_point z some none begins =
    let first : is_ascii_digit (get_or z 0 0) ≡ false = no_digit (is_ascii_digit (get_or z 0 0)) (λ e. begins_digit z e some) in
    let point : eqb (get_or z 0 0) 46 ≡ true = grind arith in
    let digit : is_ascii_digit (get_or z 1 0) ≡ true = grind arith in
    let value : 0 < get_or z 1 0 = grind (arith, nat_tests) in
    let more : 2 ≤ length z = second_within z value in
    let at : get_or (drop 1 z) 0 0 ≡ get_or z 1 0 = get_or-drop 1 z 0 0 in
    let digits : 1 ≤ digits_len z 1 = prefix_len_some is_ascii_digit (drop 1 z) (omega (arith, length-drop 1 z)) (rw at digit) in
    grind (arith, nat_tests)
  where
    no_digit : (q : Bool) → (q ≡ true → 1 ≤ digits_len z 0) → q ≡ false
    no_digit true h = absurd (omega (arith, h refl))
    no_digit false h = refl

-- a number with no digits behind a point
number_alone : (z : Text) (whole : ℕ) → 0 < length z → (is_ascii_digit (get_or z 0 0) || (eqb (get_or z 0 0) 46 && is_ascii_digit (get_or z 1 0))) ≡ true
    → whole ≡ digits_len z 0 → (eqb (get_or z whole 0) 46 && not (eqb (digits_len z (whole + 1)) 0)) ≡ false → (1 ≤ whole) × (get_or z (whole - 1) 0 < 128)
number_alone z zero some begins is ends = let point = begins_point z some (sym is) begins in absurd (cc)
number_alone z (suc n) some begins is ends =
    let at_end : 0 + digits_len z 0 - 1 ≡ suc n - 1 = omega arith in
    (omega arith, subst (λ i. get_or z i 0 < 128) at_end (last_digit z 0 (omega arith)))

pub number-cut : (z : Text) → 0 < length z → (is_ascii_digit (get_or z 0 0) || (eqb (get_or z 0 0) 46 && is_ascii_digit (get_or z 1 0))) ≡ true → Cut z (number z).len
unfolding number fraction_len
number-cut z some begins =
    let whole = digits_len z 0 in
    let within : whole ≤ length z = prefix_len-le-length is_ascii_digit z in
    number_end z whole (eqb (get_or z whole 0) 46) (eqb (digits_len z (whole + 1)) 0) within refl (number_alone z whole some begins refl)

quoted-cut : (z : Text) → get_or z 0 0 ≡ 39 → 0 < length z → Cut z (quoted z).len
unfolding quoted
quoted-cut [] quote some = absurd (omega arith)
quoted-cut (b ∷ z) quote some =
    elim (closing false z) as (λ o. (closing false z ≡ o) → Cut (b ∷ z) (text_of (b ∷ z) o).len) [
      | None ↦ λ e. all_of (b ∷ z) some
      | Some n ↦ λ e.
          let bounds = closing_bounds z n e in
          let quote_at : get_or (b ∷ z) n 0 ≡ 39 = closing_ends b z n e in
          let at_end : n ≡ n + 1 - 1 = omega arith in
          ascii_end (b ∷ z) (n + 1) (omega arith) (omega (arith, bounds.1)) (subst (λ i. get_or (b ∷ z) i 0 < 128) at_end (omega arith))
    ] refl

line_comment-cut : (z : Text) → get_or z 0 0 ≡ 45 → 0 < length z → Cut z (line_comment z).len
unfolding line_comment
line_comment-cut z dash some =
    let n = prefix_len is_not_lf z in
    let first : 1 ≤ n = prefix_len_some is_not_lf z some (rw dash refl) in
    before z n first (prefix_len-le-length is_not_lf z) (λ more high.
    let stops : is_not_lf (get_or z n 0) ≡ false = prefix_len_stops is_not_lf z 0 more in
    grind (arith, nat_tests))

-- what closes a comment ends with a slash, in the text
abbrev EndsComment : Text → Option ℕ → Type 0
EndsComment z None = Unit {0}
EndsComment z (Some n) = (2 ≤ n) × (n ≤ length z) × (get_or z (n - 1) 0 ≡ 47)

ends_comment-suc : (b : ℕ) (z : Text) (o : Option ℕ) → EndsComment z o → EndsComment (b ∷ z) (option_map suc o)
ends_comment-suc b z None h = tt
ends_comment-suc b z (Some n) h =
    let at : suc (n - 1) ≡ suc n - 1 = omega (arith, h.0) in
    (omega (arith, h.0), omega (arith, h.1), subst (λ i. get_or (b ∷ z) i 0 ≡ 47) at h.2)

slash_within : (z : Text) → get_or z 0 0 ≡ 47 → 1 ≤ length z
slash_within [] e = absurd (omega arith)
slash_within (b ∷ z) e = omega arith

ends_comment : (z : Text) → EndsComment z (comment_end z)
ends_comment [] = tt
ends_comment (b ∷ z) =
    elim (eqb b 42 && eqb (get_or z 0 0) 47) as (λ q. ((eqb b 42 && eqb (get_or z 0 0) 47) ≡ q) → EndsComment (b ∷ z) (cond q (Some 2) (option_map suc (comment_end z)))) [
      | true ↦ λ e.
          let slash : get_or z 0 0 ≡ 47 = grind (arith, nat_tests) in
          let more : 1 ≤ length z = slash_within z slash in
          (omega arith, omega arith, slash)
      | false ↦ λ e. ends_comment-suc b z (comment_end z) (ends_comment z)
    ] refl

block_comment-cut : (z : Text) → get_or z 1 0 ≡ 42 → 0 < length z → Cut z (block_comment z).len
unfolding block_comment
block_comment-cut z star some =
    elim (comment_end (drop 2 z)) as (λ o. EndsComment (drop 2 z) o → Cut z (comment_of z o).len) [
      | None ↦ λ e. all_of z some
      | Some n ↦ λ e.
          let at_end : 2 + (n - 1) ≡ n + 2 - 1 = omega (arith, e.0) in
          let slash : get_or z (2 + (n - 1)) 0 ≡ 47 = sym (get_or-drop 2 z (n - 1) 0) ∙ e.2 in
          ascii_end z (n + 2) (omega arith) (omega (arith, e.0, e.1, length-drop 2 z)) (subst (λ i. get_or z i 0 < 128) at_end (omega arith))
    ] (ends_comment (drop 2 z))

-- a sign is of ASCII characters, all of them there
record Signs (b next n : ℕ) : Type 0 where
  pub short : n ≤ 2
  pub one : n ≡ 1 → b < 128
  pub two : n ≡ 2 → (next < 128) × (0 < next)

signs : (b next : ℕ) → Signs b next (sign_len b next)
unfolding sign_len
signs b next = record { short = grind (arith, nat_tests); one = λ e. grind (arith, nat_tests); two = λ e. (grind (arith, nat_tests), grind (arith, nat_tests)) }

char-cut : (z : Text) → 0 < length z → Cut z (char_len z)
unfolding char_len
char-cut z some =
    let n = prefix_len is_continuation (drop 1 z) in
    elim (nat_lt (get_or z 0 0) 128) as (λ q. (nat_lt (get_or z 0 0) 128 ≡ q) → Cut z (cond q 1 (1 + n))) [
      | true ↦ λ e. ascii_end z 1 (omega arith) (omega arith) (grind (arith, nat_tests))
      | false ↦ λ e.
          let fits : 1 + n ≤ length z = omega (arith, prefix_len-le-length is_continuation (drop 1 z), length-drop 1 z) in
          before z (1 + n) (omega arith) fits (λ more high.
          let next : get_or (drop 1 z) n 0 ≡ get_or z (1 + n) 0 = get_or-drop 1 z n 0 in
          let stops : is_continuation (get_or (drop 1 z) n 0) ≡ false = prefix_len_stops is_continuation (drop 1 z) 0 (omega (arith, length-drop 1 z)) in
          grind (arith, nat_tests))
    ] refl

sign-cut : (z : Text) (n : ℕ) → 0 < length z → Signs (get_or z 0 0) (get_or z 1 0) (suc n) → Cut z (suc n)
sign-cut z zero some e = ascii_end z 1 (omega arith) (omega arith) (e.one refl)
sign-cut z (suc zero) some e = ascii_end z 2 (omega arith) (second_within z (e.two refl).1) (e.two refl).0
sign-cut z (suc (suc n)) some e = absurd (omega (arith, e.short))

pub sign-within : (z : Text) (n : ℕ) → sign_len (get_or z 0 0) (get_or z 1 0) ≡ suc n → 0 < length z → suc n ≤ length z
sign-within z n e some = (sign-cut z n some (subst (Signs (get_or z 0 0) (get_or z 1 0)) e (signs (get_or z 0 0) (get_or z 1 0)))).within

sign_or_bad-cut : (z : Text) → 0 < length z → Cut z (sign_or_bad z).len
unfolding sign_or_bad
sign_or_bad-cut z some =
    elim (sign_len (get_or z 0 0) (get_or z 1 0)) as (λ n. Signs (get_or z 0 0) (get_or z 1 0) n → Cut z (sign_of n z).len) [
      | zero ↦ λ e. char-cut z some
      | suc n ↦ λ e. sign-cut z n some e
    ] (signs (get_or z 0 0) (get_or z 1 0))

-- one of two
cut-if : (z : Text) (q : Bool) (x y : Front) → (q ≡ true → Cut z x.len) → (q ≡ false → Cut z y.len) → Cut z (cond q x y).len
cut-if z true x y h k = h refl
cut-if z false x y h k = k refl

pub and-left : (p q : Bool) → (p && q) ≡ true → p ≡ true
and-left true q e = refl
and-left false q e = absurd (cc)

pub and-right : (p q : Bool) → (p && q) ≡ true → q ≡ true
and-right true q e = e
and-right false q e = absurd (cc)

eqb-eq : (a b : ℕ) → eqb a b ≡ true → a ≡ b
eqb-eq a b e = grind (arith, nat_tests)

blank_ascii : (b : ℕ) → is_blank b ≡ true → b < 128
blank_ascii b is = grind (arith, nat_tests)

pub front-cut : (z : Text) → 0 < length z → Cut z (front z).len
unfolding front
front-cut z some =
    let b = get_or z 0 0 in
    let next = get_or z 1 0 in
    cut-if z (is_blank b) _ _ (λ e. ascii_end z 1 (omega arith) (omega arith) (blank_ascii b e))
    (λ _. cut-if z (is_ascii_alphabetic b) _ _ (λ e. word-cut z some e)
    (λ _. cut-if z (is_ascii_digit b || (eqb b 46 && is_ascii_digit next)) _ _ (λ e. number-cut z some e)
    (λ _. cut-if z (eqb b 39) _ _ (λ e. quoted-cut z (eqb-eq b 39 e) some)
    (λ _. cut-if z (eqb b 45 && eqb next 45) _ _ (λ e. line_comment-cut z (eqb-eq b 45 (and-left (eqb b 45) (eqb next 45) e)) some)
    (λ _. cut-if z (eqb b 47 && eqb next 42) _ _ (λ e. block_comment-cut z (eqb-eq next 42 (and-right (eqb b 47) (eqb next 42) e)) some)
    (λ _. sign_or_bad-cut z some))))))
