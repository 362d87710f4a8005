-- The token at the front is the longest that is spelled there.
use Rattle.std.proofs.Common.{◌≡◌, true≢false, ℕ, zero, suc, ◌+◌, ◌-◌, ◌<◌, ◌≤◌, Bool, true, false, not, ◌&&◌, ◌||◌, cond, eqb, [], ◌∷◌, ◌++◌, length, get_or, take, drop, refl, ap, sym, subst, ◌∙◌, ◌⊎◌, inl, inr, arith, append_assoc, length-append, length-take-le, take-append-drop}
use Rattle.std.proofs.lemmas.Bool.Decides.{nat_tests, Decides-eqb}
use Rattle.std.proofs.lemmas.List.Sums.{prefix_len-le-length}
use Rattle.std.specs.Prelude.{Option, Some, None, nat_le}
use Rattle.std.specs.Char.{is_ascii_digit, is_ascii_alphabetic}
use Rattle.std.specs.List.{prefix_len, list_all, list_any}
use Rattle.std.specs.Option.{option_map, option_or}
use Rattle.std.specs.Str.{bytes_eq}
use Rattle.mq_lexer.specs.declared.sorts.Sort.{Sort}
use Rattle.mq_lexer.specs.declared.sorts.Sort.TheVariants as sort
use Rattle.mq_lexer.specs.declared.sorts.Front.{Front}
use Rattle.mq_lexer.specs.Fronts.{Text}
use Rattle.mq_lexer.specs.Numbers.{digits_len, fraction_len, is_small, number}
use Rattle.mq_lexer.specs.Pieces.{is_word_byte, word_len, word, sign_len, sign_of, sign_or_bad, front, is_blank}
use Rattle.mq_lexer.specs.Quotes.{closing, content, is_content, is_plain, text_of, quoted}
use Rattle.mq_lexer.specs.SignLemmas.{listed}
use Rattle.mq_lexer.specs.Spelling.{SpellsWord, SpellsFraction, doubled, SpellsText, signs, Spells, NoneLonger, IsTokenOf, begins_gap}
use Rattle.mq_lexer.proofs.QuoteLemmas.{closing_bounds}
use Rattle.mq_lexer.proofs.CutLemmas.{word-cut, number-cut, sign-within}

-- ---- fronts of lists

-- the longest front that passes passes
pub prefix-passes : (p : ℕ → Bool) (z : Text) → list_all p (take (prefix_len p z) z) ≡ true
prefix-passes p [] = refl
prefix-passes p (b ∷ z) =
    elim (p b) as (λ q. (p b ≡ q) → list_all p (take (cond q (1 + prefix_len p z) 0) (b ∷ z)) ≡ true) [
      | true ↦ λ e. let one : 1 + prefix_len p z ≡ suc (prefix_len p z) = omega arith in rw (one, e) (prefix-passes p z)
      | false ↦ λ e. refl
    ] refl

-- and is the longest
passes-prefix : (p : ℕ → Bool) (z : Text) (m : ℕ) → m ≤ length z → list_all p (take m z) ≡ true → m ≤ prefix_len p z
passes-prefix p z zero within all = omega arith
passes-prefix p [] (suc m) within all = absurd (omega arith)
passes-prefix p (b ∷ z) (suc m) within all =
    elim (p b) as (λ q. (q && list_all p (take m z)) ≡ true → suc m ≤ cond q (1 + prefix_len p z) 0) [
      | true ↦ λ e. omega (arith, passes-prefix p z m (omega arith) e)
      | false ↦ λ e. absurd (cc)
    ] all

prefix-append : (p : ℕ → Bool) (xs : Text) (b : ℕ) (ys : Text) → list_all p xs ≡ true → p b ≡ false → prefix_len p (xs ++ b ∷ ys) ≡ length xs
prefix-append p [] b ys all no_more = rw no_more refl
prefix-append p (x ∷ xs) b ys all no_more =
    elim (p x) as (λ q. (q && list_all p xs) ≡ true → cond q (1 + prefix_len p (xs ++ b ∷ ys)) 0 ≡ suc (length xs)) [
      | true ↦ λ e. omega (arith, prefix-append p xs b ys e no_more)
      | false ↦ λ e. absurd (cc)
    ] all

prefix-longer : (p : ℕ → Bool) (xs ys : Text) → list_all p xs ≡ true → length xs ≤ prefix_len p (xs ++ ys)
prefix-longer p [] ys all = omega arith
prefix-longer p (x ∷ xs) ys all =
    elim (p x) as (λ q. (q && list_all p xs) ≡ true → suc (length xs) ≤ cond q (1 + prefix_len p (xs ++ ys)) 0) [
      | true ↦ λ e. omega (arith, prefix-longer p xs ys e)
      | false ↦ λ e. absurd (cc)
    ] all

drop-append_whole : (xs ys : Text) (b : ℕ) → drop (length xs + 1) (xs ++ b ∷ ys) ≡ ys
drop-append_whole [] ys b = refl
drop-append_whole (x ∷ xs) ys b = let e : suc (length xs) + 1 ≡ suc (length xs + 1) = omega arith in rw e (drop-append_whole xs ys b)

get-append_whole : (xs ys : Text) (b : ℕ) → get_or (xs ++ b ∷ ys) (length xs) 0 ≡ b
get-append_whole [] ys b = refl
get-append_whole (x ∷ xs) ys b = get-append_whole xs ys b

-- the first byte of a front
head-take : (z : Text) (m : ℕ) → 1 ≤ m → get_or (take m z) 0 0 ≡ get_or z 0 0
head-take z zero some = absurd (omega arith)
head-take [] (suc m) some = refl
head-take (b ∷ z) (suc m) some = refl

-- ---- signs

sign_byte : ℕ → Bool
sign_byte b =
    eqb b 40 || eqb b 41 || eqb b 91 || eqb b 93 || eqb b 44 || eqb b 59 || eqb b 46 || eqb b 61 || eqb b 60 || eqb b 62 || eqb b 43 || eqb b 45 || eqb b 42 || eqb b 47

-- a sign of one byte, or of two
good : Text → Bool
good t = (eqb (length t) 1 && sign_byte (get_or t 0 0)) || (eqb (length t) 2 && eqb (sign_len (get_or t 0 0) (get_or t 1 0)) 2)

all_good : list_all good signs ≡ true
unfolding good sign_len sign_byte
all_good = refl

sign_byte-len : (b next : ℕ) → sign_byte b ≡ true → 1 ≤ sign_len b next
unfolding sign_byte sign_len
sign_byte-len b next is = grind (arith, nat_tests)

one_spells : (b next : ℕ) → sign_len b next ≡ 1 → list_any (bytes_eq (b ∷ [])) signs ≡ true
unfolding sign_len
one_spells b next is = grind (arith, nat_tests)

two_spells : (b next : ℕ) → sign_len b next ≡ 2 → list_any (bytes_eq (b ∷ next ∷ [])) signs ≡ true
unfolding sign_len
two_spells b next is = grind (arith, nat_tests)

sign-short : (b next : ℕ) → sign_len b next ≤ 2
unfolding sign_len
sign-short b next = grind (arith, nat_tests)

sign-spells : (z : Text) (n : ℕ) → sign_len (get_or z 0 0) (get_or z 1 0) ≡ suc n → suc n ≤ length z → list_any (bytes_eq (take (suc n) z)) signs ≡ true
sign-spells [] n is within = absurd (omega arith)
sign-spells (b ∷ z) zero is within = one_spells b (get_or z 0 0) is
sign-spells (b ∷ []) (suc n) is within = absurd (omega arith)
sign-spells (b ∷ c ∷ z) (suc zero) is within = two_spells b c is
sign-spells (b ∷ c ∷ z) (suc (suc n)) is within = absurd (omega (arith, sign-short b c))

good_one : (b : ℕ) → good (b ∷ []) ≡ true → sign_byte b ≡ true
unfolding good
good_one b is = grind arith

good_two : (b c : ℕ) → good (b ∷ c ∷ []) ≡ true → sign_len b c ≡ 2
unfolding good
good_two b c is = grind (arith, nat_tests)

good_more : (b c d : ℕ) (t : Text) → good (b ∷ c ∷ d ∷ t) ≡ true → ⊥
unfolding good
good_more b c d t is = grind (arith, nat_tests)

good_none : good [] ≡ true → ⊥
unfolding good
good_none is = absurd (cc)

sign-longest : (z : Text) (m : ℕ) → m ≤ length z → list_any (bytes_eq (take m z)) signs ≡ true → (1 ≤ m) × (m ≤ sign_len (get_or z 0 0) (get_or z 1 0))
sign-longest z m within spelled = by_length z m within (listed good (take m z) signs spelled all_good)
  where
    by_length : (z : Text) (m : ℕ) → m ≤ length z → good (take m z) ≡ true → (1 ≤ m) × (m ≤ sign_len (get_or z 0 0) (get_or z 1 0))
    by_length z zero within is = absurd (good_none is)
    by_length [] (suc m) within is = absurd (omega arith)
    by_length (b ∷ z) (suc zero) within is = (omega arith, sign_byte-len b (get_or z 0 0) (good_one b is))
    by_length (b ∷ []) (suc (suc m)) within is = absurd (omega arith)
    by_length (b ∷ c ∷ z) (suc (suc zero)) within is = (omega arith, omega (arith, good_two b c is))
    by_length (b ∷ c ∷ []) (suc (suc (suc m))) within is = absurd (omega arith)
    by_length (b ∷ c ∷ d ∷ z) (suc (suc (suc m))) within is = absurd (good_more b c d (take m z) is)

-- ---- texts

content-doubled : (c : Text) → content false (doubled c) ≡ c
content-doubled [] = refl
content-doubled (b ∷ c) =
    elim (eqb b 39) as (λ q. (eqb b 39 ≡ q) → content false (cond q (39 ∷ 39 ∷ doubled c) (b ∷ doubled c)) ≡ b ∷ c) [
      | true ↦ λ e. let is : 39 ≡ b = sym ((Decides-eqb b 39).0 e) in ap (λ x. 39 ∷ x) (content-doubled c) ∙ ap (λ x. x ∷ c) is
      | false ↦ λ e. rw e (ap (λ x. b ∷ x) (content-doubled c))
    ] refl

-- behind a quote something closes, if only that quote
behind : (z : Text) → (k : ℕ) × (closing true z ≡ Some k)
behind [] = (0, refl)
behind (b ∷ z) =
    elim (eqb b 39) as (λ q. (k : ℕ) × (cond q (option_or (option_map suc (closing false z)) (Some 0)) (Some 0) ≡ Some k))
    [ true ↦ some_or (closing false z) | false ↦ (0, refl) ]
  where
    some_or : (o : Option ℕ) → (k : ℕ) × (option_or (option_map suc o) (Some 0) ≡ Some k)
    some_or None = (0, refl)
    some_or (Some n) = (suc n, refl)

-- what is spelled is closed, there or later
closes : (c rest : Text) → (k : ℕ) × (closing false (doubled c ++ 39 ∷ rest) ≡ Some k) × (length (doubled c) + 1 ≤ k)
closes [] rest = let b = behind rest in (suc b.0, ap (option_map suc) b.1, omega arith)
closes (b ∷ c) rest =
    let h = closes c rest in
    elim (eqb b 39) as (λ q. (eqb b 39 ≡ q) → (k : ℕ) × (closing false (cond q (39 ∷ 39 ∷ doubled c) (b ∷ doubled c) ++ 39 ∷ rest) ≡ Some k) × (length (cond q (39 ∷ 39 ∷ doubled c) (b ∷ doubled c)) + 1 ≤ k)) [
      | true ↦ λ e. (suc (suc h.0), ap (λ o. option_map suc (option_or (option_map suc o) (Some 0))) h.1, omega (arith, h.2))
      | false ↦ λ e. (suc h.0, rw e (ap (option_map suc) h.1), omega (arith, h.2))
    ] refl

-- what is closed is spelled
abbrev Closed : Text → ℕ → Type 0
Closed z n = (c : Text) × (take n z ≡ doubled c ++ 39 ∷ [])

closed-one : (b : ℕ) (z : Text) (n : ℕ) → b ≡ 39 → Some 1 ≡ Some n → Closed (b ∷ z) n
closed-one b z n quote some = let one : 1 ≡ n = cc in ([], rw (← one, quote) refl)

closed-quote : (b d : ℕ) (z : Text) (n : ℕ) → b ≡ 39 → ((m : ℕ) → closing false z ≡ Some m → Closed z m) → option_map suc (closing true (d ∷ z)) ≡ Some n → Closed (b ∷ d ∷ z) n
closed-quote b d z n quote shorter some =
    elim (eqb d 39) as (λ q. (eqb d 39 ≡ q) → option_map suc (cond q (option_or (option_map suc (closing false z)) (Some 0)) (Some 0)) ≡ Some n → Closed (b ∷ d ∷ z) n) [
      | true ↦ λ is some. twice ((Decides-eqb d 39).0 is) (closing false z) refl some
      | false ↦ λ is some. closed-one b (d ∷ z) n quote some
    ] refl some
  where
    twice : d ≡ 39 → (o : Option ℕ) → closing false z ≡ o → option_map suc (option_or (option_map suc o) (Some 0)) ≡ Some n → Closed (b ∷ d ∷ z) n
    twice second None o-is some = closed-one b (d ∷ z) n quote some
    twice second (Some k) o-is some =
        let h = shorter k o-is in
        let two : suc (suc k) ≡ n = cc in
        (39 ∷ h.0, rw (← two, quote, second) (ap (λ t. 39 ∷ 39 ∷ t) h.1))

closed-other : (b d : ℕ) (z : Text) (n : ℕ) → eqb b 39 ≡ false → ((m : ℕ) → closing false (d ∷ z) ≡ Some m → Closed (d ∷ z) m) → (o : Option ℕ) → closing false (d ∷ z) ≡ o → option_map suc o ≡ Some n → Closed (b ∷ d ∷ z) n
closed-other b d z n is shorter None o-is some = absurd (cc)
closed-other b d z n is shorter (Some m) o-is some =
    let h = shorter m o-is in
    let more : suc m ≡ n = cc in
    (b ∷ h.0, rw (← more, is) (ap (λ t. b ∷ t) h.1))

closed : (z : Text) (n : ℕ) → closing false z ≡ Some n → Closed z n
closed [] n e = absurd (cc)
closed (b ∷ []) n e =
    elim (eqb b 39) as (λ q. (eqb b 39 ≡ q) → option_map suc (closing q []) ≡ Some n → Closed (b ∷ []) n) [
      | true ↦ λ is some. closed-one b [] n ((Decides-eqb b 39).0 is) some
      | false ↦ λ is some. absurd (cc)
    ] refl e
closed (b ∷ d ∷ z) n e =
    elim (eqb b 39) as (λ q. (eqb b 39 ≡ q) → option_map suc (closing q (d ∷ z)) ≡ Some n → Closed (b ∷ d ∷ z) n) [
      | true ↦ λ is some. closed-quote b d z n ((Decides-eqb b 39).0 is) (closed z) some
      | false ↦ λ is some. closed-other b d z n is (closed (d ∷ z)) (closing false (d ∷ z)) refl some
    ] refl e

-- what stands between the quotes is the content, with its quotes doubled
content-closed : (z c : Text) (n : ℕ) → n ≤ length z → take n z ≡ doubled c ++ 39 ∷ [] → content false (take (n - 1) z) ≡ c
content-closed z c n within is =
    let size : n ≡ length (doubled c) + 1 = sym (length-take-le n z within) ∙ ap length is ∙ length-append (doubled c) (39 ∷ []) in
    let less : n - 1 ≡ length (doubled c) = omega arith in
    let inner : take (n - 1) z ≡ doubled c =
    ap (λ k. take k z) less ∙ sym (shorter (length (doubled c)) n z (omega arith)) ∙ ap (take (length (doubled c))) is ∙ whole (doubled c) (39 ∷ []) in
    ap (content false) inner ∙ content-doubled c
  where
    shorter : (k n : ℕ) (z : Text) → k ≤ n → take k (take n z) ≡ take k z
    shorter zero n z le = refl
    shorter (suc k) zero z le = absurd (omega arith)
    shorter (suc k) (suc n) [] le = refl
    shorter (suc k) (suc n) (b ∷ z) le = ap (λ t. b ∷ t) (shorter k n z (omega arith))

    whole : (xs ys : Text) → take (length xs) (xs ++ ys) ≡ xs
    whole [] ys = refl
    whole (x ∷ xs) ys = ap (λ t. x ∷ t) (whole xs ys)

-- ---- what a token begins with

abbrev begins_number : ℕ → ℕ → Bool
begins_number b next = is_ascii_digit b || (eqb b 46 && is_ascii_digit next)

abbrev Head : Sort → ℕ → ℕ → Type 0
Head sort.Word b next = is_ascii_alphabetic b ≡ true
Head sort.Number b next = begins_number b next ≡ true
Head sort.Text b next = b ≡ 39
Head sort.Sign b next = 1 ≤ sign_len b next
Head sort.Bad b next = ⊥

all-head : (p : ℕ → Bool) (t : Text) → 0 < length t → list_all p t ≡ true → p (get_or t 0 0) ≡ true
all-head p [] some all = absurd (omega arith)
all-head p (b ∷ t) some all = elim (p b) as (λ q. (q && list_all p t) ≡ true → q ≡ true) [ true ↦ λ _. refl | false ↦ λ e. absurd (cc) ] all

-- the second byte of a front
next-take : (z : Text) (m : ℕ) → 2 ≤ m → get_or (take m z) 1 0 ≡ get_or z 1 0
next-take z zero some = absurd (omega arith)
next-take z (suc zero) some = absurd (omega arith)
next-take [] (suc (suc m)) some = refl
next-take (b ∷ []) (suc (suc m)) some = refl
next-take (b ∷ c ∷ z) (suc (suc m)) some = refl

fraction-head : (t whole fraction : Text) → t ≡ whole ++ 46 ∷ fraction → 0 < length fraction → list_all is_ascii_digit whole ≡ true → list_all is_ascii_digit fraction ≡ true
    → (is_ascii_digit (get_or t 0 0) ≡ true) ⊎ ((get_or t 0 0 ≡ 46) × (is_ascii_digit (get_or t 1 0) ≡ true) × (2 ≤ length t))
fraction-head t [] [] is some whole_digits digits = absurd (omega arith)
fraction-head t [] (b ∷ fraction) is some whole_digits digits =
    inr (ap (λ l. get_or l 0 0) is, ap (λ l. is_ascii_digit (get_or l 1 0)) is ∙ all-head is_ascii_digit (b ∷ fraction) some digits, omega (arith, ap length is))
fraction-head t (b ∷ whole) fraction is some whole_digits digits =
    inl (ap (λ l. is_ascii_digit (get_or l 0 0)) is ∙ all-head is_ascii_digit (b ∷ whole) (omega arith) whole_digits)

head : (k : Sort) (z : Text) (m : ℕ) (fits : Bool) → 1 ≤ m → m ≤ length z → Spells k (take m z) fits → Head k (get_or z 0 0) (get_or z 1 0)
head sort.Word z m fits some within s = ap is_ascii_alphabetic (sym (head-take z m some)) ∙ s.letter
head sort.Number z m fits some within (inl s) =
    let first : is_ascii_digit (get_or z 0 0) ≡ true = ap is_ascii_digit (sym (head-take z m some)) ∙ all-head is_ascii_digit (take m z) s.some s.digits in
    ap (λ q. q || (eqb (get_or z 0 0) 46 && is_ascii_digit (get_or z 1 0))) first
head sort.Number z m fits some within (inr s) =
    elim (fraction-head (take m z) s.whole s.fraction s.is s.some s.whole_digits s.fraction_digits) [
      | inl digit ↦ ap (λ q. q || (eqb (get_or z 0 0) 46 && is_ascii_digit (get_or z 1 0))) (ap is_ascii_digit (sym (head-take z m some)) ∙ digit)
      | inr point ↦
          let first : get_or z 0 0 ≡ 46 = sym (head-take z m some) ∙ point.0 in
          let more : 2 ≤ m = omega (arith, point.2, length-take-le m z within) in
          let second : is_ascii_digit (get_or z 1 0) ≡ true = ap is_ascii_digit (sym (next-take z m more)) ∙ point.1 in
          rw (first, second) refl
    ]
head sort.Text z m fits some within s = sym (head-take z m some) ∙ ap (λ t. get_or t 0 0) s.is
head sort.Sign z m fits some within s = let longest = sign-longest z m within s.0 in omega (arith, longest.0, longest.1)
head sort.Bad z m fits some within s = absurd s

-- these are different bytes
letter-number : (b next : ℕ) → is_ascii_alphabetic b ≡ true → begins_number b next ≡ true → ⊥
letter-number b next h k = grind (arith, nat_tests)

letter-quote : (b : ℕ) → is_ascii_alphabetic b ≡ true → b ≡ 39 → ⊥
letter-quote b h k = grind (arith, nat_tests)

letter-sign : (b next : ℕ) → is_ascii_alphabetic b ≡ true → 1 ≤ sign_len b next → ⊥
unfolding sign_len
letter-sign b next h k = grind (arith, nat_tests)

number-quote : (b next : ℕ) → begins_number b next ≡ true → b ≡ 39 → ⊥
number-quote b next h k = grind (arith, nat_tests)

number-sign : (b next : ℕ) → begins_number b next ≡ true → sign_len b next ≤ 1
unfolding sign_len
number-sign b next h = grind (arith, nat_tests)

quote-sign : (b next : ℕ) → b ≡ 39 → 1 ≤ sign_len b next → ⊥
unfolding sign_len
quote-sign b next h k = grind (arith, nat_tests)

-- ---- the fronts of each class are the longest

word-longest : (z : Text) → is_ascii_alphabetic (get_or z 0 0) ≡ true → NoneLonger z (word_len z)
word-longest z letter sort.Word m fits more within s = let at_most : m ≤ word_len z = passes-prefix is_word_byte z m within s.bytes in omega arith
word-longest z letter sort.Number m fits more within s = letter-number (get_or z 0 0) (get_or z 1 0) letter (head sort.Number z m fits (omega arith) within s)
word-longest z letter sort.Text m fits more within s = letter-quote (get_or z 0 0) letter (head sort.Text z m fits (omega arith) within s)
word-longest z letter sort.Sign m fits more within s = letter-sign (get_or z 0 0) (get_or z 1 0) letter (head sort.Sign z m fits (omega arith) within s)
word-longest z letter sort.Bad m fits more within s = absurd s

-- what a front says of the text behind it
front-of : (z : Text) (m : ℕ) (t : Text) → take m z ≡ t → z ≡ t ++ drop m z
front-of z m t is = sym (take-append-drop m z) ∙ ap (λ l. l ++ drop m z) is

fraction_longest : (z : Text) (m : ℕ) (fits : Bool) → m ≤ length z → SpellsFraction (take m z) fits → m ≤ (number z).len
unfolding number fraction_len
fraction_longest z m fits within s =
    let rest = drop m z in
    let whole = s.whole in
    let split : z ≡ whole ++ 46 ∷ (s.fraction ++ rest) = front-of z m (whole ++ 46 ∷ s.fraction) s.is ∙ append_assoc whole (46 ∷ s.fraction) rest in
    let n = digits_len z 0 in
    let first : n ≡ length whole = ap (prefix_len is_ascii_digit) split ∙ prefix-append is_ascii_digit whole 46 (s.fraction ++ rest) s.whole_digits refl in
    let point : get_or z n 0 ≡ 46 = ap (λ i. get_or z i 0) first ∙ ap (λ l. get_or l (length whole) 0) split ∙ get-append_whole whole (s.fraction ++ rest) 46 in
    let behind_point : drop (n + 1) z ≡ s.fraction ++ rest = ap (λ i. drop (i + 1) z) first ∙ ap (drop (length whole + 1)) split ∙ drop-append_whole whole (s.fraction ++ rest) 46 in
    let more : length s.fraction ≤ digits_len z (n + 1) = subst (λ l. length s.fraction ≤ prefix_len is_ascii_digit l) (sym behind_point) (prefix-longer is_ascii_digit s.fraction rest s.fraction_digits) in
    let size : m ≡ length whole + (1 + length s.fraction) = sym (length-take-le m z within) ∙ ap length s.is ∙ length-append whole (46 ∷ s.fraction) ∙ (let e : suc (length s.fraction) ≡ 1 + length s.fraction = omega arith in ap (λ i. length whole + i) e) in
    let there : (eqb (get_or z n 0) 46 && not (eqb (digits_len z (n + 1)) 0)) ≡ true = some_digits (get_or z n 0) (digits_len z (n + 1)) point (omega (arith, s.some)) in
    rw there (omega arith)
  where
    some_digits : (b d : ℕ) → b ≡ 46 → 1 ≤ d → (eqb b 46 && not (eqb d 0)) ≡ true
    some_digits b d is some = grind (arith, nat_tests)

number-len : (z : Text) → digits_len z 0 ≤ (number z).len
unfolding number fraction_len
number-len z = omega arith

number-longest : (z : Text) → begins_number (get_or z 0 0) (get_or z 1 0) ≡ true → 1 ≤ (number z).len → NoneLonger z (number z).len
number-longest z begins some sort.Word m fits more within s = letter-number (get_or z 0 0) (get_or z 1 0) (head sort.Word z m fits (omega arith) within s) begins
number-longest z begins some sort.Number m fits more within (inl s) =
    let at_most : m ≤ digits_len z 0 = passes-prefix is_ascii_digit z m within s.digits in omega (arith, number-len z)
number-longest z begins some sort.Number m fits more within (inr s) = omega (arith, fraction_longest z m fits within s)
number-longest z begins some sort.Text m fits more within s = number-quote (get_or z 0 0) (get_or z 1 0) begins (head sort.Text z m fits (omega arith) within s)
number-longest z begins some sort.Sign m fits more within s =
    let longest = sign-longest z m within s.0 in omega (arith, longest.1, number-sign (get_or z 0 0) (get_or z 1 0) begins)
number-longest z begins some sort.Bad m fits more within s = absurd s

-- a text that is spelled at the front is closed, there or later
text-closes : (b : ℕ) (z : Text) (m : ℕ) (fits : Bool) → m ≤ length (b ∷ z) → SpellsText (take m (b ∷ z)) fits → (k : ℕ) × (closing false z ≡ Some k) × (m ≤ k + 1)
text-closes b z zero fits within s = absurd (cc (s.is))
text-closes b z (suc m) fits within s =
    let inner : take m z ≡ doubled s.content ++ 39 ∷ [] = ap (drop 1) s.is in
    let split : z ≡ doubled s.content ++ 39 ∷ drop m z = front-of z m (doubled s.content ++ 39 ∷ []) inner ∙ append_assoc (doubled s.content) (39 ∷ []) (drop m z) in
    let h = closes s.content (drop m z) in
    let size : m ≡ length (doubled s.content) + 1 = sym (length-take-le m z (omega arith)) ∙ ap length inner ∙ length-append (doubled s.content) (39 ∷ []) in
    (h.0, ap (closing false) split ∙ h.1, omega (arith, h.2))

quoted-longest : (b : ℕ) (z : Text) (n : ℕ) → b ≡ 39 → closing false z ≡ Some n → NoneLonger (b ∷ z) (n + 1)
quoted-longest b z n quote some sort.Word m fits more within s = letter-quote b (head sort.Word (b ∷ z) m fits (omega arith) within s) quote
quoted-longest b z n quote some sort.Number m fits more within s = number-quote b (get_or z 0 0) (head sort.Number (b ∷ z) m fits (omega arith) within s) quote
quoted-longest b z n quote some sort.Text m fits more within s =
    let h = text-closes b z m fits within s in
    let same : n ≡ h.0 = some-eq (sym some ∙ h.1) in
    omega (arith, h.2)
  where
    some-eq : {a b : ℕ} → Some a ≡ Some b → a ≡ b
    some-eq e = cc
quoted-longest b z n quote some sort.Sign m fits more within s = quote-sign b (get_or z 0 0) quote (head sort.Sign (b ∷ z) m fits (omega arith) within s)
quoted-longest b z n quote some sort.Bad m fits more within s = absurd s

quoted-none : (b : ℕ) (z : Text) → b ≡ 39 → closing false z ≡ None → NoneLonger (b ∷ z) 0
quoted-none b z quote none sort.Word m fits more within s = letter-quote b (head sort.Word (b ∷ z) m fits (omega arith) within s) quote
quoted-none b z quote none sort.Number m fits more within s = number-quote b (get_or z 0 0) (head sort.Number (b ∷ z) m fits (omega arith) within s) quote
quoted-none b z quote none sort.Text m fits more within s = let h = text-closes b z m fits within s in absurd (cc (h.1))
quoted-none b z quote none sort.Sign m fits more within s = quote-sign b (get_or z 0 0) quote (head sort.Sign (b ∷ z) m fits (omega arith) within s)
quoted-none b z quote none sort.Bad m fits more within s = absurd s

sign-none_longer : (z : Text) → is_ascii_alphabetic (get_or z 0 0) ≡ false → begins_number (get_or z 0 0) (get_or z 1 0) ≡ false → eqb (get_or z 0 0) 39 ≡ false
    → NoneLonger z (sign_len (get_or z 0 0) (get_or z 1 0))
sign-none_longer z letter number quote sort.Word m fits more within s = true≢false (sym (head sort.Word z m fits (omega arith) within s) ∙ letter)
sign-none_longer z letter number quote sort.Number m fits more within s = true≢false (sym (head sort.Number z m fits (omega arith) within s) ∙ number)
sign-none_longer z letter number quote sort.Text m fits more within s = true≢false (sym ((Decides-eqb (get_or z 0 0) 39).1 (head sort.Text z m fits (omega arith) within s)) ∙ quote)
sign-none_longer z letter number quote sort.Sign m fits more within s = let longest = sign-longest z m within s.0 in omega (arith, longest.1)
sign-none_longer z letter number quote sort.Bad m fits more within s = absurd s

-- ---- the front of a text

reads-if : (z : Text) (q : Bool) (x y : Front) → (q ≡ true → IsTokenOf z x) → (q ≡ false → IsTokenOf z y) → IsTokenOf z (cond q x y)
reads-if z true x y h k = h refl
reads-if z false x y h k = k refl

word-reads : (z : Text) → is_ascii_alphabetic (get_or z 0 0) ≡ true → 0 < length z → IsTokenOf z (word z)
unfolding word
word-reads z letter some =
    let n = word_len z in
    let within : n ≤ length z = prefix_len-le-length is_word_byte z in
    let first : 1 ≤ n = (word-cut z some letter).some in
    let spells : SpellsWord (take n z) (nat_le n 128) = record {
      letter = ap is_ascii_alphabetic (head-take z n first) ∙ letter;
      bytes = prefix-passes is_word_byte z;
      limit = ap (λ i. nat_le i 128) (sym (length-take-le n z within));
    } in
    (cond (nat_le n 128) sort.Word sort.Bad, refl, inl (record { spelled = sort.Word; fits = nat_le n 128; spells = spells; sort = refl; within = within; longest = word-longest z letter }))

take-split : (z : Text) (w d : ℕ) → w < length z → take (w + (d + 1)) z ≡ take w z ++ get_or z w 0 ∷ take d (drop (w + 1) z)
take-split [] w d below = absurd (omega arith)
take-split (b ∷ z) zero d below = let e : 0 + (d + 1) ≡ suc d = omega arith in rw e refl
take-split (b ∷ z) (suc w) d below =
    let e : suc w + (d + 1) ≡ suc (w + (d + 1)) = omega arith in
    let f : suc w + 1 ≡ suc (w + 1) = omega arith in
    rw (e, f) (ap (λ t. b ∷ t) (take-split z w d (omega arith)))

thirteen : (d n : ℕ) → n ≡ d → nat_le (d + 1) 13 ≡ nat_le n 12
thirteen d n is = grind (arith, nat_tests)

number-spells : (z : Text) → 1 ≤ (number z).len → (number z).len ≤ length z → Spells sort.Number (take (number z).len z) (nat_le (fraction_len z (digits_len z 0)) 13 && is_small (take (number z).len z))
unfolding number fraction_len
number-spells z some within =
    let w = digits_len z 0 in
    let d = digits_len z (w + 1) in
    elim (eqb (get_or z w 0) 46 && not (eqb d 0)) as (λ q. ((eqb (get_or z w 0) 46 && not (eqb d 0)) ≡ q) → 1 ≤ w + cond q (d + 1) 0 → w + cond q (d + 1) 0 ≤ length z
    → Spells sort.Number (take (w + cond q (d + 1) 0) z) (nat_le (cond q (d + 1) 0) 13 && is_small (take (w + cond q (d + 1) 0) z))) [
      | true ↦ λ e some within.
          let point : get_or z w 0 ≡ 46 = first_is (get_or z w 0) d e in
          let digits : 1 ≤ d = second_is (get_or z w 0) d e in
          let fraction = take d (drop (w + 1) z) in
          let long : length fraction ≡ d = length-take-le d (drop (w + 1) z) (prefix_len-le-length is_ascii_digit (drop (w + 1) z)) in
          let is : take (w + (d + 1)) z ≡ take w z ++ 46 ∷ fraction = take-split z w d (omega arith) ∙ ap (λ b. take w z ++ b ∷ fraction) point in
          inr (record {
            whole = take w z;
            fraction = fraction;
            is = is;
            some = omega arith;
            whole_digits = prefix-passes is_ascii_digit z;
            fraction_digits = prefix-passes is_ascii_digit (drop (w + 1) z);
            limit = ap (λ q. q && is_small (take (w + (d + 1)) z)) (thirteen d (length fraction) long);
          })
      | false ↦ λ e some within.
          let same : w + 0 ≡ w = omega arith in
          inl (record {
            some = omega (arith, length-take-le (w + 0) z within);
            digits = ap (λ i. list_all is_ascii_digit (take i z)) same ∙ prefix-passes is_ascii_digit z;
            limit = refl;
          })
    ] refl some within
  where
    first_is : (b d : ℕ) → (eqb b 46 && not (eqb d 0)) ≡ true → b ≡ 46
    first_is b d e = grind (arith, nat_tests)

    second_is : (b d : ℕ) → (eqb b 46 && not (eqb d 0)) ≡ true → 1 ≤ d
    second_is b d e = grind (arith, nat_tests)

number-reads : (z : Text) → begins_number (get_or z 0 0) (get_or z 1 0) ≡ true → 0 < length z → IsTokenOf z (number z)
unfolding number
number-reads z begins some =
    let cut = number-cut z some begins in
    let fits = nat_le (fraction_len z (digits_len z 0)) 13 && is_small (take (number z).len z) in
    (cond fits sort.Number sort.Bad, refl, inl (record { spelled = sort.Number; fits = fits; spells = number-spells z cut.some cut.within; sort = refl; within = cut.within; longest = number-longest z begins cut.some }))

quoted-reads : (z : Text) → get_or z 0 0 ≡ 39 → 0 < length z → IsTokenOf z (quoted z)
unfolding quoted
quoted-reads [] quote some = absurd (omega arith)
quoted-reads (b ∷ z) quote some =
    elim (closing false z) as (λ o. (closing false z ≡ o) → IsTokenOf (b ∷ z) (text_of (b ∷ z) o)) [
      | None ↦ λ e. (sort.Bad, refl, inr (record { sort = refl; none = quoted-none b z quote e; quote = λ _. refl; other = λ k. absurd (k quote) }))
      | Some n ↦ λ e.
          let bounds = closing_bounds z n e in
          let c = closed z n e in
          let fits = is_content (take (n - 1) z) in
          let one : n + 1 ≡ suc n = omega arith in
          let front : take (n + 1) (b ∷ z) ≡ 39 ∷ doubled c.0 ++ 39 ∷ [] = ap (λ i. take i (b ∷ z)) one ∙ rw quote (ap (λ t. 39 ∷ t) c.1) in
          let limit : fits ≡ (nat_le (length c.0) 256 && list_all is_plain c.0) = ap (λ t. nat_le (length t) 256 && list_all is_plain t) (content-closed z c.0 n bounds.1 c.1) in (
            cond fits sort.Text sort.Bad,
            refl,
            inl (record {
              spelled = sort.Text;
              fits = fits;
              spells = record { content = c.0; is = front; limit = limit };
              sort = refl;
              within = omega (arith, bounds.1);
              longest = quoted-longest b z n quote e;
            }),
          )
    ] refl

sign-reads : (z : Text) → is_ascii_alphabetic (get_or z 0 0) ≡ false → begins_number (get_or z 0 0) (get_or z 1 0) ≡ false → eqb (get_or z 0 0) 39 ≡ false → 0 < length z → IsTokenOf z (sign_or_bad z)
unfolding sign_or_bad
sign-reads z letter number quote some =
    elim (sign_len (get_or z 0 0) (get_or z 1 0)) as (λ n. (sign_len (get_or z 0 0) (get_or z 1 0) ≡ n) → IsTokenOf z (sign_of n z)) [
      | zero ↦ λ e. (
        sort.Bad,
        refl,
        inr (record {
          sort = refl;
          none = subst (NoneLonger z) e (sign-none_longer z letter number quote);
          quote = λ q. absurd (true≢false (sym ((Decides-eqb (get_or z 0 0) 39).1 q) ∙ quote));
          other = λ _. refl;
        }),
      )
      | suc n ↦ λ e.
          let within : suc n ≤ length z = sign-within z n e some in (
            sort.Sign,
            refl,
            inl (record {
              spelled = sort.Sign;
              fits = true;
              spells = (sign-spells z n e within, refl);
              sort = refl;
              within = within;
              longest = subst (NoneLonger z) e (sign-none_longer z letter number quote);
            }),
          )
    ] refl

pub front-reads : (z : Text) → 0 < length z → begins_gap z ≡ false → IsTokenOf z (front z)
unfolding front
front-reads z some gap =
    let b = get_or z 0 0 in
    let next = get_or z 1 0 in
    reads-if z (is_blank b) _ _ (λ e. absurd (no_gap e))
    (λ _. reads-if z (is_ascii_alphabetic b) _ _ (λ e. word-reads z e some)
    (λ letter. reads-if z (begins_number b next) _ _ (λ e. number-reads z e some)
    (λ number. reads-if z (eqb b 39) _ _ (λ e. quoted-reads z ((Decides-eqb b 39).0 e) some)
    (λ quote. reads-if z (eqb b 45 && eqb next 45) _ _ (λ e. absurd (no_line e))
    (λ _. reads-if z (eqb b 47 && eqb next 42) _ _ (λ e. absurd (no_block e))
    (λ _. sign-reads z letter number quote some))))))
  where
    no_gap : is_blank (get_or z 0 0) ≡ true → ⊥
    no_gap e = grind arith

    no_line : (eqb (get_or z 0 0) 45 && eqb (get_or z 1 0) 45) ≡ true → ⊥
    no_line e = grind arith

    no_block : (eqb (get_or z 0 0) 47 && eqb (get_or z 1 0) 42) ≡ true → ⊥
    no_block e = grind arith
