use Rattle.std.proofs.Common.{◌≡◌, ℕ, ◌<◌, Bool, true, false, ◌&&◌, cond, eqb, List, [], ◌∷◌, ◌++◌, length, get_or, refl, ap, sym, subst, ◌∙◌, inl, inr, arith}
use Rattle.std.proofs.lemmas.Bool.Decides.{nat_tests, Decides-eqb}
use Rattle.std.proofs.lemmas.List.{append-nil}
use Rattle.std.specs.Prelude.{Option, Some, None, nat_le, is_some, pos}
use Rattle.std.specs.Char.{is_ascii_digit}
use Rattle.std.specs.List.{fold, list_all, list_any}
use Rattle.std.specs.Option.{option_map}
use Rattle.std.specs.Str.{bytes_eq}
use Rattle.mq_values.specs.declared.limits.TheConstants.{MAX_SCALE}
use Rattle.mq_lexer.specs.declared.terminals.Terminal.{Terminal}
use Rattle.mq_lexer.specs.declared.terminals.Terminal.TheVariants as terminal
use Rattle.mq_lexer.specs.declared.sorts.Sort.{Sort}
use Rattle.mq_lexer.specs.declared.sorts.Sort.TheVariants as sort
use Rattle.mq_lexer.specs.Classes.{symbols, symbol_of, class_of_word, class_of_sign, class_of}
use Rattle.mq_lexer.specs.Lexemes.{Lexeme}
use Rattle.mq_lexer.specs.Numbers.{number_of, places, with_digit, is_small}
use Rattle.mq_lexer.specs.SignLemmas.{listed}
use Rattle.mq_lexer.specs.Spelling.{IsSpelled, SpellsText, SpellsWhole, doubled, signs}
use Rattle.mq_lexer.specs.Tokens.{tokens}
use Rattle.mq_lexer.specs.Words.{folded, spelled, reserved, reserved_of}
use Rattle.mq_ast.specs.Spelling.{Reads, ReadsNumber, ReadsSign, ReadsText, number_or_zero, text_or_empty, content_of, tok, unquoted, ReadsWord}
use Rattle.mq_ast.specs.Tokens.{Tok, Num, Text, Bad}
use Rattle.mq_ast.proofs.laws.tokens_are_read.Goals as goal

-- ---- numbers

no_point : (b : ℕ) → is_ascii_digit b ≡ true → eqb b 46 ≡ false
no_point b is = grind (arith, nat_tests)

places-digits : (z : List ℕ) → list_all is_ascii_digit z ≡ true → places z ≡ 0
places-digits [] all = refl
places-digits (b ∷ z) all =
    elim (is_ascii_digit b) as (λ q. (is_ascii_digit b ≡ q) → (q && list_all is_ascii_digit z) ≡ true → cond (eqb b 46) (length z) (places z) ≡ 0) [
      | true ↦ λ e all. rw (no_point b e) (places-digits z all)
      | false ↦ λ e all. absurd (cc)
    ] refl all

places-fraction : (whole fraction : List ℕ) → list_all is_ascii_digit whole ≡ true → places (whole ++ 46 ∷ fraction) ≡ length fraction
places-fraction [] fraction all = refl
places-fraction (b ∷ whole) fraction all =
    elim (is_ascii_digit b) as (λ q. (is_ascii_digit b ≡ q) → (q && list_all is_ascii_digit whole) ≡ true → cond (eqb b 46) (length (whole ++ 46 ∷ fraction)) (places (whole ++ 46 ∷ fraction)) ≡ length fraction) [
      | true ↦ λ e all. rw (no_point b e) (places-fraction whole fraction all)
      | false ↦ λ e all. absurd (cc)
    ] refl all

-- a point counts nothing
fold-point : (n : ℕ) (whole fraction : List ℕ) → fold with_digit n (whole ++ 46 ∷ fraction) ≡ fold with_digit n (whole ++ fraction)
fold-point n [] fraction = refl
fold-point n (b ∷ whole) fraction = fold-point (with_digit n b) whole fraction

all-append : (p : ℕ → Bool) (xs ys : List ℕ) → list_all p xs ≡ true → list_all p ys ≡ true → list_all p (xs ++ ys) ≡ true
all-append p [] ys all more = more
all-append p (x ∷ xs) ys all more =
    elim (p x) as (λ q. (q && list_all p xs) ≡ true → (q && list_all p (xs ++ ys)) ≡ true) [
      | true ↦ λ all. all-append p xs ys all more
      | false ↦ λ all. absurd (cc)
    ] all

-- the limits are kept
within : (z : List ℕ) (m : ℕ) (scale : ℕ) → places z ≡ scale → nat_le scale MAX_SCALE ≡ true → is_small z ≡ true → fold with_digit 0 z ≡ m
    → Num (number_or_zero (number_of z)) ≡ Num (record { mant = pos m; scale = scale })
within z m scale at few small is = rw (at, few, small, is) refl

whole-reads : (z : List ℕ) → SpellsWhole z true → ReadsNumber z (Num (number_or_zero (number_of z)))
whole-reads z s =
    let same : z ++ [] ≡ z = append-nil z in
    record {
      whole = z;
      fraction = [];
      spelled = sym same;
      digits = ap (list_all is_ascii_digit) same ∙ s.digits;
      is = within z (fold with_digit 0 (z ++ [])) 0 (places-digits z s.digits) refl (sym s.limit) (ap (fold with_digit 0) (sym same));
    }

fraction-reads : (z whole fraction : List ℕ) → z ≡ whole ++ 46 ∷ fraction → 0 < length fraction → list_all is_ascii_digit whole ≡ true → list_all is_ascii_digit fraction ≡ true
    → true ≡ (nat_le (length fraction) MAX_SCALE && is_small z) → ReadsNumber z (Num (number_or_zero (number_of z)))
fraction-reads z whole [] is some digits more limit = absurd (omega arith)
fraction-reads z whole (b ∷ fraction) is some digits more limit =
    let f = b ∷ fraction in
    let few : nat_le (length f) MAX_SCALE ≡ true = first (nat_le (length f) MAX_SCALE) (is_small z) (sym limit) in
    let small : is_small z ≡ true = second (nat_le (length f) MAX_SCALE) (is_small z) (sym limit) in
    record {
      whole = whole;
      fraction = f;
      spelled = is;
      digits = all-append is_ascii_digit whole f digits more;
      is = within z (fold with_digit 0 (whole ++ f)) (length f) (ap places is ∙ places-fraction whole f digits) few small (ap (fold with_digit 0) is ∙ fold-point 0 whole f);
    }
  where
    first : (q r : Bool) → (q && r) ≡ true → q ≡ true
    first true r e = refl
    first false r e = absurd (cc)

    second : (q r : Bool) → (q && r) ≡ true → r ≡ true
    second true r e = e
    second false r e = absurd (cc)

-- ---- texts

unquoted-doubled : (c : List ℕ) → unquoted false (doubled c ++ 39 ∷ []) ≡ Some c
unquoted-doubled [] = refl
unquoted-doubled (b ∷ c) =
    elim (eqb b 39) as (λ q. (eqb b 39 ≡ q) → unquoted false (cond q (39 ∷ 39 ∷ doubled c) (b ∷ doubled c) ++ 39 ∷ []) ≡ Some (b ∷ c)) [
      | true ↦ λ e. let quote : 39 ≡ b = sym ((Decides-eqb b 39).0 e) in ap (option_map (λ c. 39 ∷ c)) (unquoted-doubled c) ∙ ap (λ b. Some (b ∷ c)) quote
      | false ↦ λ e. rw e (ap (option_map (λ c. b ∷ c)) (unquoted-doubled c))
    ] refl

text-reads : (z : List ℕ) → SpellsText z true → ReadsText z (Text (text_or_empty (content_of z)))
text-reads z s =
    record {
      content = s.content;
      spelled = s.is;
      is = ap (λ z. Text (text_or_empty (content_of z))) s.is ∙ ap (λ o. Text (text_or_empty o)) (unquoted-doubled s.content) ∙ ap (λ q. Text (cond q s.content [])) (sym s.limit);
    }

-- ---- signs

has_symbol : List ℕ → Bool
has_symbol z = is_some (symbol_of z)

all_symbols : list_all has_symbol signs ≡ true
unfolding has_symbol symbols
all_symbols = refl

sign-reads : (z : List ℕ) → list_any (bytes_eq z) signs ≡ true → ReadsSign z (tok (class_of_sign (symbol_of z)) z)
unfolding has_symbol
sign-reads z is =
    elim (symbol_of z) as (λ o. (symbol_of z ≡ o) → is_some o ≡ true → ReadsSign z (tok (class_of_sign o) z)) [
      | None ↦ λ e some. absurd (cc)
      | Some s ↦ λ e some. record { symbol = s; spelled = e; is = refl }
    ] refl (listed has_symbol z signs is all_symbols)

-- ---- each token

-- the table of reserved words has keywords and aggregates alone
abbrev is_reserved_class : Option Terminal → Bool
is_reserved_class None = true
is_reserved_class (Some (terminal.Word k)) = true
is_reserved_class (Some (terminal.Aggregate g)) = true
is_reserved_class (Some _) = false

listed-class : (z : List ℕ) (ws : List (List ℕ × Terminal)) → list_all (λ w. is_reserved_class (Some w.1)) ws ≡ true → is_reserved_class (spelled z ws) ≡ true
listed-class z [] all = refl
listed-class z (w ∷ ws) all =
    elim (bytes_eq w.0 z) as (λ q. is_reserved_class (cond q (Some w.1) (spelled z ws)) ≡ true) [
      | true ↦ first (is_reserved_class (Some w.1)) (list_all (λ w. is_reserved_class (Some w.1)) ws) all
      | false ↦ listed-class z ws (second (is_reserved_class (Some w.1)) (list_all (λ w. is_reserved_class (Some w.1)) ws) all)
    ]
  where
    first : (q r : Bool) → (q && r) ≡ true → q ≡ true
    first true r e = refl
    first false r e = absurd (cc)

    second : (q r : Bool) → (q && r) ≡ true → r ≡ true
    second true r e = e
    second false r e = absurd (cc)

all_reserved : list_all (λ w. is_reserved_class (Some w.1)) reserved ≡ true
unfolding reserved
all_reserved = refl

word-reads : (z : List ℕ) (o : Option Terminal) → is_reserved_class o ≡ true → ReadsWord z o (tok (class_of_word o) z)
word-reads z None e = refl
word-reads z (Some (terminal.Word k)) e = refl
word-reads z (Some (terminal.Aggregate g)) e = refl
word-reads z (Some (terminal.Sign s)) e = absurd (cc)
word-reads z (Some terminal.Name) e = absurd (cc)
word-reads z (Some terminal.Number) e = absurd (cc)
word-reads z (Some terminal.Text) e = absurd (cc)
word-reads z (Some terminal.Bad) e = absurd (cc)
word-reads z (Some terminal.Nothing) e = absurd (cc)

reads : (k : Sort) (z : List ℕ) → IsSpelled k z → Reads k z (tok (class_of k z) z)
reads sort.Word z s = word-reads z (reserved_of z) (listed-class (folded z) reserved all_reserved)
reads sort.Number z (inl bad) = absurd (cc)
reads sort.Number z (inr (inl s)) = whole-reads z s
reads sort.Number z (inr (inr s)) = fraction-reads z s.whole s.fraction s.is s.some s.whole_digits s.fraction_digits s.limit
reads sort.Text z (inl bad) = absurd (cc)
reads sort.Text z (inr s) = text-reads z s
reads sort.Sign z (inl bad) = absurd (cc)
reads sort.Sign z (inr s) = sign-reads z s.0
reads sort.Bad z s = refl

word-good : (z : List ℕ) (o : Option Terminal) (t : Tok) → ReadsWord z o t → t ≡ Bad → ⊥
word-good z None t r e = absurd (cc)
word-good z (Some (terminal.Word k)) t r e = absurd (cc)
word-good z (Some (terminal.Aggregate g)) t r e = absurd (cc)
word-good z (Some (terminal.Sign s)) t r e = r
word-good z (Some terminal.Name) t r e = r
word-good z (Some terminal.Number) t r e = r
word-good z (Some terminal.Text) t r e = r
word-good z (Some terminal.Bad) t r e = r
word-good z (Some terminal.Nothing) t r e = r

bad_alone : (k : Sort) (z : List ℕ) (t : Tok) → Reads k z t → t ≡ Bad → k ≡ sort.Bad
bad_alone sort.Word z t r e = absurd (word-good z (reserved_of z) t r e)
bad_alone sort.Number z t r e = let is = r.is in absurd (cc)
bad_alone sort.Text z t r e = let is = r.is in absurd (cc)
bad_alone sort.Sign z t r e = let is = r.is in absurd (cc)
bad_alone sort.Bad z t r e = refl

pub returns : goal.returns
returns c =
    let token : (z : List ℕ) (k : ℕ) (d : Lexeme) → Lexeme = λ z k d. get_or (tokens z) k d in
    let read : (z : List ℕ) (k : ℕ) (d : Lexeme) → k < length (tokens z) → Reads (token z k d).sort (token z k d).text (tok (token z k d).terminal (token z k d).text) =
    λ z k d below. subst (λ s. Reads (token z k d).sort (token z k d).text (tok s (token z k d).text)) (sym (c.tokens_are_of_their_class.ensures z k d below))
    (reads (token z k d).sort (token z k d).text (c.tokens_are_spelled.ensures z k d below)) in
    record {
      read = read;
      bad = λ z k d below. bad_alone (token z k d).sort (token z k d).text (tok (token z k d).terminal (token z k d).text) (read z k d below);
    }
