-- The pieces of a text as a whole.
use Rattle.std.proofs.Common.{◌≡◌, ℕ, zero, suc, ◌+◌, ◌-◌, ◌^◌, ◌<◌, ◌≤◌, min, Bool, true, false, not, ◌&&◌, ◌||◌, cond, eqb, List, [], ◌∷◌, ◌++◌, length, take, drop, filter, inl, inr, refl, ap, sym, subst, true≢false, get_or, ◌∙◌, arith, take-append-drop}
use Rattle.std.proofs.lemmas.Bool.Decides.{nat_tests}
use Rattle.std.proofs.lemmas.List.Elements.{All-cons}
use Rattle.std.proofs.lemmas.List.Sums.{sum_by-cons}
use Rattle.std.specs.Prelude.{All, Option, Some, None}
use Rattle.std.specs.Char.{is_ascii_digit, is_ascii_alphabetic}
use Rattle.std.specs.List.{flat_map, fold, filter_map, cons_option, list_all, list_any, count_by}
use Rattle.mq_lexer.specs.declared.sorts.Sort.{Sort}
use Rattle.mq_lexer.specs.declared.sorts.Sort.TheVariants as sort
use Rattle.mq_lexer.specs.declared.sorts.Front.{Front}
use Rattle.mq_lexer.specs.Classes.{class_of}
use Rattle.mq_lexer.specs.Lexemes.{Lexeme}
use Rattle.mq_lexer.specs.Fronts.{Text}
use Rattle.mq_lexer.specs.Pieces.{front, line_comment, comment_end, comment_of, block_comment, is_blank, is_word_byte}
use Rattle.mq_lexer.specs.Tokens.{line_after, Piece, piece, pieces_from, pieces, token_at, token_of, tokens, is_readable}
use Rattle.mq_lexer.specs.Spelling.{signs, Spells, IsSpelled, begins_gap, IsTokenOf}
use Rattle.mq_lexer.specs.SignLemmas.{listed}
use Rattle.mq_lexer.specs.Statements.{is_semicolon, put_first, parts, statement_of, statements}
use Rattle.mq_lexer.proofs.CutLemmas.{front-cut}
use Rattle.mq_lexer.proofs.SpellingLemmas.{front-reads}

abbrev text_of : Piece → Text
text_of p = p.text

texts : (skip line : ℕ) (z : Text) → flat_map text_of (pieces_from skip line z) ≡ drop skip z
texts zero line [] = refl
texts (suc skip) line [] = refl
texts (suc skip) line (b ∷ z) = texts skip (line_after line b) z
texts zero line (b ∷ z) =
    let n = (front (b ∷ z)).len in
    let cut = front-cut (b ∷ z) (omega arith) in
    let one : n ≡ suc (n - 1) = omega (arith, cut.some) in
    ap (λ l. take n (b ∷ z) ++ l) (texts (n - 1) (line_after line b) z ∙ ap (λ i. drop i (b ∷ z)) (sym one)) ∙ take-append-drop n (b ∷ z)

pub pieces-texts : (z : Text) → flat_map (λ (p : Piece). p.text) (pieces z) ≡ z
unfolding pieces
pieces-texts z = texts 0 1 z

-- the line of a piece is the one that the bytes before it lead to
lines : (skip line : ℕ) (z : Text) (before : List Piece) (p : Piece) (behind : List Piece) → pieces_from skip line z ≡ before ++ p ∷ behind
    → p.line ≡ fold line_after line (take skip z ++ flat_map text_of before)
lines skip line [] [] p behind e = absurd (cc)
lines skip line [] (q ∷ before) p behind e = absurd (cc)
lines (suc skip) line (b ∷ z) before p behind e = lines skip (line_after line b) z before p behind e
lines zero line (b ∷ z) [] p behind e = let same : piece (front (b ∷ z)) (b ∷ z) line ≡ p = cc in ap (λ p. p.line) (sym same)
lines zero line (b ∷ z) (q ∷ before) p behind e =
    let n = (front (b ∷ z)).len in
    let cut = front-cut (b ∷ z) (omega arith) in
    let one : n ≡ suc (n - 1) = omega (arith, cut.some) in
    let same : piece (front (b ∷ z)) (b ∷ z) line ≡ q = cc in
    let rest : pieces_from (n - 1) (line_after line b) z ≡ before ++ p ∷ behind = cc in
    let text : b ∷ take (n - 1) z ≡ q.text = ap (λ i. take i (b ∷ z)) (sym one) ∙ ap (λ p. p.text) same in
    lines (n - 1) (line_after line b) z before p behind rest ∙ ap (λ l. fold line_after line (l ++ flat_map text_of before)) text

line-count : (line : ℕ) (z : Text) → line ≤ 2 ^ 32 - 1 → fold line_after line z ≡ min (line + count_by (λ b. eqb b 10) z) (2 ^ 32 - 1)
line-count line [] low = omega arith
line-count line (b ∷ z) low =
    let rest = count_by (λ b. eqb b 10) z in
    let more : count_by (λ b. eqb b 10) (b ∷ z) ≡ cond (eqb b 10) 1 0 + rest = sum_by-cons (λ b. cond (eqb b 10) 1 0) b z in
    rw more (elim (eqb b 10) as (λ q. fold line_after (cond q (min (line + 1) (2 ^ 32 - 1)) line) z ≡ min (line + (cond q 1 0 + rest)) (2 ^ 32 - 1)) [
      | true ↦ line-count (min (line + 1) (2 ^ 32 - 1)) z (omega arith) ∙ omega arith
      | false ↦ line-count line z low ∙ omega arith
    ])

pub pieces-lines : (z : Text) (before : List Piece) (p : Piece) (behind : List Piece) → pieces z ≡ before ++ p ∷ behind
    → p.line ≡ min (1 + count_by (λ b. eqb b 10) (flat_map (λ (p : Piece). p.text) before)) (2 ^ 32 - 1)
unfolding pieces
pieces-lines z before p behind e = lines 0 1 z before p behind e ∙ line-count 1 (flat_map text_of before) (omega arith)

-- ---- blanks

no_blank : (p : ℕ → Bool) (t : Text) → ((b : ℕ) → p b ≡ true → is_blank b ≡ false) → list_all p t ≡ true → list_any is_blank t ≡ false
no_blank p [] none all = refl
no_blank p (b ∷ t) none all =
    elim (p b) as (λ q. (p b ≡ q) → (q && list_all p t) ≡ true → (is_blank b || list_any is_blank t) ≡ false) [
      | true ↦ λ e all. rw (none b e) (no_blank p t none all)
      | false ↦ λ e all. absurd (cc)
    ] refl all

word-blank : (b : ℕ) → is_word_byte b ≡ true → is_blank b ≡ false
word-blank b is = grind (arith, nat_tests)

digit-blank : (b : ℕ) → is_ascii_digit b ≡ true → is_blank b ≡ false
digit-blank b is = grind (arith, nat_tests)

any-append : (xs ys : Text) → list_any is_blank xs ≡ false → list_any is_blank ys ≡ false → list_any is_blank (xs ++ ys) ≡ false
any-append [] ys e f = f
any-append (x ∷ xs) ys e f =
    elim (is_blank x) as (λ q. (q || list_any is_blank xs) ≡ false → (q || list_any is_blank (xs ++ ys)) ≡ false) [
      | true ↦ λ e. absurd (cc)
      | false ↦ λ e. any-append xs ys e f
    ] e

no_blank_sign : Text → Bool
no_blank_sign t = not (list_any is_blank t)

signs-blank : list_all no_blank_sign signs ≡ true
unfolding no_blank_sign
signs-blank = refl

sign-blank : (t : Text) → no_blank_sign t ≡ true → list_any is_blank t ≡ false
unfolding no_blank_sign
sign-blank t e = grind arith

spells-blank : (k : Sort) (t : Text) (fits : Bool) → Spells k t fits → is_readable k ≡ true → list_any is_blank t ≡ false
spells-blank sort.Word t fits s readable = no_blank is_word_byte t word-blank s.bytes
spells-blank sort.Number t fits (inl s) readable = no_blank is_ascii_digit t digit-blank s.digits
spells-blank sort.Number t fits (inr s) readable =
    rw s.is (any-append s.whole (46 ∷ s.fraction) (no_blank is_ascii_digit s.whole digit-blank s.whole_digits) (no_blank is_ascii_digit s.fraction digit-blank s.fraction_digits))
spells-blank sort.Text t fits s readable = absurd (cc)
spells-blank sort.Sign t fits s readable = sign-blank t (listed no_blank_sign t signs s.0 signs-blank)
spells-blank sort.Bad t fits s readable = absurd s

-- a blank or a comment is no token, or a Bad one
Dull : Option Sort → Type 0
Dull None = Unit {0}
Dull (Some s) = s ≡ sort.Bad

dull-if : (q : Bool) (x y : Front) → (q ≡ true → Dull x.sort) → (q ≡ false → Dull y.sort) → Dull (cond q x y).sort
dull-if true x y h k = h refl
dull-if false x y h k = k refl

dull-comment : (z : Text) (o : Option ℕ) → Dull (comment_of z o).sort
unfolding Dull
dull-comment z None = refl
dull-comment z (Some n) = tt

gap-letter : (b next : ℕ) → is_ascii_alphabetic b ≡ true → (is_blank b || (eqb b 45 && eqb next 45) || (eqb b 47 && eqb next 42)) ≡ true → ⊥
gap-letter b next h k = grind (arith, nat_tests)

gap-number : (b next : ℕ) → (is_ascii_digit b || (eqb b 46 && is_ascii_digit next)) ≡ true → (is_blank b || (eqb b 45 && eqb next 45) || (eqb b 47 && eqb next 42)) ≡ true → ⊥
gap-number b next h k = grind (arith, nat_tests)

gap-quote : (b next : ℕ) → eqb b 39 ≡ true → (is_blank b || (eqb b 45 && eqb next 45) || (eqb b 47 && eqb next 42)) ≡ true → ⊥
gap-quote b next h k = grind (arith, nat_tests)

gap-other : (b next : ℕ) → is_blank b ≡ false → (eqb b 45 && eqb next 45) ≡ false → (eqb b 47 && eqb next 42) ≡ false → (is_blank b || (eqb b 45 && eqb next 45) || (eqb b 47 && eqb next 42)) ≡ true → ⊥
gap-other b next f g h k = grind arith

gap-dull : (z : Text) → begins_gap z ≡ true → Dull (front z).sort
unfolding front line_comment block_comment Dull
gap-dull z gap =
    let b = get_or z 0 0 in
    let next = get_or z 1 0 in
    dull-if (is_blank b) _ _ (λ _. tt)
    (λ blank. dull-if (is_ascii_alphabetic b) _ _ (λ e. absurd (gap-letter b next e gap))
    (λ _. dull-if (is_ascii_digit b || (eqb b 46 && is_ascii_digit next)) _ _ (λ e. absurd (gap-number b next e gap))
    (λ _. dull-if (eqb b 39) _ _ (λ e. absurd (gap-quote b next e gap))
    (λ _. dull-if (eqb b 45 && eqb next 45) _ _ (λ _. tt)
    (λ line. dull-if (eqb b 47 && eqb next 42) _ _ (λ _. dull-comment z (comment_end (drop 2 z)))
    (λ block. absurd (gap-other b next blank line block gap)))))))

-- ---- spelling

-- a token has the spelling of its sort
Spelled : Option Sort → Text → Type 0
Spelled None t = Unit {0}
Spelled (Some s) t = IsSpelled s t

dull-spelled : (o : Option Sort) (t : Text) → Dull o → Spelled o t
unfolding Dull Spelled
dull-spelled None t dull = tt
dull-spelled (Some s) t dull = inl dull

fitting : (s k : Sort) (fits : Bool) (t : Text) → s ≡ cond fits k sort.Bad → Spells k t fits → IsSpelled s t
fitting s k true t is spells = inr (subst (λ s. Spells s t true) (sym is) spells)
fitting s k false t is spells = inl is

reads-spelled : (z : Text) → IsTokenOf z (front z) → Spelled (front z).sort (take (front z).len z)
unfolding Spelled
reads-spelled z (s, is, inl l) = subst (λ f. Spelled f.sort (take (front z).len z)) (sym is) (fitting s l.spelled l.fits (take (front z).len z) l.sort l.spells)
reads-spelled z (s, is, inr u) = subst (λ f. Spelled f.sort (take (front z).len z)) (sym is) (inl u.sort)

front-spelled : (z : Text) → 0 < length z → Spelled (front z).sort (take (front z).len z)
front-spelled z some =
    elim (begins_gap z) as (λ q. (begins_gap z ≡ q) → Spelled (front z).sort (take (front z).len z)) [
      | true ↦ λ e. dull-spelled (front z).sort (take (front z).len z) (gap-dull z e)
      | false ↦ λ e. reads-spelled z (front-reads z some e)
    ] refl

abbrev HasSpelling : Lexeme → Type 0
HasSpelling t = IsSpelled t.sort t.text

with_token : (o : Option Sort) (t : Text) (line : ℕ) (ts : List Lexeme) → Spelled o t → All HasSpelling ts → All HasSpelling (cons_option (token_at o t line) ts)
unfolding Spelled
with_token None t line ts spelled all = all
with_token (Some s) t line ts spelled all = All-cons HasSpelling (record { sort = s; text = t; line = line; terminal = class_of s t }) ts spelled all

spelled : (skip line : ℕ) (z : Text) → All HasSpelling (filter_map token_of (pieces_from skip line z))
spelled skip line [] = λ k d below. absurd (omega arith)
spelled (suc skip) line (b ∷ z) = spelled skip (line_after line b) z
spelled zero line (b ∷ z) =
    let f = front (b ∷ z) in
    with_token f.sort (take f.len (b ∷ z)) line (filter_map token_of (pieces_from (f.len - 1) (line_after line b) z)) (front-spelled (b ∷ z) (omega arith)) (spelled (f.len - 1) (line_after line b) z)

pub tokens-spelled : (z : Text) → All (λ (t : Lexeme). IsSpelled t.sort t.text) (tokens z)
unfolding tokens pieces
tokens-spelled z = spelled 0 1 z

-- each is of the class of its spelling
abbrev IsClassed : Lexeme → Type 0
IsClassed t = t.terminal ≡ class_of t.sort t.text

with_classed : (o : Option Sort) (t : Text) (line : ℕ) (ts : List Lexeme) → All IsClassed ts → All IsClassed (cons_option (token_at o t line) ts)
with_classed None t line ts all = all
with_classed (Some s) t line ts all = All-cons IsClassed (record { sort = s; text = t; line = line; terminal = class_of s t }) ts refl all

classed : (ps : List Piece) → All IsClassed (filter_map token_of ps)
classed [] = λ k d below. absurd (omega arith)
classed (p ∷ ps) = with_classed p.sort p.text p.line (filter_map token_of ps) (classed ps)

pub tokens-classed : (z : Text) → All (λ (t : Lexeme). t.terminal ≡ class_of t.sort t.text) (tokens z)
unfolding tokens
tokens-classed z = classed (pieces z)

-- what can be read holds no blank
spelled-clear : (s : Sort) (t : Text) → IsSpelled s t → is_readable s ≡ true → list_any is_blank t ≡ false
spelled-clear s t (inl bad) readable = absurd (true≢false (sym readable ∙ ap is_readable bad))
spelled-clear s t (inr spells) readable = spells-blank s t true spells readable

pub tokens-clear : (z : Text) → All (λ (t : Lexeme). is_readable t.sort ≡ true → list_any is_blank t.text ≡ false) (tokens z)
tokens-clear z = λ k d below. spelled-clear (get_or (tokens z) k d).sort (get_or (tokens z) k d).text (tokens-spelled z k d below)

-- ---- statements

put_first-flat : (t : Lexeme) (ps : List (List Lexeme)) → flat_map (λ p. p) (put_first t ps) ≡ t ∷ flat_map (λ p. p) ps
put_first-flat t [] = refl
put_first-flat t (p ∷ ps) = refl

parts-flat : (ts : List Lexeme) → flat_map (λ p. p) (parts ts) ≡ filter (λ t. not (is_semicolon t)) ts
parts-flat [] = refl
parts-flat (t ∷ ts) =
    elim (is_semicolon t) as (λ q. flat_map (λ p. p) (cond q ([] ∷ parts ts) (put_first t (parts ts))) ≡ cond (not q) (t ∷ filter (λ t. not (is_semicolon t)) ts) (filter (λ t. not (is_semicolon t)) ts)) [
      | true ↦ parts-flat ts
      | false ↦ put_first-flat t (parts ts) ∙ ap (λ l. t ∷ l) (parts-flat ts)
    ]

statement-flat : (ps : List (List Lexeme)) → flat_map (λ s. s.tokens) (filter_map statement_of ps) ≡ flat_map (λ p. p) ps
statement-flat [] = refl
statement-flat ([] ∷ ps) = statement-flat ps
statement-flat ((t ∷ p) ∷ ps) = ap (λ l. (t ∷ p) ++ l) (statement-flat ps)

pub statements-flat : (ts : List Lexeme) → flat_map (λ s. s.tokens) (statements ts) ≡ filter (λ t. not (is_semicolon t)) ts
unfolding statements
statements-flat ts = statement-flat (parts ts) ∙ parts-flat ts
