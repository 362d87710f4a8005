-- The first token of a text, and what is left behind it.
use Rattle.std.proofs.Common.{◌≡◌, ℕ, zero, suc, ◌-◌, ◌<◌, ◌≤◌, [], ◌∷◌, length, take, drop, IsUtf8, refl, ap, sym, subst, ◌∙◌, arith}
use Rattle.std.specs.List.{fold, filter_map, cons_option}
use Rattle.std.proofs.lemmas.Str.{IsUtf8-drop}
use Rattle.mq_lexer.specs.declared.sorts.Front.{Front}
use Rattle.mq_lexer.specs.Fronts.{Text}
use Rattle.mq_lexer.specs.Pieces.{front}
use Rattle.mq_lexer.specs.Tokens.{line_after, piece, pieces_from, token_at, token_of}
use Rattle.mq_lexer.proofs.CutLemmas.{front-cut}

-- within a piece only the lines are counted
pieces_from-drop : (n line : ℕ) (z : Text) → pieces_from n line z ≡ pieces_from 0 (fold line_after line (take n z)) (drop n z)
pieces_from-drop zero line z = refl
pieces_from-drop (suc n) line [] = refl
pieces_from-drop (suc n) line (b ∷ z) = pieces_from-drop n (line_after line b) z

-- the first piece, and the others
pub pieces_from-front : (line : ℕ) (z : Text) → 0 < length z → 1 ≤ (front z).len
    → pieces_from 0 line z ≡ piece (front z) z line ∷ pieces_from 0 (fold line_after line (take (front z).len z)) (drop (front z).len z)
pieces_from-front line [] some moves = absurd (omega arith)
pieces_from-front line (b ∷ z) some moves =
    let n = (front (b ∷ z)).len in
    let e : n ≡ suc (n - 1) = omega arith in
    ap (λ ps. piece (front (b ∷ z)) (b ∷ z) line ∷ ps)
    (pieces_from-drop (n - 1) (line_after line b) z ∙ ap (λ k. pieces_from 0 (fold line_after line (take k (b ∷ z))) (drop k (b ∷ z))) (sym e))

-- what stands at the front is the first token, or none, and the others are those of what is left behind it
pub first_left : (line next : ℕ) (rest taken after : Text) (f : Front) → 0 < length rest → f ≡ front rest → taken ≡ take f.len rest → after ≡ drop f.len rest
    → next ≡ fold line_after line taken
    → filter_map token_of (pieces_from 0 line rest) ≡ cons_option (token_at f.sort taken line) (filter_map token_of (pieces_from 0 next after))
first_left line next rest taken after f some is taken-is after-is next-is =
    let whole = pieces_from-front line rest some (front-cut rest some).some in
    rw (next-is, taken-is, after-is, is) (ap (filter_map token_of) whole)

-- what is left behind it is text
pub text_left : (rest after : Text) (f : Front) → 0 < length rest → f ≡ front rest → after ≡ drop f.len rest → IsUtf8 rest → IsUtf8 after
text_left rest after f some is after-is utf8 =
    subst IsUtf8 (sym (after-is ∙ ap (λ (f : Front). drop f.len rest) is)) (IsUtf8-drop rest (front rest).len utf8 ((front-cut rest some).splits utf8))

-- of no text no token is left
pub none_left : (line : ℕ) (z : Text) → length z ≡ 0 → filter_map token_of (pieces_from 0 line z) ≡ []
none_left line [] e = refl
none_left line (b ∷ z) e = absurd (omega arith)
