-- The statements of a token list, one after the other.
use Rattle.std.proofs.Common.{◌≡◌, ℕ, zero, suc, ◌+◌, ◌-◌, ◌<◌, ◌≤◌, Bool, true, false, not, cond, ◌||◌, List, [], ◌∷◌, ◌++◌, append-nil, length, get_or, take, drop, map, refl, ap, sym, ◌∙◌, arith, add-zero, length-drop}
use Rattle.std.proofs.lemmas.List.{drop-drop, get_or-drop}
use Rattle.std.specs.Prelude.{Some}
use Rattle.std.specs.List.{drop-map, take-map, filter_map, cons_option, list_any, prefix_len}
use Rattle.mq_lexer.specs.declared.sorts.Token.{Token}
use Rattle.mq_lexer.specs.Lexemes.{Lexeme, lexeme}
use Rattle.mq_lexer.specs.Statements.{is_semicolon, put_first, parts, statement_of, statements, is_break, is_no_break}

abbrev goes_on : Lexeme → Bool
goes_on t = not (is_semicolon t)

-- `;` signs at the front are passed over
past_breaks : (ts : List Lexeme) → statements ts ≡ statements (drop (prefix_len is_semicolon ts) ts)
unfolding statements
past_breaks [] = refl
past_breaks (t ∷ ts) =
    elim (is_semicolon t) as (λ q. (is_semicolon t ≡ q) → filter_map statement_of (cond q ([] ∷ parts ts) (put_first t (parts ts))) ≡ filter_map statement_of (parts (drop (cond q (1 + prefix_len is_semicolon ts) 0) (t ∷ ts)))) [
      | true ↦ λ e. let one : 1 + prefix_len is_semicolon ts ≡ suc (prefix_len is_semicolon ts) = omega arith in rw one (past_breaks ts)
      | false ↦ λ e. rw e refl
    ] refl

-- behind the `;` signs at the front stands a token that goes on, or nothing
no_more : (ts : List Lexeme) → prefix_len goes_on (drop (prefix_len is_semicolon ts) ts) ≡ 0 → drop (prefix_len is_semicolon ts) ts ≡ []
no_more [] none = refl
no_more (t ∷ ts) none =
    elim (is_semicolon t) as (λ q. (is_semicolon t ≡ q) → prefix_len goes_on (drop (cond q (1 + prefix_len is_semicolon ts) 0) (t ∷ ts)) ≡ 0 → drop (cond q (1 + prefix_len is_semicolon ts) 0) (t ∷ ts) ≡ []) [
      | true ↦ λ e. let one : 1 + prefix_len is_semicolon ts ≡ suc (prefix_len is_semicolon ts) = omega arith in rw one (no_more ts)
      | false ↦ λ e. rw e (λ z. absurd (omega arith))
    ] refl none

prepend : List Lexeme → List (List Lexeme) → List (List Lexeme)
prepend [] ps = ps
prepend (t ∷ ts) ps = put_first t (prepend ts ps)

prepend-nil : (ts : List Lexeme) (ps : List (List Lexeme)) → prepend ts ([] ∷ ps) ≡ ts ∷ ps
unfolding prepend
prepend-nil [] ps = refl
prepend-nil (t ∷ ts) ps = ap (put_first t) (prepend-nil ts ps)

-- up to the next `;`
parts-goes_on : (ts : List Lexeme) → parts ts ≡ prepend (take (prefix_len goes_on ts) ts) (parts (drop (prefix_len goes_on ts) ts))
unfolding prepend
parts-goes_on [] = refl
parts-goes_on (t ∷ ts) =
    elim (is_semicolon t) as (λ q. (is_semicolon t ≡ q) → cond q ([] ∷ parts ts) (put_first t (parts ts)) ≡ prepend (take (cond (not q) (1 + prefix_len goes_on ts) 0) (t ∷ ts)) (parts (drop (cond (not q) (1 + prefix_len goes_on ts) 0) (t ∷ ts)))) [
      | true ↦ λ e. rw e refl
      | false ↦ λ e. let one : 1 + prefix_len goes_on ts ≡ suc (prefix_len goes_on ts) = omega arith in rw one (ap (put_first t) (parts-goes_on ts))
    ] refl

-- there a part begins that is empty
closes : (ts : List Lexeme) → (ps : List (List Lexeme)) × (parts (drop (prefix_len goes_on ts) ts) ≡ [] ∷ ps)
closes [] = ([], refl)
closes (t ∷ ts) =
    elim (is_semicolon t) as (λ q. (is_semicolon t ≡ q) → (ps : List (List Lexeme)) × (parts (drop (cond (not q) (1 + prefix_len goes_on ts) 0) (t ∷ ts)) ≡ [] ∷ ps)) [
      | true ↦ λ e. (parts ts, rw e refl)
      | false ↦ λ e. let one : 1 + prefix_len goes_on ts ≡ suc (prefix_len goes_on ts) = omega arith in rw one (closes ts)
    ] refl

-- the tokens up to the next `;` are the first statement, if there are any
first_part : (ts : List Lexeme) → statements ts ≡ cons_option (statement_of (take (prefix_len goes_on ts) ts)) (statements (drop (prefix_len goes_on ts) ts))
unfolding statements
first_part ts =
    let n = prefix_len goes_on ts in
    let c = closes ts in
    let whole : parts ts ≡ take n ts ∷ c.0 = parts-goes_on ts ∙ ap (prepend (take n ts)) c.1 ∙ prepend-nil (take n ts) c.0 in
    ap (filter_map statement_of) whole ∙ ap (λ ps. cons_option (statement_of (take n ts)) (filter_map statement_of ps)) (sym c.1)

-- the same of tokens that lie in a text
breaks-map : (zs : List Token) → prefix_len is_semicolon (map lexeme zs) ≡ prefix_len is_break zs
breaks-map [] = refl
breaks-map (z ∷ zs) = ap (λ n. cond (is_break z) (1 + n) 0) (breaks-map zs)

goes_on-map : (zs : List Token) → prefix_len goes_on (map lexeme zs) ≡ prefix_len is_no_break zs
goes_on-map [] = refl
goes_on-map (z ∷ zs) = ap (λ n. cond (is_no_break z) (1 + n) 0) (goes_on-map zs)

-- where the first token that goes on is
behind_breaks : (zs : List Token) (at from : ℕ) → from ≡ at + prefix_len is_break (drop at zs)
    → (drop from (map lexeme zs) ≡ drop (prefix_len is_semicolon (drop at (map lexeme zs))) (drop at (map lexeme zs)))
behind_breaks zs at from is =
    let here : prefix_len is_semicolon (drop at (map lexeme zs)) ≡ prefix_len is_break (drop at zs) = ap (prefix_len is_semicolon) (drop-map lexeme at zs) ∙ breaks-map (drop at zs) in
    ap (λ n. drop n (map lexeme zs)) (is ∙ ap (λ n. at + n) (sym here)) ∙ sym (drop-drop (prefix_len is_semicolon (drop at (map lexeme zs))) at (map lexeme zs))

pub next_none : (zs : List Token) (at from end : ℕ) → from ≡ at + prefix_len is_break (drop at zs) → end ≡ from + prefix_len is_no_break (drop from zs) → from ≡ end
    → statements (drop at (map lexeme zs)) ≡ []
unfolding statements
next_none zs at from end from-is end-is same =
    let A = drop at (map lexeme zs) in
    let behind = behind_breaks zs at from from-is in
    let none : prefix_len is_no_break (drop from zs) ≡ 0 = omega arith in
    let stops : prefix_len goes_on (drop (prefix_len is_semicolon A) A) ≡ 0 =
    ap (prefix_len goes_on) (sym behind ∙ drop-map lexeme from zs) ∙ goes_on-map (drop from zs) ∙ none in
    past_breaks A ∙ ap statements (no_more A stops)

-- tokens that begin a statement
statement_of-take : (m : ℕ) (zs : List Token) (d : Token) → 1 ≤ m → 0 < length zs → statement_of (take m (map lexeme zs)) ≡ Some (record { tokens = map lexeme (take m zs); line = (get_or zs 0 d).line })
statement_of-take m [] d some more = absurd (omega arith)
statement_of-take zero (z ∷ zs) d some more = absurd (omega arith)
statement_of-take (suc m) (z ∷ zs) d some more = ap (λ ts. Some (record { tokens = lexeme z ∷ ts; line = z.line })) (take-map lexeme m zs)

pub next_some : (zs : List Token) (d : Token) (at from end : ℕ) → from ≡ at + prefix_len is_break (drop at zs) → end ≡ from + prefix_len is_no_break (drop from zs)
    → from < end → end ≤ length zs
    → statements (drop at (map lexeme zs)) ≡ record { tokens = map lexeme (take (end - from) (drop from zs)); line = (get_or zs from d).line } ∷ statements (drop end (map lexeme zs))
next_some zs d at from end from-is end-is some within =
    let A = drop at (map lexeme zs) in
    let m = prefix_len is_no_break (drop from zs) in
    let B = drop from (map lexeme zs) in
    let goes : statements A ≡ statements B = past_breaks A ∙ ap statements (sym (behind_breaks zs at from from-is)) in
    let view : B ≡ map lexeme (drop from zs) = drop-map lexeme from zs in
    let count : prefix_len goes_on B ≡ m = ap (prefix_len goes_on) view ∙ goes_on-map (drop from zs) in
    let size : m ≡ end - from = omega arith in
    let left : drop m B ≡ drop end (map lexeme zs) = drop-drop m from (map lexeme zs) ∙ ap (λ n. drop n (map lexeme zs)) (sym end-is) in
    let first : get_or (drop from zs) 0 d ≡ get_or zs from d = get_or-drop from zs 0 d ∙ ap (λ i. get_or zs i d) (add-zero from) in
    let front : statement_of (take m B) ≡ Some (record { tokens = map lexeme (take (end - from) (drop from zs)); line = (get_or zs from d).line }) =
    ap (λ l. statement_of (take m l)) view ∙ statement_of-take m (drop from zs) d (omega arith) (omega (arith, length-drop from zs))
    ∙ ap (λ n. Some (record { tokens = map lexeme (take n (drop from zs)); line = (get_or (drop from zs) 0 d).line })) size
    ∙ ap (λ z. Some (record { tokens = map lexeme (take (end - from) (drop from zs)); line = z.line })) first in
    goes ∙ first_part B ∙ ap (λ n. cons_option (statement_of (take n B)) (statements (drop n B))) count
    ∙ ap (λ o. cons_option o (statements (drop m B))) front
    ∙ ap (λ l. record { tokens = map lexeme (take (end - from) (drop from zs)); line = (get_or zs from d).line } ∷ statements l) left

-- tokens among which no `;` is are a part
none_there : (a b : Bool) → (a || b) ≡ false → (a ≡ false) × (b ≡ false)
none_there true b h = absurd (cc)
none_there false b h = (refl, h)

parts_closed : (ts : List Lexeme) (t : Lexeme) (ys : List Lexeme) → list_any is_semicolon ts ≡ false → is_semicolon t ≡ true → parts (ts ++ t ∷ ys) ≡ ts ∷ parts ys
parts_closed [] t ys none is = rw is refl
parts_closed (x ∷ ts) t ys none is =
    let here = none_there (is_semicolon x) (list_any is_semicolon ts) none in
    rw here.0 (ap (put_first x) (parts_closed ts t ys here.1 is))

parts_last : (ts : List Lexeme) → list_any is_semicolon ts ≡ false → parts ts ≡ ts ∷ []
parts_last [] none = refl
parts_last (x ∷ ts) none =
    let here = none_there (is_semicolon x) (list_any is_semicolon ts) none in
    rw here.0 (ap (put_first x) (parts_last ts here.1))

-- the part of a text up to a `;`, and up to its end
pub part_closed : (all ts ys : List Lexeme) (t : Lexeme) → all ≡ ts ++ t ∷ ys → list_any is_semicolon ts ≡ false → is_semicolon t ≡ true
    → statements all ≡ cons_option (statement_of ts) (statements ys)
unfolding statements
part_closed all ts ys t e none is = ap (λ l. filter_map statement_of (parts l)) e ∙ ap (filter_map statement_of) (parts_closed ts t ys none is)

pub part_last : (all ts ys : List Lexeme) → all ≡ ts ++ ys → ys ≡ [] → list_any is_semicolon ts ≡ false → statements all ≡ cons_option (statement_of ts) (statements ys)
unfolding statements
part_last all ts ys e l none =
    ap (λ l. filter_map statement_of (parts l)) (e ∙ ap (λ l. ts ++ l) l ∙ append-nil ts) ∙ ap (filter_map statement_of) (parts_last ts none)
    ∙ ap (λ l. cons_option (statement_of ts) (filter_map statement_of (parts l))) (sym l)
