-- The lines of bytes that come one after another, and what is counted of them.
use Rattle.std.proofs.Common.{◌≡◌, ℕ, ◌+◌, ◌≤◌, Bool, true, false, List, [], ◌∷◌, ◌++◌, length, Option, None, Some, cond, refl, sym, ap, ◌∙◌, arith, append-nil, length-append}
use Rattle.std.specs.Prelude.{◌==◌, count_by, fold, if◌then◌else◌}
use Rattle.std.specs.Option.{option_or}
use Rattle.std.proofs.lemmas.List.Sums.{count_by-le-length, fold-append, sum_by-append}
use Rattle.mq_values.specs.Bytes.{LINE_FEED}
use Rattle.mq_generate.specs.Summary.{ended_lines, is_row, last_row, later_row, line_if_any, lines_of, open_line}

-- the lines that end in the first bytes, and then those that end in the others behind the open one
pub ended_lines-append : (front xs ys : List ℕ) → ended_lines front (xs ++ ys) ≡ ended_lines front xs ++ ended_lines (open_line front xs) ys
ended_lines-append front [] ys = refl
ended_lines-append front (b ∷ xs) ys =
    elim (b == LINE_FEED) as (λ t. (if t then front ∷ ended_lines [] (xs ++ ys) else ended_lines (front ++ b ∷ []) (xs ++ ys))
    ≡ (if t then front ∷ ended_lines [] xs else ended_lines (front ++ b ∷ []) xs)
    ++ ended_lines (if t then open_line [] xs else open_line (front ++ b ∷ []) xs) ys)
    [ true ↦ ap (λ l. front ∷ l) (ended_lines-append [] xs ys) | false ↦ ended_lines-append (front ++ b ∷ []) xs ys ]

pub open_line-append : (front xs ys : List ℕ) → open_line front (xs ++ ys) ≡ open_line (open_line front xs) ys
open_line-append front [] ys = refl
open_line-append front (b ∷ xs) ys =
    elim (b == LINE_FEED) as (λ t. (if t then open_line [] (xs ++ ys) else open_line (front ++ b ∷ []) (xs ++ ys))
    ≡ open_line (if t then open_line [] xs else open_line (front ++ b ∷ []) xs) ys)
    [ true ↦ open_line-append [] xs ys | false ↦ open_line-append (front ++ b ∷ []) xs ys ]

-- each line that ends has a byte that ends it
pub few_ended : (front bytes : List ℕ) → length (ended_lines front bytes) ≤ length bytes
few_ended front [] = omega arith
few_ended front (b ∷ bytes) =
    let fed : length (ended_lines [] bytes) ≤ length bytes = few_ended [] bytes in
    let other : length (ended_lines (front ++ b ∷ []) bytes) ≤ length bytes = few_ended (front ++ b ∷ []) bytes in
    elim (b == LINE_FEED) as (λ t. length (if t then front ∷ ended_lines [] bytes else ended_lines (front ++ b ∷ []) bytes) ≤ length (b ∷ bytes))
    [ true ↦ omega arith | false ↦ omega arith ]

-- no line has no byte
pub few_with_open : (front bytes : List ℕ) → length (ended_lines front bytes) + length (open_line front bytes) ≤ length front + length bytes
few_with_open front [] = omega arith
few_with_open front (b ∷ bytes) =
    let fed : length (ended_lines [] bytes) + length (open_line [] bytes) ≤ length {A = ℕ} [] + length bytes = few_with_open [] bytes in
    let other : length (ended_lines (front ++ b ∷ []) bytes) + length (open_line (front ++ b ∷ []) bytes) ≤ length (front ++ b ∷ []) + length bytes
    = few_with_open (front ++ b ∷ []) bytes in
    elim (b == LINE_FEED) as (λ t. length (if t then front ∷ ended_lines [] bytes else ended_lines (front ++ b ∷ []) bytes)
    + length (if t then open_line [] bytes else open_line (front ++ b ∷ []) bytes) ≤ length front + length (b ∷ bytes))
    [ true ↦ omega arith | false ↦ omega (arith, length-append front (b ∷ [])) ]

few_if_any : (line : List ℕ) → length (line_if_any line) ≤ length line
few_if_any [] = omega arith
few_if_any (b ∷ bytes) = omega arith

-- there are at most as many lines as bytes
pub few_lines : (output : List ℕ) → length (lines_of output) ≤ length output
few_lines output =
    omega (arith, few_with_open [] output, few_if_any (open_line [] output), length-append (ended_lines [] output) (line_if_any (open_line [] output)))

-- what is counted of lines, and then of others
pub count_by-append : (p : List ℕ → Bool) (xs ys : List (List ℕ)) → count_by p (xs ++ ys) ≡ count_by p xs + count_by p ys
count_by-append p xs ys = sum_by-append (λ x. cond (p x) 1 0) xs ys

pub count_by-snoc : (p : List ℕ → Bool) (xs : List (List ℕ)) (line : List ℕ) → count_by p (xs ++ line ∷ []) ≡ count_by p xs + (if p line then 1 else 0)
count_by-snoc p xs line =
    let one : count_by p (line ∷ []) ≡ (if p line then 1 else 0) = omega arith in
    count_by-append p xs (line ∷ []) ∙ ap (λ n. count_by p xs + n) one

-- an open line counts as one that ends
pub count_by-open : (p : List ℕ → Bool) → p [] ≡ false → (xs : List (List ℕ)) (line : List ℕ) → count_by p (xs ++ line_if_any line) ≡ count_by p xs + (if p line then 1 else 0)
count_by-open p none xs [] =
    let same : count_by p xs ≡ count_by p xs + 0 = omega arith in
    ap (count_by p) (append-nil xs) ∙ same ∙ ap (λ t. count_by p xs + (if t then 1 else 0)) (sym none)
count_by-open p none xs (b ∷ bytes) = count_by-snoc p xs (b ∷ bytes)

some_stays : (first : Option (List ℕ)) (line : List ℕ) (start : Option (List ℕ)) → option_or first (Some line) ≡ option_or (option_or first (Some line)) start
some_stays None line start = refl
some_stays (Some other) line start = refl

-- the last row, where there was a row before
last_from : (start : Option (List ℕ)) (lines : List (List ℕ)) → fold later_row start lines ≡ option_or (last_row lines) start
last_from start [] = refl
last_from start (line ∷ lines) =
    let e : fold later_row (Some line) lines ≡ option_or (last_row lines) (Some line) = last_from (Some line) lines in
    elim (is_row line) as (λ t. fold later_row (if t then Some line else start) lines ≡ option_or (fold later_row (if t then Some line else None) lines) start)
    [ true ↦ e ∙ some_stays (last_row lines) line start ∙ ap (λ o. option_or o start) (sym e) | false ↦ last_from start lines ]

pub last_row-append : (xs ys : List (List ℕ)) → last_row (xs ++ ys) ≡ option_or (last_row ys) (last_row xs)
last_row-append xs ys = fold-append later_row None xs ys ∙ last_from (last_row xs) ys

pub last_row-snoc : (xs : List (List ℕ)) (line : List ℕ) → last_row (xs ++ line ∷ []) ≡ (if is_row line then Some line else last_row xs)
last_row-snoc xs line = fold-append later_row None xs (line ∷ [])

-- a byte that ends no line
pub ended_lines-other : (front xs : List ℕ) (b : ℕ) → (b == LINE_FEED) ≡ false → ended_lines front (xs ++ b ∷ []) ≡ ended_lines front xs
ended_lines-other front xs b other =
    ended_lines-append front xs (b ∷ []) ∙ ap (λ t. ended_lines front xs ++ (if t then open_line front xs ∷ [] else [])) other ∙ append-nil (ended_lines front xs)

pub open_line-other : (front xs : List ℕ) (b : ℕ) → (b == LINE_FEED) ≡ false → open_line front (xs ++ b ∷ []) ≡ open_line front xs ++ b ∷ []
open_line-other front xs b other =
    open_line-append front xs (b ∷ []) ∙ ap (λ t. if t then [] else open_line front xs ++ b ∷ []) other

-- a byte that ends one
pub ended_lines-feed : (front xs : List ℕ) (b : ℕ) → (b == LINE_FEED) ≡ true → ended_lines front (xs ++ b ∷ []) ≡ ended_lines front xs ++ open_line front xs ∷ []
ended_lines-feed front xs b feed =
    ended_lines-append front xs (b ∷ []) ∙ ap (λ t. ended_lines front xs ++ (if t then open_line front xs ∷ [] else [])) feed

pub open_line-feed : (front xs : List ℕ) (b : ℕ) → (b == LINE_FEED) ≡ true → open_line front (xs ++ b ∷ []) ≡ []
open_line-feed front xs b feed =
    open_line-append front xs (b ∷ []) ∙ ap (λ t. if t then [] else open_line front xs ++ b ∷ []) feed

-- what is counted of a whole that comes in two pieces
pub counted_more : (p : List ℕ → Bool) (all piece begun : List ℕ) → begun ≡ open_line [] all
    → count_by p (ended_lines [] (all ++ piece)) ≡ count_by p (ended_lines [] all) + count_by p (ended_lines begun piece)
counted_more p all piece begun is =
    ap (count_by p) (ended_lines-append [] all piece) ∙ count_by-append p (ended_lines [] all) (ended_lines (open_line [] all) piece)
    ∙ ap (λ o. count_by p (ended_lines [] all) + count_by p (ended_lines o piece)) (sym is)

pub last_more : (all piece begun : List ℕ) → begun ≡ open_line [] all
    → last_row (ended_lines [] (all ++ piece)) ≡ option_or (last_row (ended_lines begun piece)) (last_row (ended_lines [] all))
last_more all piece begun is =
    ap last_row (ended_lines-append [] all piece) ∙ last_row-append (ended_lines [] all) (ended_lines (open_line [] all) piece)
    ∙ ap (λ o. option_or (last_row (ended_lines o piece)) (last_row (ended_lines [] all))) (sym is)

pub few_counted : (p : List ℕ → Bool) (all : List ℕ) → count_by p (ended_lines [] all) ≤ length all
few_counted p all = omega (arith, count_by-le-length p (ended_lines [] all), few_ended [] all)
