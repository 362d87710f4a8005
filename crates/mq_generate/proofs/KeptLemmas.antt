-- What is kept once a piece was taken.
use mir.Val.{bool_byte}
use Rattle.std.proofs.Common.{◌≡◌, ℕ, ◌+◌, ◌≤◌, Bool, true, false, List, [], ◌++◌, length, take, Option, sym, ap, ◌∙◌, arith, length-append}
use Rattle.std.specs.Prelude.{count_by, if◌then◌else◌}
use Rattle.std.specs.Option.{option_or}
use Rattle.std.proofs.Math.Seq.{take-length}
use Rattle.std.proofs.lemmas.List.Sums.{count_by-le-length}
use Rattle.mq_generate.specs.Summary.{ended_lines, last_row, lines_of, open_line}
use Rattle.mq_generate.proofs.SummaryLemmas.{count_by-open, counted_more, few_counted, few_lines, last_more, open_line-append}

-- what was noted of the whole piece, behind the line that had begun
pub counted_sum : (p : List ℕ → Bool) (all piece begun front : List ℕ) (n m : ℕ) → begun ≡ open_line [] all → front ≡ begun
    → n ≡ count_by p (ended_lines [] all) → m ≡ count_by p (ended_lines front (take (length piece) piece)) → n + m ≡ count_by p (ended_lines [] (all ++ piece))
counted_sum p all piece begun front n m is same before more =
    ap (λ k. k + m) before ∙ ap (λ k. count_by p (ended_lines [] all) + k) (more ∙ ap (λ xs. count_by p (ended_lines front xs)) (take-length piece))
    ∙ sym (counted_more p all piece front (same ∙ is))

pub few_sum : (p : List ℕ → Bool) (all piece begun front : List ℕ) (n m : ℕ) → begun ≡ open_line [] all → front ≡ begun
    → n ≡ count_by p (ended_lines [] all) → m ≡ count_by p (ended_lines front (take (length piece) piece)) → n + m ≤ length all + length piece
few_sum p all piece begun front n m is same before more =
    omega (arith, counted_sum p all piece begun front n m is same before more, few_counted p (all ++ piece), length-append all piece)

pub row_after : (all piece begun front : List ℕ) (row later new : Option (List ℕ)) → begun ≡ open_line [] all → front ≡ begun
    → row ≡ last_row (ended_lines [] all) → later ≡ last_row (ended_lines front (take (length piece) piece)) → new ≡ option_or later row
    → new ≡ last_row (ended_lines [] (all ++ piece))
row_after all piece begun front row later new is same before more put =
    put ∙ ap (λ o. option_or o row) (more ∙ ap (λ xs. last_row (ended_lines front xs)) (take-length piece))
    ∙ ap (option_or (last_row (ended_lines front piece))) before ∙ sym (last_more all piece front (same ∙ is))

pub begun_after : (all piece begun front text : List ℕ) → begun ≡ open_line [] all → front ≡ begun → text ≡ open_line front (take (length piece) piece)
    → text ≡ open_line [] (all ++ piece)
begun_after all piece begun front text is same more =
    more ∙ ap (open_line front) (take-length piece) ∙ ap (λ f. open_line f piece) (same ∙ is) ∙ sym (open_line-append [] all piece)

-- the line that has begun is counted where it has bytes
pub counted_all : (p : List ℕ → Bool) (all begun : List ℕ) (n : ℕ) → p [] ≡ false → begun ≡ open_line [] all → n ≡ count_by p (ended_lines [] all)
    → n + (if p begun then 1 else 0) ≡ count_by p (lines_of all)
counted_all p all begun n none is before =
    ap (λ k. k + (if p begun then 1 else 0)) before ∙ ap (λ line. count_by p (ended_lines [] all) + (if p line then 1 else 0)) is
    ∙ sym (count_by-open p none (ended_lines [] all) (open_line [] all))

pub few_all : (p : List ℕ → Bool) (all begun : List ℕ) (n : ℕ) → p [] ≡ false → begun ≡ open_line [] all → n ≡ count_by p (ended_lines [] all)
    → n + (if p begun then 1 else 0) ≤ length all
few_all p all begun n none is before =
    omega (arith, counted_all p all begun n none is before, count_by-le-length p (lines_of all), few_lines all)

-- a truth as a number
pub number_of : (n : ℕ) (t u : Bool) → n ≡ bool_byte t → t ≡ u → n ≡ (if u then 1 else 0)
number_of n true u is same = is ∙ ap (λ t. if t then 1 else 0) same
number_of n false u is same = is ∙ ap (λ t. if t then 1 else 0) same
