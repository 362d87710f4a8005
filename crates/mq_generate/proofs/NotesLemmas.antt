-- What is noted of one byte more.
use Rattle.std.proofs.Common.{◌≡◌, ℕ, ◌+◌, ◌-◌, ◌<◌, ◌≤◌, Bool, true, false, List, [], ◌∷◌, ◌++◌, length, take, drop, get_or, Option, None, Some, refl, sym, ap, ◌∙◌, arith, eq-eqb, append-nil, append_assoc, length-take, length-drop}
use Rattle.std.specs.Prelude.{◌==◌, IfSome, count_by, option_map, if◌then◌else◌}
use Rattle.std.specs.List.{slice_range}
use Rattle.std.proofs.lemmas.List.{get_or-drop, take_more}
use Rattle.std.proofs.lemmas.List.Sums.{count_by-le-length}
use Rattle.std.proofs.lemmas.Bool.Decides.{nat_tests}
use Rattle.mq_values.specs.Bytes.{LINE_FEED}
use Rattle.mq_generate.specs.Summary.{ended_lines, is_error, is_fault, is_row, last_row, open_line}
use Rattle.mq_generate.specs.Notes.{IsNoted, IsWithin, front_at, notes_with_line, text_of}
use Rattle.mq_generate.specs.declared.lines.Span.{Span}
use Rattle.mq_generate.specs.declared.lines.Notes.{Notes}
use Rattle.mq_generate.proofs.SummaryLemmas.{count_by-snoc, ended_lines-feed, ended_lines-other, few_ended, last_row-snoc, open_line-feed, open_line-other}

is_feed : (b : ℕ) → b ≡ LINE_FEED → (b == LINE_FEED) ≡ true
is_feed b is = eq-eqb b LINE_FEED is

is_other : (b : ℕ) → (b ≡ LINE_FEED → ⊥) → (b == LINE_FEED) ≡ false
is_other b other = grind (arith, nat_tests)

abbrev line_at : ℕ → ℕ → Span
line_at start end = record { start = start; end = end }

slice_more : (piece : List ℕ) (start at : ℕ) → start ≤ at → at < length piece → slice_range piece start (at + 1) ≡ slice_range piece start at ++ get_or piece at 0 ∷ []
slice_more piece start at le lt =
    let one : at + 1 - start ≡ at - start + 1 = omega arith in
    let there : at - start < length (drop start piece) = omega (arith, length-drop start piece) in
    let place : start + (at - start) ≡ at = omega arith in
    ap (λ n. take n (drop start piece)) one ∙ take_more (drop start piece) (at - start) 0 there
    ∙ ap (λ x. take (at - start) (drop start piece) ++ x ∷ []) (get_or-drop start piece (at - start) 0 ∙ ap (λ n. get_or piece n 0) place)

-- a line goes on
text_more : (front piece : List ℕ) (start at : ℕ) → start ≤ at → at < length piece → text_of front piece (line_at start (at + 1)) ≡ text_of front piece (line_at start at) ++ get_or piece at 0 ∷ []
text_more front piece start at le lt =
    ap (λ l. front_at front start ++ l) (slice_more piece start at le lt) ∙ sym (append_assoc (front_at front start) (slice_range piece start at) (get_or piece at 0 ∷ []))

-- a line starts
text_new : (front piece : List ℕ) (at : ℕ) → text_of front piece (line_at (at + 1) (at + 1)) ≡ []
text_new front piece at =
    let none : at + 1 - (at + 1) ≡ 0 = omega arith in
    let later : (at + 1 == 0) ≡ false = grind (arith, nat_tests) in
    ap (λ t. (if t then front else []) ++ slice_range piece (at + 1) (at + 1)) later ∙ ap (λ n. take n (drop (at + 1) piece)) none

-- before the first byte
pub noted_none : (front piece : List ℕ) → IsNoted front piece 0 (record { errors = 0; faults = 0; row = None; start = 0 })
noted_none front piece = record {
  errors = refl;
  faults = refl;
  row = refl;
  place = tt;
  within = omega arith;
  begun = append-nil front;
}

-- a byte that ends no line
pub noted_other : (front piece : List ℕ) (at : ℕ) (notes : Notes) → IsNoted front piece at notes → at < length piece → (get_or piece at 0 ≡ LINE_FEED → ⊥) → IsNoted front piece (at + 1) notes
noted_other front piece at notes h lt differs =
    let other : (get_or piece at 0 == LINE_FEED) ≡ false = is_other (get_or piece at 0) differs in
    let more : take (at + 1) piece ≡ take at piece ++ get_or piece at 0 ∷ [] = take_more piece at 0 lt in
    let same : ended_lines front (take (at + 1) piece) ≡ ended_lines front (take at piece)
    = ap (ended_lines front) more ∙ ended_lines-other front (take at piece) (get_or piece at 0) other in
    record {
      errors = h.errors ∙ ap (count_by is_error) (sym same);
      faults = h.faults ∙ ap (count_by is_fault) (sym same);
      row = h.row ∙ ap last_row (sym same);
      place = h.place;
      within = omega (arith, h.within);
      begun = text_more front piece notes.start at h.within lt ∙ ap (λ l. l ++ get_or piece at 0 ∷ []) h.begun
          ∙ sym (ap (open_line front) more ∙ open_line-other front (take at piece) (get_or piece at 0) other);
    }

row_noted : (front piece : List ℕ) (notes : Notes) (line : Span) (ended : List (List ℕ)) → option_map (text_of front piece) notes.row ≡ last_row ended
    → option_map (text_of front piece) (if is_row (text_of front piece line) then Some line else notes.row)
    ≡ (if is_row (text_of front piece line) then Some (text_of front piece line) else last_row ended)
row_noted front piece notes line ended is =
    elim (is_row (text_of front piece line)) as (λ t. option_map (text_of front piece) (if t then Some line else notes.row)
    ≡ (if t then Some (text_of front piece line) else last_row ended)) [ true ↦ refl | false ↦ is ]

place_noted : (piece : List ℕ) (row : Option Span) (line : Span) (t : Bool) → IfSome row (IsWithin piece) → IsWithin piece line → IfSome (if t then Some line else row) (IsWithin piece)
place_noted piece row line true old new = new
place_noted piece row line false old new = old

-- a byte that ends one
pub noted_feed : (front piece : List ℕ) (at : ℕ) (notes : Notes) → IsNoted front piece at notes → at < length piece → get_or piece at 0 ≡ LINE_FEED
    → IsNoted front piece (at + 1) (notes_with_line front piece notes at)
noted_feed front piece at notes h lt same =
    let feed : (get_or piece at 0 == LINE_FEED) ≡ true = is_feed (get_or piece at 0) same in
    let more : take (at + 1) piece ≡ take at piece ++ get_or piece at 0 ∷ [] = take_more piece at 0 lt in
    let line : Span = line_at notes.start at in
    let text : List ℕ = text_of front piece line in
    let ended : List (List ℕ) = ended_lines front (take at piece) in
    let new : ended_lines front (take (at + 1) piece) ≡ ended ++ text ∷ []
    = ap (ended_lines front) more ∙ ended_lines-feed front (take at piece) (get_or piece at 0) feed ∙ ap (λ o. ended ++ o ∷ []) (sym h.begun) in
    record {
      errors = ap (λ n. n + (if is_error text then 1 else 0)) h.errors ∙ sym (ap (count_by is_error) new ∙ count_by-snoc is_error ended text);
      faults = ap (λ n. n + (if is_fault text then 1 else 0)) h.faults ∙ sym (ap (count_by is_fault) new ∙ count_by-snoc is_fault ended text);
      row = row_noted front piece notes line ended h.row ∙ sym (ap last_row new ∙ last_row-snoc ended text);
      place = place_noted piece notes.row line (is_row text) h.place (record { ordered = h.within; inside = omega (arith, lt) });
      within = omega arith;
      begun = text_new front piece at ∙ sym (ap (open_line front) more ∙ open_line-feed front (take at piece) (get_or piece at 0) feed);
    }

few_read : (p : List ℕ → Bool) (front piece : List ℕ) (at : ℕ) → count_by p (ended_lines front (take at piece)) ≤ at
few_read p front piece at =
    omega (arith, count_by-le-length p (ended_lines front (take at piece)), few_ended front (take at piece), length-take at piece)

-- no more is noted than was read
pub few_errors : (front piece : List ℕ) (at : ℕ) (notes : Notes) → IsNoted front piece at notes → notes.errors ≤ at
few_errors front piece at notes h = rw h.errors (few_read is_error front piece at)

pub few_faults : (front piece : List ℕ) (at : ℕ) (notes : Notes) → IsNoted front piece at notes → notes.faults ≤ at
few_faults front piece at notes h = rw h.faults (few_read is_fault front piece at)
