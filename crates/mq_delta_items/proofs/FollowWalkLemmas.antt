-- The walks that let lines follow a change, step by step.
use Rattle.std.proofs.Common.{◌≡◌, ℕ, zero, suc, ◌+◌, ◌-◌, ◌<◌, ◌≤◌, Bool, true, false, not, List, [], ◌∷◌, ◌++◌, length, map, get_or, set}
use Rattle.std.proofs.Common.{Option, Some, None, Ok, refl, sym, ap, ◌∙◌, arith, append_assoc, length-append}
use Rattle.std.specs.Prelude.{if◌then◌else◌}
use Rattle.std.specs.List.{filter}
use Rattle.std.proofs.lemmas.List.{map-append}
use Rattle.std.proofs.lemmas.List.Elements.{filter-append, filter_map-append}
use Rattle.mq_ir.specs.Keys.{Tuple}
use Rattle.mq_scalar.specs.WalkLaws.{Walked, walk_next}
use Rattle.mq_delta_items.specs.Following.{LineOf, stay_of, went_of}
use Rattle.mq_delta_items.specs.Lines.{items_in}

-- what a query makes of a row
abbrev pub Line : Type 0
Line = Option Tuple

-- ---- how many rows are taken
pub items_more : (lines more : List Line) → items_in (lines ++ more) ≡ items_in lines ++ items_in more
items_more lines more = filter_map-append (λ line. line) lines more

one_more : (line : Line) (lines : List Line) → length (items_in (line ∷ lines)) ≡ length (items_in (line ∷ [])) + length (items_in lines)
one_more None lines = omega arith
one_more (Some item) lines = omega arith

pub at_most_all : (lines : List Line) → length (items_in lines) ≤ length lines
at_most_all [] = omega arith
at_most_all (None ∷ lines) = let h = at_most_all lines in omega (arith, h)
at_most_all (Some item ∷ lines) = let h = at_most_all lines in omega (arith, h)

-- of lines of which one is put in the place of another
pub taken_put : (lines : List Line) (place : ℕ) (line : Line) → place < length lines
    → length (items_in (set lines place line)) + length (items_in (get_or lines place None ∷ []))
    ≡ length (items_in lines) + length (items_in (line ∷ []))
taken_put [] place line h = absurd (omega (arith, h))
taken_put (l ∷ lines) zero line h = let a = one_more line lines in let b = one_more l lines in omega (arith, a, b)
taken_put (l ∷ lines) (suc place) line h =
    let rest = taken_put lines place line (omega (arith, h)) in
    let a = one_more l (set lines place line) in
    let b = one_more l lines in
    omega (arith, a, b, rest)

pub old_taken : (lines : List Line) (place : ℕ) → place < length lines
    → length (items_in (get_or lines place None ∷ [])) ≤ length (items_in lines)
old_taken lines place h = let t = taken_put lines place None h in omega (arith, t)

pub put_counts : (lines after : List Line) (place : ℕ) (line old : Line) (taken more less : ℕ) → place < length lines
    → after ≡ set lines place line → old ≡ get_or lines place None → taken ≡ length (items_in lines)
    → more ≡ length (items_in (line ∷ [])) → less ≡ length (items_in (old ∷ []))
    → (less ≤ taken) × (taken - less + more ≡ length (items_in after))
put_counts lines after place line old taken more less h a o t m l =
    let sum = taken_put lines place line h in
    let few = old_taken lines place h in
    let after_is = ap (λ (ls : List Line). length (items_in ls)) a in
    let old_is = ap (λ (it : Line). length (items_in (it ∷ []))) o in
    (omega (arith, few, t, l, old_is), omega (arith, few, sum, t, m, l, old_is, after_is))

-- of lines of which one comes behind
pub taken_behind : (lines after : List Line) (line : Line) (taken more : ℕ) → after ≡ lines ++ line ∷ [] → taken ≡ length (items_in lines)
    → more ≡ length (items_in (line ∷ [])) → taken + more ≡ length (items_in after)
taken_behind lines after line taken more e t m =
    let a = ap (λ l. length (items_in l)) e ∙ ap length (items_more lines (line ∷ [])) ∙ length-append (items_in lines) (items_in (line ∷ [])) in
    omega (arith, a, t, m)

-- ---- rows that came
-- the lines of the first i rows are put behind the old ones
pub record Adding (f : LineOf) (rows : List Tuple) (i : ℕ) (old now : List Line) (come : List Tuple) : Type 0 where
  pub new : List Line
  pub walk : Walked f rows i new
  pub lines : now ≡ old ++ new
  pub items : come ≡ items_in new

module _ (f : LineOf) (rows : List Tuple) (old : List Line) where
  pub adding_next : (i : ℕ) (now after : List Line) (come more : List Tuple) (row : Tuple) (line : Line) → i < length rows
      → row ≡ get_or rows i row → f row ≡ Ok line → after ≡ now ++ line ∷ [] → more ≡ come ++ items_in (line ∷ [])
      → Adding f rows i old now come → Adding f rows (i + 1) old after more
  adding_next i now after come more row line h e g a m w = record {
    new = w.new ++ line ∷ [];
    walk = walk_next f rows i w.new row line h e g w.walk;
    lines = a ∙ ap (λ l. l ++ line ∷ []) w.lines ∙ append_assoc old w.new (line ∷ []);
    items = m ∙ ap (λ l. l ++ items_in (line ∷ [])) w.items ∙ sym (items_more w.new (line ∷ []));
  }

-- ---- rows that went
module _ (flags : List Bool) (lines : List (ℕ × Line)) (at : ℕ) (line : Line) where
  abbrev is_gone : ℕ × Line → Bool
  is_gone pair = get_or flags pair.0 false

  abbrev line_in : ℕ × Line → Line
  line_in pair = pair.1

  one_stays : (b : Bool) → map line_in (if not b then (at, line) ∷ [] else []) ≡ (if b then [] else line ∷ [])
  one_stays true = refl
  one_stays false = refl

  one_went : (b : Bool) → items_in (map line_in (if b then (at, line) ∷ [] else [])) ≡ (if b then items_in (line ∷ []) else [])
  one_went true = refl
  one_went false = refl

  pub stay_more : stay_of flags (lines ++ (at, line) ∷ []) ≡ stay_of flags lines ++ (if get_or flags at false then [] else line ∷ [])
  stay_more =
      ap (map line_in) (filter-append (λ pair. not (is_gone pair)) lines ((at, line) ∷ []))
      ∙ map-append line_in (filter (λ pair. not (is_gone pair)) lines) (if not (get_or flags at false) then (at, line) ∷ [] else [])
      ∙ ap (λ l. stay_of flags lines ++ l) (one_stays (get_or flags at false))

  pub went_more : items_in (went_of flags (lines ++ (at, line) ∷ []))
      ≡ items_in (went_of flags lines) ++ (if get_or flags at false then items_in (line ∷ []) else [])
  went_more =
      ap (λ l. items_in (map line_in l)) (filter-append is_gone lines ((at, line) ∷ []))
      ∙ ap items_in (map-append line_in (filter is_gone lines) (if get_or flags at false then (at, line) ∷ [] else []))
      ∙ items_more (went_of flags lines) (map line_in (if get_or flags at false then (at, line) ∷ [] else []))
      ∙ ap (λ l. items_in (went_of flags lines) ++ l) (one_went (get_or flags at false))

-- one turn more, behind these lines and items
pub stay_next : (flags : List Bool) (front now after : List Line) (pairs : List (ℕ × Line)) (at : ℕ) (line : Line) (b : Bool)
    → now ≡ front ++ stay_of flags pairs → b ≡ get_or flags at false → after ≡ now ++ (if b then [] else line ∷ [])
    → after ≡ front ++ stay_of flags (pairs ++ (at, line) ∷ [])
stay_next flags front now after pairs at line b n e a =
    let more = if get_or flags at false then [] else line ∷ [] in
    a
    ∙ (λ i. n i ++ (if e i then [] else line ∷ []))
    ∙ append_assoc front (stay_of flags pairs) more
    ∙ ap (λ l. front ++ l) (sym (stay_more flags pairs at line))

pub went_next : (flags : List Bool) (now after : List Tuple) (pairs : List (ℕ × Line)) (at : ℕ) (line : Line) (b : Bool)
    → now ≡ items_in (went_of flags pairs) → b ≡ get_or flags at false → after ≡ now ++ (if b then items_in (line ∷ []) else [])
    → after ≡ items_in (went_of flags (pairs ++ (at, line) ∷ []))
went_next flags now after pairs at line b n e a = a ∙ (λ i. n i ++ (if e i then items_in (line ∷ []) else [])) ∙ sym (went_more flags pairs at line)
