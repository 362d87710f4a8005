-- Lines row by row, as they are put behind each other.
use Rattle.std.proofs.Common.{◌≡◌, ℕ, ◌+◌, ◌<◌, ◌≤◌, Bool, true, false, List, [], ◌∷◌, ◌++◌, drop, get_or, length, take, Option, Some, None, Result, Ok, Err, refl, sym, ap, subst, ◌∙◌, arith}
use Rattle.std.specs.Prelude.{nat_lt, if◌then◌else◌}
use Rattle.std.specs.Option.{option_and_then}
use Rattle.std.specs.Result.{result_ok}
use Rattle.std.proofs.lemmas.List.{length-append, take_more}
use Rattle.std.proofs.lemmas.List.Elements.{filter_map-append}
use Rattle.mq_values.specs.declared.faults.FaultKind.{FaultKind}
use Rattle.mq_values.specs.declared.limits.TheConstants.{MAX_BASE_ROWS}
use Rattle.mq_values.specs.declared.memory.Fail.TheVariants as fail
use Rattle.mq_ir.specs.Keys.{Tuple}
use Rattle.mq_ir.specs.Results.{◌>>=◌, each}
use Rattle.mq_scalar.specs.WalkLaws.{Walked, walk_exit, walk_next}
use Rattle.mq_delta_items.specs.LineLaws.{few_were}
use Rattle.mq_delta_items.specs.Lines.{few, items_in}
use Rattle.mq_delta_items.specs.Lining.{if_put, with_line}

abbrev Lines : Type 0
Lines = List (Option Tuple)

-- ---- how many are taken
pub items_more : (lines more : Lines) → items_in (lines ++ more) ≡ items_in lines ++ items_in more
items_more lines more = filter_map-append (λ (line : Option Tuple). line) lines more

pub taken_more : (lines more : Lines) → length (items_in (lines ++ more)) ≡ length (items_in lines) + length (items_in more)
taken_more lines more = ap length (items_more lines more) ∙ length-append (items_in lines) (items_in more)

pub many_are : (lines : Lines) → MAX_BASE_ROWS < length (items_in lines) → few lines ≡ None
many_are lines h = by (nat_lt MAX_BASE_ROWS (length (items_in lines))) (grind (arith, h))
  where
    by : (b : Bool) → b ≡ true → (if b then None else Some lines) ≡ None
    by true e = refl
    by false e = absurd (cc)

many_were : (lines : Lines) → few lines ≡ None → MAX_BASE_ROWS < length (items_in lines)
many_were lines h = by (nat_lt MAX_BASE_ROWS (length (items_in lines))) refl h
  where
    by : (b : Bool) → nat_lt MAX_BASE_ROWS (length (items_in lines)) ≡ b → (if b then None else Some lines) ≡ None
        → MAX_BASE_ROWS < length (items_in lines)
    by true e h = grind (arith, e)
    by false e h = absurd (cc)

-- how many are taken with a line more, behind lines that are seen as others
pub counted : (lines seen : Lines) (line : Option Tuple) (taken n : ℕ) → lines ≡ seen → taken ≡ length (items_in lines)
    → n ≡ taken + length (items_in (line ∷ [])) → n ≡ length (items_in (seen ++ line ∷ []))
counted lines seen line taken n e t h =
    h ∙ ap (λ k. k + length (items_in (line ∷ []))) (t ∙ ap (λ (l : Lines). length (items_in l)) e) ∙ sym (taken_more seen (line ∷ []))

-- the items of one line more
pub items_next : (lines : Lines) (i : ℕ) (line : Option Tuple) → i < length lines → line ≡ get_or lines i line
    → items_in (take (i + 1) lines) ≡ items_in (take i lines) ++ items_in (line ∷ [])
items_next lines i line h at =
    ap items_in (take_more lines i line h ∙ ap (λ (l : Option Tuple). take i lines ++ l ∷ []) (sym at)) ∙ items_more (take i lines) (line ∷ [])

-- ---- the walk over rows
module _ (f : Tuple → Result (Option Tuple) FaultKind) (rows : List Tuple) where
  -- the first i rows gave these lines, which are not too many
  pub record LinedUp (i : ℕ) (lines : Lines) : Type 0 where
    pub walked : Walked f rows i lines
    pub within : length (items_in lines) ≤ MAX_BASE_ROWS

  abbrev meant : Option Lines
  meant = option_and_then few (result_ok (each f rows))

  pub lined_next : (i : ℕ) (lines after : Lines) (row : Tuple) → i < length rows → row ≡ get_or rows i row → if_put true after ≡ with_line (f row) lines
      → LinedUp i lines → LinedUp (i + 1) after
  lined_next i lines after row h at put l = by (f row) refl (sym put)
    where
      by : (o : Result (Option Tuple) FaultKind) → f row ≡ o → with_line o lines ≡ Some after → LinedUp (i + 1) after
      by (Err fault) e p = absurd (cc)
      by (Ok line) e p =
          let found = few_were (lines ++ line ∷ []) after p in
          subst (LinedUp (i + 1)) found.0 (record { walked = walk_next f rows i lines row line h at e l.walked; within = found.1 })

  -- too many already, whatever comes behind
  overfull : (lines : Lines) → MAX_BASE_ROWS < length (items_in lines) → (o : Result Lines FaultKind)
      → option_and_then few (result_ok (o >>= (λ more. Ok (lines ++ more)))) ≡ None
  overfull lines h (Ok more) = let count = taken_more lines more in many_are (lines ++ more) (omega (arith, h, count))
  overfull lines h (Err fault) = refl

  pub lined_exit : (i : ℕ) (lines after : Lines) (row : Tuple) → i < length rows → row ≡ get_or rows i row → if_put false after ≡ with_line (f row) lines
      → LinedUp i lines → None ≡ meant
  lined_exit i lines after row h at put l = by (f row) refl (sym put)
    where
      by : (o : Result (Option Tuple) FaultKind) → f row ≡ o → with_line o lines ≡ None → None ≡ meant
      by (Err fault) e p =
          sym (ap (λ (o : Result Lines FaultKind). option_and_then few (result_ok o)) (walk_exit f rows i lines row (fail.Cause fault) h at l.walked e))
      by (Ok line) e p =
          let full = many_were (lines ++ line ∷ []) p in
          let next = walk_next f rows i lines row line h at e l.walked in
          sym (ap (λ (o : Result Lines FaultKind). option_and_then few (result_ok o)) next.is ∙ overfull (lines ++ line ∷ []) full (each f (drop (i + 1) rows)))
