-- The walk over the edits, edit by edit.
use Rattle.std.proofs.Common.{◌≡◌, ℕ, ◌+◌, ◌<◌, ◌≤◌, true, false, ◌||◌, List, [], ◌∷◌, ◌++◌, take, drop, length, get_or, Option, Some, None, refl, sym, ap, subst, ◌∙◌, append_assoc, arith}
use Rattle.std.specs.Prelude.{if◌then◌else◌, nat_lt}
use Rattle.std.proofs.lemmas.Bool.{or_left, or_right}
use Rattle.std.proofs.lemmas.Bool.Decides.{nat_tests}
use Rattle.std.proofs.lemmas.List.{drop_all, drop_more}
use Rattle.mq_ir.specs.Keys.{Tuple}
use Rattle.mq_ir.specs.Partitions.{Cells}
use Rattle.mq_delta_parts.specs.Edits.{Ascends, Edit, above, amended, begins_with, below, has_cell, joined}
use Rattle.mq_delta_parts.specs.Spans.{IsSpan, Puts}
use Rattle.mq_delta_parts.proofs.EditLemmas.{ascends_above}

-- the first `at` edits were walked over: `kept` are the cells up to there, and `rest` those that are left
pub record Walked (cells : Cells) (edits : List Edit) (at : ℕ) (kept rest : Cells) : Type 0 where
  pub ascends : Ascends rest
  pub same : amended cells edits ≡ joined (Some kept) (amended rest (drop at edits))

joined_twice : (a b : Cells) (o : Option Cells) → joined (Some a) (joined (Some b) o) ≡ joined (Some (a ++ b)) o
joined_twice a b None = refl
joined_twice a b (Some c) = ap Some (sym (append_assoc a b c))

joined_none : (o : Option Cells) → joined (Some []) o ≡ o
joined_none None = refl
joined_none (Some c) = refl

module _ (cells : Cells) (edits : List Edit) where
  pub walk_start : (kept : Cells) → kept ≡ [] → Ascends cells → Walked cells edits 0 kept cells
  walk_start kept e s = record { ascends = s; same = sym (joined_none (amended cells edits)) ∙ ap (λ k. joined (Some k) (amended cells edits)) (sym e) }

  module _ (at : ℕ) (kept rest : Cells) (edit : Edit) (next : List Edit) (within : at < length edits) (is : edit ≡ get_or edits at edit) (next_is : next ≡ drop (at + 1) edits) (w : Walked cells edits at kept rest) where
    here : drop at edits ≡ edit ∷ next
    here = drop_more edits at edit within ∙ (λ i. sym is i ∷ sym next_is i)

    -- an edit more
    pub walk_next : (end : ℕ) (more left : Cells) → Puts rest edit next kept (Some end) more → left ≡ drop end rest → Walked cells edits (at + 1) more left
    walk_next end more left p e = record {
      ascends = subst Ascends (sym (e ∙ p.3)) (ascends_above edit.0 rest w.ascends);
      same =
          w.same
          ∙ ap (λ l. joined (Some kept) (amended rest l)) here
          ∙ ap (λ o. joined (Some kept) (joined o (amended (above edit.0 rest) next))) p.1
          ∙ joined_twice kept p.0 (amended (above edit.0 rest) next)
          ∙ (λ i. joined (Some (sym p.2 i)) (amended (sym (e ∙ p.3) i) (next_is i)));
    }

    -- an edit whose tuple would stand twice
    pub walk_stop : (more : Cells) → Puts rest edit next kept None more → None ≡ amended cells edits
    walk_stop more p =
        sym (w.same
        ∙ ap (λ l. joined (Some kept) (amended rest l)) here
        ∙ ap (λ o. joined (Some kept) (joined o (amended (above edit.0 rest) next))) p)

  -- no edit more
  pub walk_end : (at : ℕ) (kept rest all : Cells) → length edits ≤ at → Walked cells edits at kept rest → all ≡ kept ++ rest → Some all ≡ amended cells edits
  walk_end at kept rest all h w e = ap Some e ∙ sym (w.same ∙ ap (λ l. joined (Some kept) (amended rest l)) (drop_all at edits h))

-- ---- what an edit puts
module _ (cells : Cells) (edit : Edit) (next : List Edit) (start end : ℕ) (s : IsSpan cells edit.0 start end) (before : Cells) where
  -- an edit whose row went
  pub puts_gone : (after : Cells) → edit.1 ≡ None → after ≡ before ++ take start cells → Puts cells edit next before (Some end) after
  puts_gone after is e =
      subst (λ (o : Option Tuple). Puts cells (edit.0, o) next before (Some end) after) (sym is)
      (below edit.0 cells, refl, e ∙ ap (λ l. before ++ l) s.front, s.rest)

  module _ (measures : Tuple) (is : edit.1 ≡ Some measures) where
    -- an edit whose row came
    pub puts_came : (middle after : Cells) → end ≤ start → begins_with next edit.0 ≡ false → middle ≡ before ++ take start cells
        → after ≡ middle ++ (edit.0, measures) ∷ [] → Puts cells edit next before (Some end) after
    puts_came middle after n h m e =
        let lacks : has_cell cells edit.0 ≡ false = sym s.there ∙ not_lt start end n in
        subst (λ (o : Option Tuple). Puts cells (edit.0, o) next before (Some end) after) (sym is) (
          below edit.0 cells ++ (edit.0, measures) ∷ [],
          (λ i. if lacks i || h i then None else Some (below edit.0 cells ++ (edit.0, measures) ∷ [])),
          e ∙ ap (λ l. l ++ (edit.0, measures) ∷ []) (m ∙ ap (λ l. before ++ l) s.front) ∙ append_assoc before (below edit.0 cells) ((edit.0, measures) ∷ []),
          s.rest,
        )
      where
        not_lt : (a b : ℕ) → b ≤ a → nat_lt a b ≡ false
        not_lt a b n = grind (arith, nat_tests)

    none_where : (after : Cells) → (has_cell cells edit.0 || begins_with next edit.0) ≡ true → Puts cells edit next before None after
    none_where after h =
        subst (λ (o : Option Tuple). Puts cells (edit.0, o) next before None after) (sym is)
        (ap (λ b. if b then None else Some (below edit.0 cells ++ (edit.0, measures) ∷ [])) h)

    -- one whose tuple stands already, and one whose tuple comes once more
    pub puts_there : (after : Cells) → start < end → Puts cells edit next before None after
    puts_there after l = none_where after (or_left (has_cell cells edit.0) (begins_with next edit.0) (sym s.there ∙ is_lt start end l))
      where
        is_lt : (a b : ℕ) → a < b → nat_lt a b ≡ true
        is_lt a b l = grind (arith, nat_tests)

    pub puts_again : (after : Cells) → begins_with next edit.0 ≡ true → Puts cells edit next before None after
    puts_again after h = none_where after (or_right (has_cell cells edit.0) (begins_with next edit.0) h)
