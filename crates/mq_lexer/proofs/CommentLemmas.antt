-- Comments, and the first place that closes one.
use Rattle.std.proofs.Common.{◌≡◌, ℕ, zero, suc, ◌+◌, ◌-◌, ◌<◌, ◌≤◌, true, false, ◌&&◌, cond, eqb, [], ◌∷◌, get_or, drop, refl, ap, sym, subst, ◌∙◌, inl, inr, arith}
use Rattle.std.proofs.lemmas.Bool.Decides.{nat_tests}
use Rattle.std.proofs.lemmas.List.{get_or-drop}
use Rattle.std.proofs.lemmas.List.Sums.{prefix_len_stops, prefix_len-le-length}
use Rattle.std.specs.Prelude.{Option, Some, None}
use Rattle.std.specs.List.{prefix_len}
use Rattle.std.specs.Option.{option_map}
use Rattle.mq_lexer.specs.Fronts.{Text, a_gap}
use Rattle.mq_lexer.specs.Pieces.{is_blank, is_not_lf, line_comment, comment_end, comment_of, block_comment, front}
use Rattle.mq_lexer.specs.Comments.{IsLineComment, ClosesAt, IsBlockComment}
use Rattle.mq_lexer.proofs.SpellingLemmas.{prefix-passes}

-- the first place where a list closes a comment
record FirstClose (z : Text) (n : ℕ) : Type 0 where
  pub at : ℕ
  pub is : n ≡ at + 2
  pub closes : ClosesAt z at
  pub first : (j : ℕ) → j < at → ClosesAt z j → ⊥

down : (b : ℕ) (z : Text) (j : ℕ) → ClosesAt (b ∷ z) (suc j) → ClosesAt z j
down b z j h = let e : suc j + 1 ≡ suc (j + 1) = omega arith in (h.0, ap (λ i. get_or (b ∷ z) i 0) (sym e) ∙ h.1)

up : (b : ℕ) (z : Text) (j : ℕ) → ClosesAt z j → ClosesAt (b ∷ z) (suc j)
up b z j h = let e : suc j + 1 ≡ suc (j + 1) = omega arith in (h.0, ap (λ i. get_or (b ∷ z) i 0) e ∙ h.1)

here : (b c : ℕ) → (eqb b 42 && eqb c 47) ≡ true → (b ≡ 42) × (c ≡ 47)
here b c e = (grind (arith, nat_tests), grind (arith, nat_tests))

later : (b : ℕ) (z : Text) (n : ℕ) → (eqb b 42 && eqb (get_or z 0 0) 47) ≡ false → FirstClose z n → FirstClose (b ∷ z) (suc n)
later b z n not_here c = record { at = suc c.at; is = omega (arith, c.is); closes = up b z c.at c.closes; first = none }
  where
    none : (j : ℕ) → j < suc c.at → ClosesAt (b ∷ z) j → ⊥
    none zero below h = let star : b ≡ 42 = h.0 in let slash : get_or z 0 0 ≡ 47 = h.1 in grind (arith, nat_tests)
    none (suc j) below h = c.first j (omega arith) (down b z j h)

first_close : (z : Text) (n : ℕ) → comment_end z ≡ Some n → FirstClose z n
first_close [] n e = absurd (cc)
first_close (b ∷ z) n e =
    elim (eqb b 42 && eqb (get_or z 0 0) 47) as (λ q. ((eqb b 42 && eqb (get_or z 0 0) 47) ≡ q) → cond q (Some 2) (option_map suc (comment_end z)) ≡ Some n → FirstClose (b ∷ z) n) [
      | true ↦ λ is some. let two : 2 ≡ n = cc in record { at = 0; is = omega arith; closes = here b (get_or z 0 0) is; first = λ j below h. absurd (omega arith) }
      | false ↦ λ is some. behind_it b z n is (first_close z) (comment_end z) refl some
    ] refl e
  where
    behind_it : (b : ℕ) (z : Text) (n : ℕ) → (eqb b 42 && eqb (get_or z 0 0) 47) ≡ false → ((m : ℕ) → comment_end z ≡ Some m → FirstClose z m) → (o : Option ℕ) → comment_end z ≡ o → option_map suc o ≡ Some n → FirstClose (b ∷ z) n
    behind_it b z n is shorter None o-is some = absurd (cc)
    behind_it b z n is shorter (Some m) o-is some = let more : suc m ≡ n = cc in subst (FirstClose (b ∷ z)) more (later b z m is (shorter m o-is))

empty : (j : ℕ) → get_or {A = ℕ} [] j 0 ≡ 42 → ⊥
empty zero e = absurd (omega arith)
empty (suc j) e = absurd (omega arith)

none_closes : (z : Text) → comment_end z ≡ None → (j : ℕ) → ClosesAt z j → ⊥
none_closes [] e j h = empty j h.0
none_closes (b ∷ z) e j h =
    elim (eqb b 42 && eqb (get_or z 0 0) 47) as (λ q. ((eqb b 42 && eqb (get_or z 0 0) 47) ≡ q) → cond q (Some 2) (option_map suc (comment_end z)) ≡ None → ⊥) [
      | true ↦ λ is none. absurd (cc)
      | false ↦ λ is none. at_place b z is (none_closes z (no_more (comment_end z) none)) j h
    ] refl e
  where
    no_more : (o : Option ℕ) → option_map suc o ≡ None → o ≡ None
    no_more None e = refl
    no_more (Some n) e = absurd (cc)

    at_place : (b : ℕ) (z : Text) → (eqb b 42 && eqb (get_or z 0 0) 47) ≡ false → ((j : ℕ) → ClosesAt z j → ⊥) → (j : ℕ) → ClosesAt (b ∷ z) j → ⊥
    at_place b z is shorter zero h = let star : b ≡ 42 = h.0 in let slash : get_or z 0 0 ≡ 47 = h.1 in grind (arith, nat_tests)
    at_place b z is shorter (suc j) h = shorter j (down b z j h)

pub blank-front : (z : Text) → is_blank (get_or z 0 0) ≡ true → front z ≡ a_gap 1
unfolding front
blank-front z is = rw is refl

line_is : (z : Text) → IsLineComment z (line_comment z)
unfolding line_comment
line_is z = record {
  gap = refl;
  within = prefix_len-le-length is_not_lf z;
  no_lf = prefix-passes is_not_lf z;
  lf = λ more. let stops : is_not_lf (get_or z (prefix_len is_not_lf z) 0) ≡ false = prefix_len_stops is_not_lf z 0 more in grind (arith, nat_tests);
}

pub line-front : (z : Text) → get_or z 0 0 ≡ 45 → get_or z 1 0 ≡ 45 → IsLineComment z (front z)
unfolding front
line-front z first second = rw (first, second) (line_is z)

-- places behind the opening
opened : (z : Text) (j : ℕ) → ClosesAt (drop 2 z) j → ClosesAt z (j + 2)
opened z j h =
    let e : 2 + j ≡ j + 2 = omega arith in
    let f : 2 + (j + 1) ≡ j + 2 + 1 = omega arith in
    (ap (λ i. get_or z i 0) (sym e) ∙ sym (get_or-drop 2 z j 0) ∙ h.0, ap (λ i. get_or z i 0) (sym f) ∙ sym (get_or-drop 2 z (j + 1) 0) ∙ h.1)

within_opened : (z : Text) (j : ℕ) → 2 ≤ j → ClosesAt z j → ClosesAt (drop 2 z) (j - 2)
within_opened z j low h =
    let e : 2 + (j - 2) ≡ j = omega arith in
    let f : 2 + (j - 2 + 1) ≡ j + 1 = omega arith in
    (get_or-drop 2 z (j - 2) 0 ∙ ap (λ i. get_or z i 0) e ∙ h.0, get_or-drop 2 z (j - 2 + 1) 0 ∙ ap (λ i. get_or z i 0) f ∙ h.1)

block_is : (z : Text) → IsBlockComment z (block_comment z)
unfolding block_comment
block_is z =
    elim (comment_end (drop 2 z)) as (λ o. (comment_end (drop 2 z) ≡ o) → IsBlockComment z (comment_of z o)) [
      | None ↦ λ e. inr (record { none = λ j low h. none_closes (drop 2 z) e (j - 2) (within_opened z j low h); token = refl })
      | Some n ↦ λ e.
          let c = first_close (drop 2 z) n e in
          inl (record {
            at = c.at + 2;
            behind = omega arith;
            closes = opened z c.at c.closes;
            first = λ j low below h. c.first (j - 2) (omega arith) (within_opened z j low h);
            gap = ap (λ k. a_gap (k + 2)) c.is;
          })
    ] refl

pub block-front : (z : Text) → get_or z 0 0 ≡ 47 → get_or z 1 0 ≡ 42 → IsBlockComment z (front z)
unfolding front
block-front z first second = rw (first, second) (block_is z)
