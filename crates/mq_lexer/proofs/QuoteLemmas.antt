-- The closing quote of a text.
use Rattle.std.proofs.Common.{◌≡◌, ℕ, suc, ◌+◌, ◌<◌, ◌≤◌, get_or, drop, drop-cons, add-one, Bool, true, false, not, ◌&&◌, cond, eqb, [], ◌∷◌, length, refl, ap, sym, subst, ◌∙◌, arith}
use Rattle.std.proofs.lemmas.List.{drop_all}
use Rattle.std.specs.Prelude.{Option, Some, None, IfSome}
use Rattle.std.specs.Option.{option_map, option_or}
use Rattle.mq_lexer.specs.Fronts.{Text}
use Rattle.mq_lexer.specs.Quotes.{closing}
use Rattle.mq_lexer.proofs.PlaceLemmas.{from_place, from_place-suc}

second : (at : ℕ) (o found : Option ℕ) → option_or (from_place at (option_or (option_map suc o) (Some 0))) found ≡ option_or (from_place (suc at) o) (Some at)
second at None found = let e : at + 0 ≡ at = omega arith in ap Some e
second at (Some n) found = let e : at + suc n ≡ suc at + n = omega arith in ap Some e

-- a byte that does not show that the text is closed
pub closing_goes_on : (behind : Bool) (at b : ℕ) (z : Text) (found : Option ℕ) → (behind ≡ true → eqb b 39 ≡ true)
    → option_or (from_place at (closing behind (b ∷ z))) found ≡ option_or (from_place (suc at) (closing (eqb b 39 && not behind) z)) (cond behind (Some at) found)
closing_goes_on false at b z found h =
    elim (eqb b 39) as (λ q. option_or (from_place at (option_map suc (closing q z))) found ≡ option_or (from_place (suc at) (closing (q && true) z)) found) [
      | true ↦ ap (λ o. option_or o found) (sym (from_place-suc at (closing true z)))
      | false ↦ ap (λ o. option_or o found) (sym (from_place-suc at (closing false z)))
    ]
closing_goes_on true at b z found h = rw (h refl) (second at (closing false z) found)

-- a turn of the loop that looks for it
pub closing_step : (z : Text) (at : ℕ) (behind next : Bool) (found kept all : Option ℕ) → at < length z
    → (behind ≡ true → eqb (get_or z at 0) 39 ≡ true) → kept ≡ cond behind (Some at) found → next ≡ (eqb (get_or z at 0) 39 && not behind)
    → option_or (from_place at (closing behind (drop at z))) found ≡ all
    → option_or (from_place (at + 1) (closing next (drop (at + 1) z))) kept ≡ all
closing_step z at behind next found kept all below quote kept-is next-is before =
    let split : drop at z ≡ get_or z at 0 ∷ drop (suc at) z = drop-cons z at 0 below in
    let ahead : option_or (from_place at (closing behind (get_or z at 0 ∷ drop (suc at) z))) found ≡ all = ap (λ l. option_or (from_place at (closing behind l)) found) (sym split) ∙ before in
    rw (kept-is, next-is, add-one) (sym (closing_goes_on behind at (get_or z at 0) (drop (suc at) z) found quote) ∙ ahead)

-- at the end of the text
pub closing_stops : (z : Text) (at : ℕ) (behind : Bool) (found all : Option ℕ) → length z ≤ at → behind ≡ false → option_or (from_place at (closing behind (drop at z))) found ≡ all → found ≡ all
closing_stops z at behind found all past open_is before =
    ap (λ q. option_or (from_place at (closing q [])) found) (sym open_is) ∙ ap (λ l. option_or (from_place at (closing behind l)) found) (sym (drop_all at z past)) ∙ before

-- the closing quote is in the text
abbrev Bounds : Bool → Text → Option ℕ → Type 0
Bounds behind z None = Unit {0}
Bounds behind z (Some n) = (behind ≡ false → 1 ≤ n) × (n ≤ length z)

bounds-suc : (behind : Bool) (b : ℕ) (z : Text) (o : Option ℕ) → Bounds behind z o → Bounds false (b ∷ z) (option_map suc o)
bounds-suc behind b z None h = tt
bounds-suc behind b z (Some n) h = ((λ _. omega arith), omega (arith, h.1))

bounds-or : (b : ℕ) (z : Text) (o : Option ℕ) → Bounds false (b ∷ z) o → Bounds true (b ∷ z) (option_or o (Some 0))
bounds-or b z None h = ((λ e. absurd (cc)), omega arith)
bounds-or b z (Some n) h = ((λ e. absurd (cc)), h.1)

bounds : (behind : Bool) (z : Text) → Bounds behind z (closing behind z)
bounds false [] = tt
bounds true [] = ((λ e. absurd (cc)), omega arith)
bounds false (b ∷ z) = bounds-suc (eqb b 39) b z (closing (eqb b 39) z) (bounds (eqb b 39) z)
bounds true (b ∷ z) =
    elim (eqb b 39) as (λ q. Bounds true (b ∷ z) (cond q (option_or (option_map suc (closing false z)) (Some 0)) (Some 0))) [
      | true ↦ bounds-or b z (option_map suc (closing false z)) (bounds-suc false b z (closing false z) (bounds false z))
      | false ↦ ((λ e. absurd (cc)), omega arith)
    ]

abbrev within : Text → Option ℕ → Type 0
within z o = IfSome o (λ n. (1 ≤ n) × (n ≤ length z))

in_text : (z : Text) (o : Option ℕ) → Bounds false z o → within z o
in_text z None h = tt
in_text z (Some n) h = (h.0 refl, h.1)

pub closing_within : (z : Text) → IfSome (closing false z) (λ n. (1 ≤ n) × (n ≤ length z))
closing_within z = in_text z (closing false z) (bounds false z)

-- the byte at the end of what closes is a quote; c stands before the text
abbrev Ends : ℕ → Text → Option ℕ → Type 0
Ends c z None = Unit {0}
Ends c z (Some n) = get_or (c ∷ z) n 0 ≡ 39

ends-suc : (c b : ℕ) (z : Text) (o : Option ℕ) → Ends b z o → Ends c (b ∷ z) (option_map suc o)
ends-suc c b z None h = tt
ends-suc c b z (Some n) h = h

ends-or : (c : ℕ) (z : Text) (o : Option ℕ) → c ≡ 39 → Ends c z o → Ends c z (option_or o (Some 0))
ends-or c z None is h = is
ends-or c z (Some n) is h = h

ends : (behind : Bool) (c : ℕ) (z : Text) → (behind ≡ true → c ≡ 39) → Ends c z (closing behind z)
ends false c [] is = tt
ends true c [] is = is refl
ends false c (b ∷ z) is = ends-suc c b z (closing (eqb b 39) z) (ends (eqb b 39) b z (λ e. grind arith))
ends true c (b ∷ z) is =
    elim (eqb b 39) as (λ q. Ends c (b ∷ z) (cond q (option_or (option_map suc (closing false z)) (Some 0)) (Some 0))) [
      | true ↦ ends-or c (b ∷ z) (option_map suc (closing false z)) (is refl) (ends-suc c b z (closing false z) (ends false b z (λ e. absurd (cc))))
      | false ↦ is refl
    ]

pub closing_ends : (c : ℕ) (z : Text) (n : ℕ) → closing false z ≡ Some n → get_or (c ∷ z) n 0 ≡ 39
closing_ends c z n e = subst (Ends c z) e (ends false c z (λ t. absurd (cc)))

pub closing_bounds : (z : Text) (n : ℕ) → closing false z ≡ Some n → (1 ≤ n) × (n ≤ length z)
closing_bounds z n e = subst (λ o. within z o) e (closing_within z)
