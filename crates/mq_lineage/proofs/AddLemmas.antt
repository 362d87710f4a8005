-- Measures that are put to a set, one after another.
use Rattle.std.proofs.Common.{◌≡◌, ℕ, ◌+◌, ◌<◌, ◌≤◌, Bool, true, false, ◌||◌, List, [], ◌∷◌, Option, Some, None, drop, get_or, length, refl, sym, ap, ◌∙◌}
use Rattle.std.specs.List.{cons_option, filter_map, list_any}
use Rattle.std.proofs.lemmas.List.{drop_all}
use Rattle.mq_values.specs.ListLaws.{next_item}
use Rattle.mq_ir.specs.declared.query.CellName.{CellName}
use Rattle.mq_ir.specs.declared.query.Look.{Look}
use Rattle.mq_ir.specs.Derivations.{is_same_measure, measure_of}
use Rattle.mq_lineage.specs.Closing.{HasMore, HasOneMore}
use Rattle.mq_lineage.specs.Held.{HeldMeasures, is_held}

moved_one : (s b h : Bool) → (b || ((s || false) || h)) ≡ ((s || b) || h)
moved_one true true h = refl
moved_one true false h = refl
moved_one false true h = refl
moved_one false false h = refl

-- one measure is a list of one
pub one_of : (name : CellName) (before after : CellName → Bool) → HasOneMore name before after → HasMore (name ∷ []) before after
one_of name before after h c = h c ∙ by (is_same_measure c name) (before c)
  where
    by : (s b : Bool) → (s || b) ≡ ((s || false) || b)
    by true b = refl
    by false b = refl

abbrev named : List Look → CellName → Bool
named looks c = list_any (is_same_measure c) (filter_map measure_of looks)

-- what is left and what is there are together what is wanted, and the places stay
pub record AreAdded (looks : List Look) (i : ℕ) (before now : HeldMeasures) : Type 0 where
  pub more : (c : CellName) → (named (drop i looks) c || is_held now c) ≡ (named looks c || is_held before c)
  pub places : now.places ≡ before.places

module _ (looks : List Look) (before : HeldMeasures) where
  pub added_start : AreAdded looks 0 before before
  added_start = record { more = λ c. refl; places = refl }

  pub added_next : (i : ℕ) (x : Look) (now after : HeldMeasures) → i < length looks → x ≡ get_or looks i x
      → HasMore (filter_map measure_of (x ∷ [])) (is_held now) (is_held after) → after.places ≡ now.places
      → AreAdded looks i before now → AreAdded looks (i + 1) before after
  added_next i x now after lt is h places w = record {
    more = λ c.
        ap (λ b. named (drop (i + 1) looks) c || b) (h c) ∙ by c (measure_of x)
        ∙ ap (λ l. named l c || is_held now c) (sym (next_item looks i x lt is)) ∙ w.more c;
    places = places ∙ w.places;
  }
    where
      by : (c : CellName) (o : Option CellName)
          → (named (drop (i + 1) looks) c || (list_any (is_same_measure c) (cons_option o []) || is_held now c))
          ≡ (list_any (is_same_measure c) (cons_option o (filter_map measure_of (drop (i + 1) looks))) || is_held now c)
      by c None = refl
      by c (Some d) = moved_one (is_same_measure c d) (named (drop (i + 1) looks) c) (is_held now c)

  pub added_all : (i : ℕ) (now : HeldMeasures) → length looks ≤ i → AreAdded looks i before now
      → HasMore (filter_map measure_of looks) (is_held before) (is_held now)
  added_all i now h w c = ap (λ l. named l c || is_held now c) (sym (drop_all i looks h)) ∙ w.more c
