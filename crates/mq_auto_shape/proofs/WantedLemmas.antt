-- Which measures are assigned.
use Rattle.std.proofs.Common.{◌≡◌, ℕ, ◌+◌, ◌<◌, ◌≤◌, Bool, true, false, cond, List, [], ◌∷◌, ◌++◌, length, get_or, take, Option, Some, None, refl, sym, ap, subst, ◌∙◌, eqb}
use Rattle.std.specs.Prelude.{slice_index_or}
use Rattle.std.specs.List.{cons_option, filter, filter_map}
use Rattle.std.proofs.lemmas.Bool.{and_parts, eqb-true}
use Rattle.std.proofs.lemmas.List.{take_all, take_more}
use Rattle.std.proofs.lemmas.List.Elements.{All-append, All-cons, All-nil, All-weaker}
use Rattle.mq_ir.specs.declared.query.Look.{Look}
use Rattle.mq_ir.specs.declared.query.Look.TheVariants.{Measure, Presence}
use Rattle.mq_ir.specs.Keys.{is_same}
use Rattle.mq_ir.specs.Shape.{Assignment, assigns}
use Rattle.mq_refs.specs.LookParts.{is_wanted}
use Rattle.mq_auto_shape.specs.Edges.{AreWanted, place_looked}
use Rattle.mq_auto_shape.proofs.EdgeLemmas.{all_at, hit}

abbrev IsWanted : List Bool → Assignment → Type 0
IsWanted wanted a = slice_index_or wanted a.1 false ≡ true

pub none_wanted : (wanted : List Bool) → AreWanted wanted []
none_wanted wanted = All-nil (IsWanted wanted)

pub wanted_more : (before after : List Bool) (assigned : List Assignment) (i : ℕ) (a : Assignment) → i < length assigned → a ≡ get_or assigned i a
    → ((j : ℕ) → slice_index_or before j false ≡ true → slice_index_or after j false ≡ true) → slice_index_or after a.1 false ≡ true
    → AreWanted before (take i assigned) → AreWanted after (take (i + 1) assigned)
wanted_more before after assigned i a lt is kept there w =
    subst (AreWanted after) (sym (take_more assigned i a lt ∙ ap (λ (x : Assignment). take i assigned ++ x ∷ []) (sym is)))
    (All-append (IsWanted after) (take i assigned) (a ∷ [])
    (All-weaker (IsWanted before) (IsWanted after) (λ x h. kept x.1 h) (take i assigned) w)
    (All-cons (IsWanted after) a [] there (All-nil (IsWanted after))))

pub all_wanted : (wanted : List Bool) (assigned : List Assignment) (i : ℕ) → length assigned ≤ i → AreWanted wanted (take i assigned) → AreWanted wanted assigned
all_wanted wanted assigned i le w = subst (AreWanted wanted) (take_all i assigned le) w

-- what is not wanted is no place
module _ (wanted : List Bool) (assigned : List Assignment) (all : AreWanted wanted assigned) where
  unwanted : (look : Look) → is_wanted wanted look ≡ false → place_looked assigned look ≡ None
  unwanted (Presence key) h = refl
  unwanted (Measure c) h = by (place_looked assigned (Measure c)) refl
    where
      by : (o : Option ℕ) → place_looked assigned (Measure c) ≡ o → place_looked assigned (Measure c) ≡ None
      by None e = e
      by (Some q) e =
          let it = hit (assigns c.measure c.key) 0 assigned q e in
          let m : c.measure ≡ it.item.1 = eqb-true c.measure it.item.1 (and_parts (is_same c.key it.item.0) (eqb c.measure it.item.1) it.passes).1 in
          let w : slice_index_or wanted c.measure false ≡ true = ap (λ k. slice_index_or wanted k false) m ∙ all_at (IsWanted wanted) assigned all it.off it.item it.at in
          absurd (cc)

  pub wanted_looked : (looks : List Look) → filter_map (place_looked assigned) (filter (is_wanted wanted) looks) ≡ filter_map (place_looked assigned) looks
  wanted_looked [] = refl
  wanted_looked (look ∷ looks) = by (is_wanted wanted look) refl (wanted_looked looks)
    where
      by : (b : Bool) → is_wanted wanted look ≡ b → filter_map (place_looked assigned) (filter (is_wanted wanted) looks) ≡ filter_map (place_looked assigned) looks
          → filter_map (place_looked assigned) (filter (is_wanted wanted) (look ∷ looks)) ≡ filter_map (place_looked assigned) (look ∷ looks)
      by true e rest =
          ap (λ b. filter_map (place_looked assigned) (cond b (look ∷ filter (is_wanted wanted) looks) (filter (is_wanted wanted) looks))) e
          ∙ ap (cons_option (place_looked assigned look)) rest
      by false e rest =
          ap (λ b. filter_map (place_looked assigned) (cond b (look ∷ filter (is_wanted wanted) looks) (filter (is_wanted wanted) looks))) e
          ∙ rest ∙ ap (λ o. cons_option o (filter_map (place_looked assigned) looks)) (sym (unwanted look e))
