-- The sources of a measure are closed under looks, and the least such set.
use Rattle.std.proofs.Common.{◌≡◌, ℕ, zero, suc, ◌-◌, Bool, true, false, not, ◌&&◌, ◌||◌, List, [], ◌∷◌, cond, length, map, Option, Some, None, slice_get, refl, sym, ap, subst, ◌∙◌, arith, ◌⊎◌, inl, inr}
use Rattle.std.specs.Prelude.{is_none}
use Rattle.std.specs.List.{filter, filter_map, list_any}
use Rattle.std.specs.Option.{option_and_then}
use Rattle.std.proofs.lemmas.Bool.{and_from, and_parts, or_cases, or_left, or_right}
use Rattle.std.proofs.lemmas.List.{length-map}
use Rattle.mq_ir.specs.declared.query.CellName.{CellName}
use Rattle.mq_ir.specs.declared.query.Look.{Look}
use Rattle.mq_ir.specs.declared.query.Look.TheVariants.{Measure, Presence}
use Rattle.mq_ir.specs.declared.query.PartShape.{PartShape}
use Rattle.mq_ir.specs.Affected.{is_same_look, looks_or_none}
use Rattle.mq_ir.specs.Automatic.{node_looks, node_of, round_count, rule_at}
use Rattle.mq_ir.specs.CountLaws.{AgreeOn, Rising, rests_at_count}
use Rattle.mq_ir.specs.Derivations.{assigned_names, is_source, lookers, measure_of, measures_looked_at}
use Rattle.mq_ir.specs.RoundLaws.{Within, affected_least, affected_stays, seeds_affected}
use Rattle.mq_ir.specs.Rounds.{affected, some_look}
use Rattle.mq_ir.specs.Shape.{Assignment}
use Rattle.mq_ir.specs.Unfolding.{Model}
use Rattle.mq_change_laws.specs.NodeLaws.{looked}
use Rattle.mq_derivation_laws.specs.SourceLaws.{AreLeastSources, HoldsSources}
use Rattle.mq_derivation_laws.proofs.NameLemmas.{all_at, all_from, any_measure, any_node, has, name_itself, name_of, same_name_is, unruled_alike}

-- ---- nodes that are looked at by some of a list: as many rounds as it has items are enough
module _ {N : Type 0} (looks_at : N → N → Bool) (xs : List N) (seeds : N → Bool) where
  abbrev users : N → Option (List N)
  users t = Some (filter (looks_at t) xs)

  -- what is reached before a round
  abbrev before : ℕ → N → Bool
  before zero t = false
  before (suc n) t = affected users seeds n t

  none_passes : (l : List N) → list_any (λ (t : N). false) l ≡ false
  none_passes [] = refl
  none_passes (x ∷ l) = none_passes l

  or_none : (b : Bool) → b ≡ (b || false)
  or_none true = refl
  or_none false = refl

  reached_is : (n : ℕ) (t : N) → affected users seeds n t ≡ (seeds t || list_any (before n) (filter (looks_at t) xs))
  reached_is zero t = or_none (seeds t) ∙ ap (λ b. seeds t || b) (sym (none_passes (filter (looks_at t) xs)))
  reached_is (suc n) t = refl

  agree_kept : (p q test : N → Bool) (l : List N) → AgreeOn p q l → list_any p (filter test l) ≡ list_any q (filter test l)
  agree_kept p q test [] a = refl
  agree_kept p q test (x ∷ l) a = by (test x) (agree_kept p q test l a.1)
    where
      by : (b : Bool) → list_any p (filter test l) ≡ list_any q (filter test l)
          → list_any p (cond b (x ∷ filter test l) (filter test l)) ≡ list_any q (cond b (x ∷ filter test l) (filter test l))
      by true h = λ i. a.0 i || h i
      by false h = h

  agree_next : (n : ℕ) → AgreeOn (before n) (before (suc n)) xs → (t : N) → affected users seeds n t ≡ affected users seeds (suc n) t
  agree_next n a t =
      reached_is n t ∙ ap (λ b. seeds t || b) (agree_kept (before n) (before (suc n)) (looks_at t) xs a)

  agree_all : (p q : N → Bool) → ((t : N) → p t ≡ q t) → (l : List N) → AgreeOn p q l
  agree_all p q e [] = tt
  agree_all p q e (x ∷ l) = (e x, agree_all p q e l)

  grows : (n : ℕ) → Within (before n) (before (suc n))
  grows zero t h = cc
  grows (suc n) t h = affected_stays users seeds n (suc n) (omega arith) t h

  rises : Rising before xs
  rises = record { grows = grows; rests = λ n a. agree_all (before (suc n)) (before (suc (suc n))) (agree_next n a) xs }

  -- what a node is looked at by, once it is reached, reaches the node
  pub reached_closed : (t : N) → list_any (affected users seeds (length xs)) (filter (looks_at t) xs) ≡ true
      → affected users seeds (length xs) t ≡ true
  reached_closed t h =
      agree_next (length xs) (rests_at_count before xs rises) t
      ∙ or_right (seeds t) (list_any (affected users seeds (length xs)) (filter (looks_at t) xs)) h

-- what passes two tests passes the one among what the other keeps
any_kept : {N : Type 0} (p test : N → Bool) (l : List N) → list_any (λ x. p x && test x) l ≡ true → list_any p (filter test l) ≡ true
any_kept p test [] h = cc
any_kept p test (x ∷ l) h = by (test x) refl (or_cases (p x && test x) (list_any (λ x. p x && test x) l) h) (any_kept p test l)
  where
    by : (b : Bool) → test x ≡ b → ((p x && test x) ≡ true) ⊎ (list_any (λ x. p x && test x) l ≡ true)
        → (list_any (λ x. p x && test x) l ≡ true → list_any p (filter test l) ≡ true)
        → list_any p (cond b (x ∷ filter test l) (filter test l)) ≡ true
    by true e (inl s) rest = or_left (p x) (list_any p (filter test l)) (and_parts (p x) (test x) s).0
    by true e (inr r) rest = or_right (p x) (list_any p (filter test l)) (rest r)
    by false e (inl s) rest = let k : true ≡ false = sym (and_parts (p x) (test x) s).1 ∙ e in cc
    by false e (inr r) rest = rest r

module _ (model : Model) (shape : PartShape) where
  -- what no rule assigns looks at nothing
  pub unruled_looks : (c : CellName) → rule_at shape (Measure c) ≡ None → node_looks model shape (Measure c) ≡ None
  unruled_looks c h = ap (λ o. looked model shape (Measure c) (option_and_then (λ number. slice_get model.part.rules (number - 1)) o)) h

  -- what looks at something is assigned
  pub looker_assigned : (c m : CellName) → has (measures_looked_at model shape c) m ≡ true → has (assigned_names shape) c ≡ true
  looker_assigned c m h = by (rule_at shape (Measure c)) refl
    where
      passes : (b : Bool) → false ≡ not b → b ≡ true
      passes true e = refl
      passes false e = cc

      by : (o : Option ℕ) → rule_at shape (Measure c) ≡ o → has (assigned_names shape) c ≡ true
      by None e = let k : false ≡ true = sym (ap (λ o. has (filter_map measure_of (looks_or_none o)) m) (unruled_looks c e)) ∙ h in cc
      by (Some number) e = passes (has (assigned_names shape) c) (sym (ap is_none e) ∙ unruled_alike shape c)

module _ (model : Model) (shape : PartShape) (target : CellName) where
  abbrev looks_at : Look → Look → Bool
  looks_at node user = list_any (is_same_look node) (looks_or_none (node_looks model shape user))

  abbrev seed : Look → Bool
  seed = is_same_look (Measure target)

  abbrev users_of : Look → Option (List Look)
  users_of node = Some (lookers model shape node)

  abbrev reached : Look → Bool
  reached = affected users_of seed (round_count shape)

  pub source_itself : is_source model shape target target ≡ true
  source_itself = seeds_affected users_of seed (round_count shape) (Measure target) (name_itself target)

  closed : (t : Look) → list_any reached (lookers model shape t) ≡ true → reached t ≡ true
  closed t =
      subst (λ n. list_any (affected users_of seed n) (lookers model shape t) ≡ true → affected users_of seed n t ≡ true)
      (length-map shape.assigned node_of) (reached_closed looks_at (map node_of shape.assigned) seed t)

  -- a source has all measures that it looks at beside it
  pub source_closed : (c m : CellName) → is_source model shape target c ≡ true → has (measures_looked_at model shape c) m ≡ true
      → is_source model shape target m ≡ true
  source_closed c m s h =
      closed (Measure m) (any_kept reached (looks_at (Measure m)) (map node_of shape.assigned)
      (any_node (λ u. reached u && looks_at (Measure m) u) c
      (and_from (reached (Measure c)) (looks_at (Measure m) (Measure c)) s
      (any_measure m (looks_or_none (node_looks model shape (Measure c))) ∙ h))
      shape.assigned (looker_assigned model shape c m h)))

  module _ (held : CellName → Bool) (holds : HoldsSources model shape target held) where
    abbrev held_at : Look → Bool
    held_at (Measure c) = held c
    held_at (Presence key) = true

    begins : Within seed held_at
    begins (Measure c) h = ap held (sym (same_name_is target c h)) ∙ holds.0
    begins (Presence key) h = refl

    looked_from : (m : CellName) (xs : List Assignment)
        → list_any held_at (filter (looks_at (Measure m)) (map node_of xs)) ≡ true → held m ≡ true
    looked_from m [] h = cc
    looked_from m (x ∷ xs) h = by (looks_at (Measure m) (node_of x)) refl h (looked_from m xs)
      where
        others : List Look
        others = filter (looks_at (Measure m)) (map node_of xs)

        at : held (name_of x) ≡ true → looks_at (Measure m) (node_of x) ≡ true → held m ≡ true
        at a e =
            all_at held m (measures_looked_at model shape (name_of x)) (holds.1 (name_of x) a)
            (sym (any_measure m (looks_or_none (node_looks model shape (node_of x)))) ∙ e)

        by : (b : Bool) → looks_at (Measure m) (node_of x) ≡ b → list_any held_at (cond b (node_of x ∷ others) others) ≡ true
            → (list_any held_at others ≡ true → held m ≡ true) → held m ≡ true
        by true e h rest = elim (or_cases (held (name_of x)) (list_any held_at others) h) [ inl a ↦ at a e | inr l ↦ rest l ]
        by false e h rest = rest h

    follows : (t : Look) → some_look held_at (users_of t) ≡ true → held_at t ≡ true
    follows (Measure m) h = looked_from m shape.assigned h
    follows (Presence key) h = refl

    source_least : Within (is_source model shape target) held
    source_least c h = affected_least users_of seed held_at begins follows (round_count shape) (Measure c) h

  pub least_sources : AreLeastSources model shape target
  least_sources = (
    (
      source_itself,
      λ c s. all_from (is_source model shape target) (measures_looked_at model shape c) (λ m h. source_closed c m s h),
    ),
    source_least,
  )
