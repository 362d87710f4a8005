-- What a change reaches, as a walk by rounds asks for it.
use Rattle.std.proofs.Common.{◌≡◌, ℕ, Bool, true, false, ◌||◌, List, Option, inl, inr, refl, sym, ◌∙◌}
use Rattle.std.proofs.lemmas.Bool.{or_cases, or_left, or_right}
use Rattle.mq_ir.specs.declared.query.Look.{Look}
use Rattle.mq_ir.specs.Affected.{Side, is_affected, is_seed}
use Rattle.mq_ir.specs.AffectedLaws.{IsLeastClosed, least_closed}
use Rattle.mq_ir.specs.Automatic.{node_looks}
use Rattle.mq_ir.specs.RoundLaws.{affected_least, some_look_within}
use Rattle.mq_ir.specs.Rounds.{affected, some_look}
use Rattle.mq_ir.specs.Unfolding.{Model}
use Rattle.mq_change_laws.specs.ChangeLaws.{AffectedByLooks}

-- two tests of which each passes where the other does
pub told_alike : (a b : Bool) → (a ≡ true → b ≡ true) → (b ≡ true → a ≡ true) → a ≡ b
told_alike true true f g = refl
told_alike true false f g = sym (f refl)
told_alike false true f g = g refl
told_alike false false f g = refl

module _ (model : Model) (old new : Side) where
  abbrev looks : Look → Option (List Look)
  looks = node_looks model new.shape

  abbrev seed : Look → Bool
  seed = is_seed model old new

  abbrev reached : Look → Bool
  reached = is_affected model old new

  closed : IsLeastClosed model old new
  closed = least_closed model old new

  -- what is not affected is not reached in any round
  pub never_reached : (n : ℕ) (t : Look) → is_affected model old new t ≡ false
      → affected (node_looks model new.shape) (is_seed model old new) n t ≡ false
  never_reached n t h = by (affected looks seed n t) refl
    where
      by : (b : Bool) → affected looks seed n t ≡ b → b ≡ false
      by true e = let k : true ≡ false = sym (affected_least looks seed reached closed.seeds closed.closed n t e) ∙ h in cc
      by false e = refl

  -- a seed, or what looks at what is affected
  abbrev held : Look → Bool
  held t = seed t || some_look reached (looks t)

  within : (t : Look) → held t ≡ true → reached t ≡ true
  within t h = elim (or_cases (seed t) (some_look reached (looks t)) h) [ inl s ↦ closed.seeds t s | inr l ↦ closed.closed t l ]

  begins : (t : Look) → seed t ≡ true → held t ≡ true
  begins t s = or_left (seed t) (some_look reached (looks t)) s

  follows : (t : Look) → some_look held (looks t) ≡ true → held t ≡ true
  follows t h = or_right (seed t) (some_look reached (looks t)) (some_look_within held reached within (looks t) h)

  pub by_looks : (node : Look) → AffectedByLooks model old new node
  by_looks node = told_alike (reached node) (held node) (closed.least held begins follows node) (within node)
