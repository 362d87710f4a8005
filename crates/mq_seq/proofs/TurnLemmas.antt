-- Turns, one after another.
use Rattle.std.proofs.Common.{◌≡◌, ℕ, suc, ◌+◌, ◌-◌, ◌<◌, Bool, true, false, Result, Ok, Err, ap, ◌∙◌, arith}
use Rattle.mq_values.specs.Answers.{Gives}
use Rattle.mq_values.specs.declared.memory.Fail.{Fail}
use Rattle.mq_ir.specs.Placed.{Placed}
use Rattle.mq_ir.specs.Results.{◌>>=◌}
use Rattle.mq_ir.specs.Unfolding.{Model}
use Rattle.mq_seq.specs.Steps.{State, turn_with, turns_done, until_in}
use Rattle.mq_ir.specs.StepLaws.{fault_is_last}

-- the state when a turn begins, of so many
pub record Rounds (model : Model) (count : ℕ) (first : State) (turn : ℕ) (now : State) : Type 0 where
  pub is : turns_done model 0 count first ≡ turns_done model turn (count - turn) now

module _ (model : Model) (count : ℕ) (first : State) where
  -- what comes behind a turn
  abbrev behind : ℕ → State × Bool → Result State Placed
  behind turn ended = elim ended.1 [ true ↦ Ok ended.0 | false ↦ turns_done model (turn + 1) (count - (turn + 1)) ended.0 ]

  one_more : (turn : ℕ) (now : State) → turn < count → Rounds model count first turn now
      → turns_done model 0 count first ≡ (turn_with model turn (until_in model) now >>= behind turn)
  one_more turn now h w =
      let e : count - turn ≡ suc (count - (turn + 1)) = omega arith in
      w.is ∙ ap (λ n. turns_done model turn n now) e

  pub rounds_next : (turn : ℕ) (now next : State) → turn < count → turn_with model turn (until_in model) now ≡ Ok (next, false)
      → Rounds model count first turn now → Rounds model count first (turn + 1) next
  rounds_next turn now next h g w = record { is = one_more turn now h w ∙ ap (λ r. r >>= behind turn) g }

  pub rounds_last : (turn : ℕ) (now next : State) → turn < count → turn_with model turn (until_in model) now ≡ Ok (next, true)
      → Rounds model count first turn now → turns_done model 0 count first ≡ Ok next
  rounds_last turn now next h g w = one_more turn now h w ∙ ap (λ r. r >>= behind turn) g

  pub rounds_exit : (turn : ℕ) (now : State) (e : Fail Placed) → turn < count → Rounds model count first turn now
      → Gives {T = State × Bool} (Err e) (turn_with model turn (until_in model) now) → Gives {T = State} (Err e) (turns_done model 0 count first)
  rounds_exit turn now e h w g =
      fault_is_last (turn_with model turn (until_in model) now) (turns_done model 0 count first) e g
      (λ fault is. one_more turn now h w ∙ ap (λ r. r >>= behind turn) is)
