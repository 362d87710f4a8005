-- Draws of numbers: each draw leads from one state to the next, and gives a number that depends on the next state alone.
use Rattle.std.specs.Prelude.{ℕ, zero, suc, ◌+◌, ◌*◌, ◌/◌, ◌%◌}
use Rattle.mq_generate.specs.declared.draws.TheConstants.{MULTIPLIER, INCREMENT, STATES, LOW_PART}

-- the state before the first draw
abbrev pub start_of : ℕ → ℕ
start_of number = number % STATES

-- the state after a draw
abbrev pub next_of : ℕ → ℕ
next_of state = (state * MULTIPLIER + INCREMENT) % STATES

-- the number below the limit that is drawn in a state
abbrev pub draw_of : ℕ → ℕ → ℕ
draw_of limit state = (next_of state / LOW_PART) % limit

-- the state after so many draws
unfoldable pub state_after : ℕ → ℕ → ℕ
state_after zero state = state
state_after (suc draws) state = next_of (state_after draws state)
