-- AND and OR as far as a loop has come.
use Rattle.std.proofs.Common.{Ok}
use Rattle.mq_values.specs.Truth.{Truth, both, either}
use Rattle.mq_ir.specs.Results.{◌>>=◌}
use Rattle.mq_ir.specs.Worth.{Verdict}

-- what an AND comes to whose first operands came to t, where those that are left come to `left`
abbrev pub and_left : Truth → Verdict → Verdict
and_left t left = left >>= (λ u. Ok (both t u))

-- an OR likewise
abbrev pub or_left : Truth → Verdict → Verdict
or_left t left = left >>= (λ u. Ok (either t u))
