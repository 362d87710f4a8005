-- Parts that stand one behind the other.
use Rattle.std.specs.Prelude.{◌<◌, ◌≤◌, ℕ, List, length, Option, Some, None, Result, Ok, Err}
use Rattle.mq_values.specs.declared.memory.Fail.{Fail}
use Rattle.mq_values.specs.declared.faults.Refused.{Refused}
use Rattle.mq_lexer.specs.declared.sorts.Token.{Token}
use Rattle.mq_ast.specs.Prelude.{ManyOf, Tok}
use Rattle.mq_parse_words.specs.Reading.{from, No, Fails}

-- The next of parts that stand one behind the other: none where the last has ended; SYNTAX where the tokens from here on are none
-- of them up to such an end.
abbrev pub Turns : {A : Type 0} → (A → List Tok → List Tok → Type 0) → (List Tok → Type 0) → (List Tok → Type 0) → List Token → ℕ →
    Result (Option (A × ℕ)) (Fail Refused) → Type 0
Turns R Stop End t at (Ok None) = End (from t at)
Turns R Stop End t at (Ok (Some r)) = (at < r.1) × (r.1 ≤ length t) × R r.0 (from t at) (from t r.1) × Stop (from t r.1)
Turns R Stop End t at (Err f) = Fails f (No (ManyOf R) End (from t at))
