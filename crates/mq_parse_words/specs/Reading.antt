-- What the readers give: which tree reads the tokens from a place on, or that there is none.
use Rattle.std.specs.Prelude.{◌≡◌, ℕ, ◌+◌, ◌≤◌, List, ◌∷◌, length, drop, Result, Ok, Err, ⊤}
use Rattle.mq_values.specs.declared.memory.Fail.{Fail}
use Rattle.mq_values.specs.declared.memory.Fail.TheVariants as fail
use Rattle.mq_values.specs.declared.faults.Refused.{Refused}
use Rattle.mq_values.specs.declared.faults.Refused.TheVariants as refused
use Rattle.mq_lexer.specs.declared.sorts.Token.{Token}
use Rattle.mq_ast.specs.Tokens.{Tok}
use Rattle.mq_ast.specs.Spelling.{toks}

-- the tokens from a place on
abbrev pub from : List Token → ℕ → List Tok
from t at = toks (drop at t)

-- this token stands at a place, and the other place is behind it
abbrev pub Then : Tok → List Token → ℕ → ℕ → Type 0
Then k t at next = (next ≡ at + 1) × (next ≤ length t) × (from t at ≡ k ∷ from t next)

-- a part that may end anywhere
abbrev pub Anywhere : List Tok → Type 0
Anywhere _ = ⊤

-- no tree of this part of the grammar reads tokens from here up to such an end
abbrev pub No : {A : Type 0} → (A → List Tok → List Tok → Type 0) → (List Tok → Type 0) → List Tok → Type 0
No {A} R Stop ts = (a : A) (to : List Tok) → R a ts to → Stop to → ⊥

-- Want of memory says nothing, SYNTAX says P, and nothing else is answered.
abbrev pub Fails : Fail Refused → Type 0 → Type 0
Fails fail.Memory P = ⊤
Fails (fail.Cause refused.Syntax) P = P
Fails (fail.Cause _) P = ⊥

-- What was read is R of the tokens up to the place given, and such an end is there. SYNTAX: no tree is R of the tokens here.
abbrev pub IsRead : {A : Type 0} → (A → List Tok → List Tok → Type 0) → (List Tok → Type 0) → List Token → ℕ
    → Result (A × ℕ) (Fail Refused) → Type 0
IsRead R Stop t at (Ok r) = (at ≤ r.1) × (r.1 ≤ length t) × R r.0 (from t at) (from t r.1) × Stop (from t r.1)
IsRead R Stop t at (Err f) = Fails f (No R Stop (from t at))
