-- How far a source was read and a sink was written, where the bytes are told.
use Rattle.std.specs.Prelude.{◌≡◌, Bool, true, false, ℕ, ◌+◌, ◌<◌, ◌≤◌, List, [], ◌++◌, length, ⊤, Option, None, Some, Result, MatchResult}
use Rattle.std.specs.Io.KnownBytes.{Appends, Consumes, IsAtEnd}
use Rattle.mq_io.specs.declared.faults.ReadFault.{ReadFault}
use Rattle.mq_io.specs.declared.faults.ReadFault.TheVariants.{TooLong, Failed, Memory}

-- the source gave more than n bytes: of what it had left, what it has left now is shorter by more
abbrev pub GaveMore : ℕ → Option (List ℕ) → Option (List ℕ) → Type 0
GaveMore n None new = ⊤
GaveMore n (Some xs) None = ⊥
GaveMore n (Some xs) (Some ys) = n + length ys < length xs

-- the source gave at most n bytes
abbrev pub GaveAtMost : ℕ → Option (List ℕ) → Option (List ℕ) → Type 0
GaveAtMost n None new = ⊤
GaveAtMost n (Some xs) None = ⊥
GaveAtMost n (Some xs) (Some ys) = length xs ≤ n + length ys

-- the fault is `TooLong` where the source gave more than the limit, and another where it didn't
abbrev pub FaultJudges : ℕ → Option (List ℕ) → Option (List ℕ) → ReadFault → Type 0
FaultJudges limit old new TooLong = GaveMore limit old new
FaultJudges limit old new Failed = GaveAtMost limit old new
FaultJudges limit old new Memory = GaveAtMost limit old new

-- the answer is `TooLong` exactly where the source gave more than the limit
abbrev pub JudgesLength : {T : Type 0} → ℕ → Option (List ℕ) → Option (List ℕ) → Result T ReadFault → Type 0
JudgesLength limit old new answer = MatchResult answer (λ _. GaveAtMost limit old new) (FaultJudges limit old new)

-- a front of all was written, perhaps nothing and perhaps the whole
abbrev pub AppendsFront : Option (List ℕ) → Option (List ℕ) → List ℕ → Type 0
AppendsFront old new all = (front : List ℕ) × (back : List ℕ) × (all ≡ front ++ back) × Appends old new front

-- one read put a piece behind the bytes: an empty one only at the end
pub record ReadsMore (old new : Option (List ℕ)) (before after : List ℕ) (more : Bool) : Type 0 where
  pub piece : List ℕ
  pub appended : after ≡ before ++ piece
  pub consumed : Consumes old new piece
  pub longer : more ≡ true → 0 < length piece
  pub end : more ≡ false → (piece ≡ []) × IsAtEnd new
