-- Offences, and going on where there is none.
use Rattle.std.specs.Prelude.{ℕ, List, Bool, true, false, Result, Err}
use Rattle.mq_values.specs.declared.faults.Refused.{Refused}
use Rattle.mq_values.specs.declared.faults.Refused.TheVariants.{UnknownName, DuplicateName, KindMismatch, ModelForm, Limit}

-- what comes next, where the test does not hold
abbrev pub refused_where : {A : Type 0} → Bool → Refused → Result A Refused → Result A Refused
refused_where true refusal next = Err refusal
refused_where false refusal next = next

-- the refusals of binding
abbrev pub unknown_name : List ℕ → Refused
unknown_name = UnknownName

abbrev pub duplicate_name : List ℕ → Refused
duplicate_name = DuplicateName

abbrev pub kind_mismatch : Refused
kind_mismatch = KindMismatch

abbrev pub misuse : ℕ → Refused
misuse = ModelForm

abbrev pub limit : ℕ → Refused
limit = Limit
