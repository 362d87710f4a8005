-- Steps in a row with their faults marked.
use Rattle.std.proofs.Common.{◌≡◌, ℕ, Result, Ok, Err, refl, sym, ap, ◌∙◌}
use Rattle.mq_values.specs.Answers.{Gives, result_map}
use Rattle.mq_values.specs.declared.faults.FaultKind.{FaultKind}
use Rattle.mq_values.specs.declared.faults.QueryFault.{QueryFault}
use Rattle.mq_values.specs.declared.memory.Fail.{Fail}
use Rattle.mq_values.specs.declared.memory.Fail.TheVariants as fail
use Rattle.mq_ir.specs.declared.query.RefArray.{RefArray}
use Rattle.mq_ir.specs.Answer.{plain_fault}
use Rattle.mq_ir.specs.Partitions.{Cells}
use Rattle.mq_ir.specs.Results.{◌>>=◌, marked}
use Rattle.mq_scalar.specs.WalkLaws.{fault_is_last}
use Rattle.mq_sources.specs.References.{cells_of_array}

module _ {A B E F : Type 0} (mark : E → F) where
  first_fault : (r : Result A E) (f : A → Result B E) (fault : F) → marked mark r ≡ Err fault → marked mark (r >>= f) ≡ Err fault
  first_fault (Ok x) f fault h = absurd (cc)
  first_fault (Err k) f fault h = let e : mark k ≡ fault = cc in ap Err e

  -- where the first step gives none, both do
  pub first_exit : (r : Result A E) (f : A → Result B E) (e : Fail F) → Gives {T = A} (Err e) (marked mark r) → Gives {T = B} (Err e) (marked mark (r >>= f))
  first_exit r f e h = fault_is_last (marked mark r) (marked mark (r >>= f)) e h (first_fault r f)

  pub then_second : (r : Result A E) (f : A → Result B E) (x : A) → marked mark r ≡ Ok x → marked mark (r >>= f) ≡ marked mark (f x)
  then_second (Ok y) f x h = let e : y ≡ x = cc in ap (λ z. marked mark (f z)) e
  then_second (Err k) f x h = absurd (cc)

pub marked_twice : {A E F G : Type 0} (inner : E → F) (outer : F → G) (r : Result A E) → marked (λ k. outer (inner k)) r ≡ marked outer (marked inner r)
marked_twice inner outer (Ok x) = refl
marked_twice inner outer (Err k) = refl

-- the same fault of another rule
pub of_rule : {A : Type 0} (r : Result A FaultKind) (rule : ℕ) (fault : QueryFault) → marked (plain_fault 0) r ≡ Err fault → marked (plain_fault rule) r ≡ Err (plain_fault rule fault.kind)
of_rule (Ok x) rule fault h = absurd (cc)
of_rule (Err k) rule fault h = let e : plain_fault 0 k ≡ fault = cc in ap (λ (f : QueryFault). Err (plain_fault rule f.kind)) e

-- no fault, whatever marks it
pub of_no_rule : {A : Type 0} (r : Result A FaultKind) (rule : ℕ) (x : A) → marked (plain_fault 0) r ≡ Ok x → marked (plain_fault rule) r ≡ Ok x
of_no_rule (Ok y) rule x h = let e : y ≡ x = cc in ap Ok e
of_no_rule (Err k) rule x h = absurd (cc)

abbrev with_cells : Cells → RefArray
with_cells cells = record { cells = cells }

unwrapped : (meant : Result Cells QueryFault) → result_map cells_of_array (result_map with_cells meant) ≡ meant
unwrapped (Ok cells) = refl
unwrapped (Err fault) = refl

-- the cells of an array are those that it was made of
pub cells_given : (result : Result RefArray (Fail QueryFault)) (meant : Result Cells QueryFault) → Gives result (result_map with_cells meant) → Gives (result_map cells_of_array result) meant
cells_given (Ok array) meant h = sym (unwrapped meant) ∙ ap (result_map cells_of_array) h
cells_given (Err (fail.Cause fault)) meant h = sym (unwrapped meant) ∙ ap (result_map cells_of_array) h
cells_given (Err fail.Memory) meant h = tt
