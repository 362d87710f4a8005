-- The partitions of a view, one after another.
use Rattle.std.proofs.Common.{◌≡◌, ◌+◌, ◌<◌, List, [], ◌∷◌, ◌++◌, map, take, drop, length, get_or, refl, sym, ap, ◌∙◌, map-id}
use Rattle.std.specs.List.{All, AllByRecursion}
use Rattle.std.proofs.lemmas.List.{take-append-drop}
use Rattle.std.proofs.lemmas.List.Elements.{All-from_recursion, All-cons, All-nil, recursion_from_All}
use Rattle.mq_values.specs.ListLaws.{next_item}
use Rattle.mq_ir.specs.declared.query.ModelPart.{ModelPart}
use Rattle.mq_ir.specs.declared.query.PartInput.{PartInput}
use Rattle.mq_ir.specs.Partitions.{Cells, Tuple}
use Rattle.mq_ir.specs.Ready.{IsReady}
use Rattle.mq_ir.specs.Unfolding.{Model}
use Rattle.mq_kept.specs.Kept.{IsRight, inputs_of, model_with, unsettled}

-- what was taken, the item that is taken now, and what is left
pub taken_is : {A : Type 0} (all gone : List A) (x : A) → map (λ y. y) gone ≡ take (length gone) all → (length gone < length all) × (x ≡ get_or all (length gone) x)
    → all ≡ gone ++ x ∷ drop (length gone + 1) all
taken_is all gone x front at =
    sym (take-append-drop (length gone) all) ∙ (λ i. (sym front ∙ map-id gone) i ++ next_item all (length gone) x at.0 at.1 i)

-- what holds of all holds of the one between
pub holds_between : {A : Type 0} (P : A → Type 0) (gone : List A) (x : A) (rest : List A) → All P (gone ++ x ∷ rest) → P x
holds_between {A} P gone x rest h = by gone (recursion_from_All P (gone ++ x ∷ rest) h)
  where
    by : (front : List A) → AllByRecursion P (front ++ x ∷ rest) → P x
    by [] a = a.0
    by (y ∷ ys) a = by ys a.1

-- one more partition behind those that were made
pub all_further : {A : Type 0} (P : A → Type 0) (xs : List A) (x : A) → All P xs → P x → All P (xs ++ x ∷ [])
all_further P [] x h p = All-cons P x [] p (All-nil P)
all_further P (y ∷ ys) x h p =
    let a = recursion_from_All P (y ∷ ys) h in All-cons P y (ys ++ x ∷ []) a.0 (all_further P ys x (All-from_recursion P ys a.1) p)

-- the inputs of partitions of which nothing was found yet
pub unsettled_inputs : (inputs : List PartInput) → inputs_of (map unsettled inputs) ≡ inputs
unsettled_inputs [] = refl
unsettled_inputs (p ∷ ps) = ap (λ (rest : List PartInput). p ∷ rest) (unsettled_inputs ps)

-- .. are right for any model of which they are ready
pub unsettled_right : (model : Model) (inputs : List PartInput) → All (IsReady model.part) inputs → All (IsRight model) (map unsettled inputs)
unsettled_right model inputs h = All-from_recursion (IsRight model) (map unsettled inputs) (by inputs (recursion_from_All (IsReady model.part) inputs h))
  where
    by : (ps : List PartInput) → AllByRecursion (IsReady model.part) ps → AllByRecursion (IsRight model) (map unsettled ps)
    by [] a = tt
    by (p ∷ ps) a = (record { ready = a.0; found = tt; shown = tt }, by ps a.1)

-- a model by its lists and arrays
pub same_model : (part : ModelPart) (lists other : List (List Tuple)) (refs more : List Cells) → lists ≡ other → refs ≡ more → model_with part lists refs ≡ model_with part other more
same_model part lists other refs more e f = λ i. model_with part (e i) (f i)
