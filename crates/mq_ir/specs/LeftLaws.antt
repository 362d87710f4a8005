-- What left sides come to.
use Rattle.std.specs.Prelude.{◌≡◌, ℕ, ◌*◌, true, List, [], ◌∷◌, ◌++◌, length, map, not, ◌&&◌, if◌then◌else◌}
use Rattle.std.specs.List.{flat_map}
use Rattle.mq_values.specs.declared.operators.Mode.{Mode}
use Rattle.mq_values.specs.declared.operators.Mode.TheVariants.{Update, Upsert}
use Rattle.mq_ir.specs.declared.query.SingleLeft.{SingleLeft}
use Rattle.mq_ir.specs.Combinations.{combinations}
use Rattle.mq_ir.specs.Keys.{Tuple, is_among}
use Rattle.mq_ir.specs.RowLaws.{times}
use Rattle.mq_ir.specs.Targets.{is_symbolic, targets}

-- UPDATE creates no cell
abbrev pub UpdateCreatesNone : SingleLeft → List Tuple → Type 0
UpdateCreatesNone left set = (targets left Update set).created ≡ []

-- under UPSERT a left side with a symbolic item creates no cell
abbrev pub SymbolCreatesNone : SingleLeft → List Tuple → Type 0
SymbolCreatesNone left set = is_symbolic left ≡ true → (targets left Upsert set).created ≡ []

-- the created cells are the targets that are not there, each once
abbrev pub CreatesWhatIsMissing : SingleLeft → Mode → List Tuple → Type 0
CreatesWhatIsMissing left mode set =
    (key : Tuple) →
    times key (targets left mode set).created ≡ (if is_among (targets left mode set).cells key && not (is_among set key) then 1 else 0)

abbrev pub product_of : List ℕ → ℕ
product_of [] = 1
product_of (n ∷ ns) = n * product_of ns

-- there are as many combinations as the product of the lists says
abbrev pub CountsByProduct : {A : Type 0} → List (List A) → Type 0
CountsByProduct lists = length (combinations lists) ≡ product_of (map length lists)

-- the last list turns fastest: behind each combination of the others stand all its items, in order
abbrev pub LastTurnsFastest : {A : Type 0} → List (List A) → List A → Type 0
LastTurnsFastest lists xs = combinations (lists ++ xs ∷ []) ≡ flat_map (λ front. map (λ x. front ++ x ∷ []) xs) (combinations lists)
