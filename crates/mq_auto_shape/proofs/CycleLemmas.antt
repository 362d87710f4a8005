-- The least (rule, cell) of assignments.
use Rattle.std.proofs.Common.{◌≡◌, ℕ, ◌+◌, ◌<◌, List, [], ◌∷◌, ◌++◌, drop, length, get_or, Bool, true, false, map, Option, Some, None, slice_get, if◌then◌else◌, Ordering, refl, sym, ap, ◌∙◌}
use Rattle.std.specs.List.{cons_option, filter_map}
use Rattle.std.specs.Option.{option_map}
use Rattle.std.specs.Ordering.{is_gt, nat_cmp, ordering_then}
use Rattle.mq_values.specs.declared.faults.FaultKind.TheVariants as kind
use Rattle.mq_values.specs.Order.{cmp_key}
use Rattle.mq_ir.specs.Keys.{Tuple}
use Rattle.mq_ir.specs.Partitions.{ascending, placed}
use Rattle.mq_ir.specs.Placed.{Placed, placed_fault}
use Rattle.mq_ir.specs.Shape.{Assignment, cmp_by_rule, least_of}
use Rattle.mq_auto_shape.specs.Outcomes.{by_rule, cycle_at}
use Rattle.mq_ir.specs.StepLaws.{next_item}
use Rattle.mq_auto_shape.proofs.GrowthLemmas.{least_front}

abbrev pub cmp_pair : ℕ × Tuple → ℕ × Tuple → Ordering
cmp_pair x y = ordering_then (nat_cmp x.0 y.0) (cmp_key x.1 y.1)

mapped_placed : (x : Assignment) (ys : List Assignment) → map by_rule (placed cmp_by_rule x ys) ≡ placed cmp_pair (by_rule x) (map by_rule ys)
mapped_placed x [] = refl
mapped_placed x (y ∷ ys) = by (is_gt (cmp_by_rule x y)) (mapped_placed x ys)
  where
    by : (b : Bool) → map by_rule (placed cmp_by_rule x ys) ≡ placed cmp_pair (by_rule x) (map by_rule ys)
        → map by_rule (if b then y ∷ placed cmp_by_rule x ys else x ∷ y ∷ ys) ≡ (if b then by_rule y ∷ placed cmp_pair (by_rule x) (map by_rule ys) else by_rule x ∷ by_rule y ∷ map by_rule ys)
    by true h = ap (λ l. by_rule y ∷ l) h
    by false h = refl

mapped_ascending : (xs : List Assignment) → map by_rule (ascending cmp_by_rule xs) ≡ ascending cmp_pair (map by_rule xs)
mapped_ascending [] = refl
mapped_ascending (x ∷ xs) = mapped_placed x (ascending cmp_by_rule xs) ∙ ap (placed cmp_pair (by_rule x)) (mapped_ascending xs)

first_mapped : (xs : List Assignment) → slice_get (map by_rule xs) 0 ≡ option_map by_rule (slice_get xs 0)
first_mapped [] = refl
first_mapped (x ∷ xs) = refl

least_mapped : (xs : List Assignment) → least_of cmp_pair (map by_rule xs) ≡ option_map by_rule (least_of cmp_by_rule xs)
least_mapped xs = sym (ap (λ l. slice_get l 0) (mapped_ascending xs)) ∙ first_mapped (ascending cmp_by_rule xs)

-- the fault of a (rule, cell)
abbrev pub named : ℕ × Tuple → Placed
named x = placed_fault x.0 x.1 kind.Cycle

named_mapped : (o : Option Assignment) → option_map named (option_map by_rule o) ≡ option_map (λ a. placed_fault a.2 a.0 kind.Cycle) o
named_mapped None = refl
named_mapped (Some a) = refl

-- only of no items there is no least
pub least_none : {K : Type 0} (cmp : K → K → Ordering) (xs : List K) → None ≡ least_of cmp xs → xs ≡ []
least_none cmp [] h = refl
least_none cmp (x ∷ xs) h = let e = least_front cmp x (ascending cmp xs) in cc

pub cycle_is : (xs : List Assignment) → option_map named (least_of cmp_pair (map by_rule xs)) ≡ cycle_at xs
cycle_is xs = ap (option_map named) (least_mapped xs) ∙ named_mapped (least_of cmp_by_rule xs)

-- ---- a list that grows by the assignment at one place after another
joined : {X : Type 0} (xs : List X) (x : X) (rest : List X) → (xs ++ x ∷ []) ++ rest ≡ xs ++ x ∷ rest
joined [] x rest = refl
joined (y ∷ xs) x rest = ap (λ l. y ∷ l) (joined xs x rest)

pub cells_more : (assigned : List Assignment) (places : List ℕ) (cells after all : List (ℕ × Tuple)) (i place : ℕ) (a : Assignment)
    → i < length places → place ≡ get_or places i place → slice_get assigned place ≡ Some a → after ≡ cells ++ by_rule a ∷ []
    → cells ++ map by_rule (filter_map (slice_get assigned) (drop i places)) ≡ all
    → after ++ map by_rule (filter_map (slice_get assigned) (drop (i + 1) places)) ≡ all
cells_more assigned places cells after all i place a lt is at e w =
    let rest : List Assignment = filter_map (slice_get assigned) (drop (i + 1) places) in
    ap (λ l. l ++ map by_rule rest) e ∙ joined cells (by_rule a) (map by_rule rest)
    ∙ sym (ap (λ l. cells ++ map by_rule (filter_map (slice_get assigned) l)) (next_item places i place lt is) ∙ ap (λ (o : Option Assignment). cells ++ map by_rule (cons_option o rest)) at)
    ∙ w
