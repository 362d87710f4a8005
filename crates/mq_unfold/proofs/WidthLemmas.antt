-- Single left sides have a place for each dimension.
use Rattle.std.proofs.Common.{◌≡◌, ℕ, suc, List, [], ◌∷◌, map, length, Bool, true, false, Result, Ok, Err, Some, refl, sym, ap, subst, ◌∙◌}
use Rattle.std.specs.Prelude.{if◌then◌else◌, nat_lt}
use Rattle.std.specs.List.{enumerate_from}
use Rattle.std.specs.Option.{option_map_or}
use Rattle.std.proofs.lemmas.List.FromFn.{length-enumerate_from, length-map-range_with_len}
use Rattle.mq_values.specs.declared.faults.FaultKind.{FaultKind}
use Rattle.mq_values.specs.declared.faults.FaultKind.TheVariants as fault
use Rattle.mq_values.specs.declared.faults.ValueFault.{ValueFault}
use Rattle.mq_values.specs.declared.limits.TheConstants.{MAX_SINGLE_LEFT_SIDES}
use Rattle.mq_ir.specs.declared.query.Left.{Left}
use Rattle.mq_ir.specs.declared.query.Left.TheVariants.{Places, Tuples}
use Rattle.mq_ir.specs.declared.query.Rule.{Rule}
use Rattle.mq_ir.specs.declared.query.SingleLeft.{SingleLeft}
use Rattle.mq_ir.specs.declared.query.SinglePlace.{SinglePlace}
use Rattle.mq_ir.specs.Combinations.{combinations}
use Rattle.mq_ir.specs.Placed.{kind_of}
use Rattle.mq_ir.specs.Results.{◌>>=◌, each, marked}
use Rattle.mq_ir.specs.Unfolding.{Model, in_order, item_places, kind_at, left_places, single, source_rows, unfold_rule}
use Rattle.mq_unfold.specs.LeftSides.{left_sides_of, rule_of}
use Rattle.mq_ir.specs.Ready.{LeftHasPlaces}
use Rattle.mq_ir.specs.EachLaws.{Each, each_flat, each_mapped, each_of}

-- ---- lengths
length_each : {A B E : Type 0} (f : A → Result B E) (xs : List A) (ys : List B) → each f xs ≡ Ok ys → length ys ≡ length xs
length_each f [] ys h = let e : [] ≡ ys = cc in ap length (sym e)
length_each {A} {B} {E} f (x ∷ xs) ys h = by (f x) (each f xs) (length_each f xs) h
  where
    by : (r : Result B E) (q : Result (List B) E) → ((zs : List B) → q ≡ Ok zs → length zs ≡ length xs) → (r >>= (λ y. q >>= (λ zs. Ok (y ∷ zs)))) ≡ Ok ys → length ys ≡ suc (length xs)
    by (Ok y) (Ok zs) k g = let e : y ∷ zs ≡ ys = cc in ap length (sym e) ∙ ap suc (k zs refl)
    by (Ok y) (Err e) k g = absurd (cc)
    by (Err e) q k g = absurd (cc)

width_of_each : {A : Type 0} (lists : List (List A)) → Each (λ way. length way ≡ length lists) (combinations lists)
width_of_each [] = (refl, tt)
width_of_each {A} (xs ∷ lists) =
    each_flat (λ (way : List A). length way ≡ suc (length lists)) (λ x. map (λ rest. x ∷ rest) (combinations lists))
    (λ x. each_mapped (λ (way : List A). length way ≡ suc (length lists)) (λ rest. x ∷ rest) (λ way. length way ≡ length lists) (λ way h. ap suc h) (combinations lists) (width_of_each lists)) xs

-- ---- single left sides
abbrev Wide : ℕ → List SinglePlace → Type 0
Wide n places = length places ≡ n

module _ (model : Model) (turn : ℕ) where
  abbrev dims : ℕ
  dims = length model.part.dims

  combined_wide : {A : Type 0} (r : Result (List (List SinglePlace)) ValueFault) (xs : List A) → ((lists : List (List SinglePlace)) → r ≡ Ok lists → length lists ≡ length xs) → length xs ≡ dims
      → (all : List (List SinglePlace)) → (r >>= (λ lists. Ok (combinations lists))) ≡ Ok all → Each (Wide dims) all
  combined_wide (Ok lists) xs k e all h =
      let is : combinations lists ≡ all = cc in
      subst (Each (Wide dims)) is
      (subst (λ n. Each (λ way. length way ≡ n) (combinations lists)) (k lists refl ∙ e) (width_of_each lists))
  combined_wide (Err f) xs k e all h = absurd (cc)

  ordered_wide : (order : List ℕ) (r : Result (List (List SinglePlace)) ValueFault) (all : List (List SinglePlace)) → (r >>= (λ rows. Ok (map (in_order dims order) rows))) ≡ Ok all → Each (Wide dims) all
  ordered_wide order (Ok rows) all h =
      let is : map (in_order dims order) rows ≡ all = cc in
      subst (Each (Wide dims)) is (each_of (Wide dims) (in_order dims order) (λ row. length-map-range_with_len _ 0 dims) rows)
  ordered_wide order (Err f) all h = absurd (cc)

  places_wide : (left : Left) (all : List (List SinglePlace)) → LeftHasPlaces dims left → left_places model turn left ≡ Ok all → Each (Wide dims) all
  places_wide (Places items) all fits h =
      combined_wide (each (item_places model turn) (enumerate_from 0 items)) items
      (λ lists is. length_each (item_places model turn) (enumerate_from 0 items) lists is ∙ length-enumerate_from 0 items)
      fits all h
  places_wide (Tuples order source) all fits h = ordered_wide order (source_rows model turn (map (kind_at model) order) source) all h

  limited_wide : (rule : Rule) (r : Result (List (List SinglePlace)) ValueFault) → ((all : List (List SinglePlace)) → r ≡ Ok all → Each (Wide dims) all)
      → (lefts : List SingleLeft)
      → (marked kind_of r >>= (λ all. if nat_lt MAX_SINGLE_LEFT_SIDES (length all) then Err fault.TooManyUnfolded else Ok (map (single rule) all))) ≡ Ok lefts
      → Each (λ left. Wide dims left.places) lefts
  limited_wide rule (Ok all) k lefts h = by (nat_lt MAX_SINGLE_LEFT_SIDES (length all)) h
    where
      by : (b : Bool) → ◌≡◌ {A = Result (List SingleLeft) FaultKind} (if b then Err fault.TooManyUnfolded else Ok (map (single rule) all)) (Ok lefts) → Each (λ left. Wide dims left.places) lefts
      by true g = absurd (cc)
      by false g =
          let is : map (single rule) all ≡ lefts = cc in
          subst (Each (λ left. Wide dims left.places)) is
          (each_mapped (λ (left : SingleLeft). Wide dims left.places) (single rule) (Wide dims) (λ places w. w) all (k all refl))
  limited_wide rule (Err f) k lefts h = absurd (cc)

  -- the single left sides of a rule have a place for each dimension
  pub lefts_wide : (rule : Rule) (lefts : List SingleLeft) → LeftHasPlaces dims rule.left → unfold_rule model rule turn ≡ Ok lefts → Each (λ left. Wide dims left.places) lefts
  lefts_wide rule lefts fits h = limited_wide rule (left_places model turn rule.left) (λ all. places_wide rule.left all fits) lefts h

-- those of the rule of a number
pub lefts_there : (model : Model) (number turn : ℕ) (rule : Rule) → rule_of model.part.rules number ≡ Some rule → left_sides_of model number turn ≡ unfold_rule model rule turn
lefts_there model number turn rule there = ap (λ o. option_map_or (λ (r : Rule). unfold_rule model r turn) o (Ok [])) there
