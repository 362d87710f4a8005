-- A rule at a target over two sides of a change, of which no look is a seed.
use Rattle.std.proofs.Common.{◌≡◌, ℕ, Bool, true, false, not, ◌&&◌, ◌||◌, List, [], ◌∷◌, ◌++◌, Option, Some, None, Result, Ok, Err, refl, sym, ap, subst, ◌∙◌, eqb}
use Rattle.std.specs.List.{filter, flat_map, list_any, zip}
use Rattle.std.specs.List.Sorted.{IsStrictlySortedBy}
use Rattle.std.specs.Option.{option_and_then}
use Rattle.std.specs.Prelude.{◌-◌, slice_get, unwrap_or}
use Rattle.std.proofs.lemmas.Bool.{and_from, and_parts, or_parts, eqb-true, eq-eqb}
use Rattle.mq_values.specs.Order.{cmp_key}
use Rattle.mq_values.specs.declared.faults.ValueFault.{ValueFault}
use Rattle.mq_values.specs.declared.operators.DimTest.{DimTest}
use Rattle.mq_ir.specs.declared.expression.Expr.TheOpen as layer
use Rattle.mq_ir.specs.declared.expression.Leaf.{Leaf, out-Leaf}
use Rattle.mq_ir.specs.declared.query.Look.{Look}
use Rattle.mq_ir.specs.declared.query.Look.TheVariants.{Measure, Presence}
use Rattle.mq_ir.specs.declared.query.PartShape.{PartShape}
use Rattle.mq_ir.specs.declared.query.Rule.{Rule}
use Rattle.mq_ir.specs.declared.query.Slot.{Slot}
use Rattle.mq_ir.specs.Affected.{Side, are_same_looks, is_in_one, is_same_look, is_seed}
use Rattle.mq_ir.specs.Automatic.{assigning_rule, cell_of, rule_at}
use Rattle.mq_ir.specs.EachLaws.{Each}
use Rattle.mq_ir.specs.Keys.{Tuple, is_among, is_same}
use Rattle.mq_ir.specs.Looks.{layer_looks, leaf_looks, leaves_of, looks_at, looks_named, looks_of}
use Rattle.mq_ir.specs.ReadLaws.{SameLooks, SamePresence, SameStep}
use Rattle.mq_ir.specs.Reads.{LeafLayer, Site, inner_leaves}
use Rattle.mq_ir.specs.Results.{◌>>=◌, each}
use Rattle.mq_ir.specs.Rounds.{some_look}
use Rattle.mq_ir.specs.Slots.{cell_slot, site_in}
use Rattle.mq_ir.specs.Targets.{meets_every}
use Rattle.mq_ir.specs.Unfolding.{Model, test_of}
use Rattle.mq_change_laws.specs.ChangeLaws.{SameLooksAreOne, StepsAlike}
use Rattle.mq_change_laws.specs.NodeLaws.{looked, stepped}
use Rattle.mq_change_laws.specs.SoundLaws.{same_is}
use Rattle.mq_change_laws.specs.AscentLaws.{one_filter}
use Rattle.mq_change_laws.specs.KeyLaws.{same_itself}

-- the step of a rule over two shapes that agree at its looks: the contract of `same_looks_make_the_same_step`
abbrev pub StepsSame : Type 0
StepsSame = (model : Model) (shape other : PartShape) (turn : ℕ) (rule : Rule) (target : Tuple) → SameStep model shape other turn rule target

-- ---- looks that are found to be the same
one_look : (a b : Look) → is_same_look a b ≡ true → a ≡ b
one_look (Measure a) (Measure b) h =
    let both = and_parts (is_same a.key b.key) (eqb a.measure b.measure) h in
    let key : a.key ≡ b.key = same_is a.key b.key both.0 in
    let measure : a.measure ≡ b.measure = eqb-true a.measure b.measure both.1 in
    λ i. Measure (record { key = key i; measure = measure i })
one_look (Measure a) (Presence b) h = cc
one_look (Presence a) (Measure b) h = cc
one_look (Presence a) (Presence b) h = ap Presence (same_is a b h)

look_itself : (a : Look) → is_same_look a a ≡ true
look_itself (Measure a) = and_from (is_same a.key a.key) (eqb a.measure a.measure) (same_itself a.key) (eq-eqb a.measure a.measure refl)
look_itself (Presence a) = same_itself a

pub one_list : (a b : List Look) → are_same_looks a b ≡ true → a ≡ b
one_list [] [] h = refl
one_list [] (y ∷ ys) h = cc
one_list (x ∷ xs) [] h = cc
one_list (x ∷ xs) (y ∷ ys) h =
    let both = and_parts (is_same_look x y) (are_same_looks xs ys) h in
    let first : x ≡ y = one_look x y both.0 in
    let rest : xs ≡ ys = one_list xs ys both.1 in
    λ i. first i ∷ rest i

pub list_itself : (a : List Look) → are_same_looks a a ≡ true
list_itself [] = refl
list_itself (x ∷ xs) = and_from (is_same_look x x) (are_same_looks xs xs) (look_itself x) (list_itself xs)

pub same_are_one : (a b : List Look) → SameLooksAreOne a b
same_are_one a b = (one_list a b, (λ e. subst (λ c. are_same_looks a c ≡ true) e (list_itself a)))

-- ---- keys that are in both sets or in neither
pub not_in_one : (a b : List Tuple) (key : Tuple) → is_in_one a b key ≡ false → is_among a key ≡ is_among b key
not_in_one a b key h = by (is_among a key) (is_among b key) h
  where
    by : (x y : Bool) → ((x && not y) || (y && not x)) ≡ false → x ≡ y
    by true true h = refl
    by true false h = cc
    by false true h = cc
    by false false h = refl

module _ (model : Model) (old new : Side) (before : IsStrictlySortedBy cmp_key old.shape.cells) (after : IsStrictlySortedBy cmp_key new.shape.cells) where
  abbrev seed : Look → Bool
  seed = is_seed model old new

  -- no look is a seed
  abbrev Calm : List Look → Type 0
  Calm = Each (λ look. seed look ≡ false)

  calm : (looks : List Look) → list_any seed looks ≡ false → Calm looks
  calm [] h = tt
  calm (x ∷ xs) h = let both = or_parts (seed x) (list_any seed xs) h in (both.0, calm xs both.1)

  calm_left : (xs ys : List Look) → Calm (xs ++ ys) → Calm xs
  calm_left [] ys c = tt
  calm_left (x ∷ xs) ys c = (c.0, calm_left xs ys c.1)

  calm_right : (xs ys : List Look) → Calm (xs ++ ys) → Calm ys
  calm_right [] ys c = c
  calm_right (x ∷ xs) ys c = calm_right xs ys c.1

  measure_calm : (m : ℕ) (key : Tuple) → seed (Measure (record { key = key; measure = m })) ≡ false → is_among old.shape.cells key ≡ is_among new.shape.cells key
  measure_calm m key h = not_in_one old.shape.cells new.shape.cells key (or_parts (is_in_one old.shape.cells new.shape.cells key) _ h).0

  cells_calm : (m : ℕ) (keys : List Tuple) → Calm (looks_at m keys) → Each (λ q. is_among old.shape.cells q ≡ is_among new.shape.cells q) keys
  cells_calm m [] c = tt
  cells_calm m (key ∷ keys) c = (measure_calm m key c.0, cells_calm m keys c.1)

  cells_back : (m : ℕ) (keys : List Tuple) → Calm (looks_at m keys) → Each (λ q. is_among new.shape.cells q ≡ is_among old.shape.cells q) keys
  cells_back m [] c = tt
  cells_back m (key ∷ keys) c = (sym (measure_calm m key c.0), cells_back m keys c.1)

  abbrev met : Result (List DimTest) ValueFault → List Tuple → Result (List Tuple) ValueFault
  met r set = r >>= (λ tests. Ok (filter (meets_every tests) set))

  -- a range has the same cells in both sets
  range_alike : (m : ℕ) (r : Result (List DimTest) ValueFault) → Calm (looks_named (looks_at m) (met r old.shape.cells)) → Calm (looks_named (looks_at m) (met r new.shape.cells))
      → looks_named (looks_at m) (met r old.shape.cells) ≡ looks_named (looks_at m) (met r new.shape.cells)
  range_alike m (Ok tests) c d =
      ap (looks_at m)
      (one_filter (meets_every tests) old.shape.cells new.shape.cells before after
      (cells_calm m (filter (meets_every tests) old.shape.cells) c) (cells_back m (filter (meets_every tests) new.shape.cells) d))
  range_alike m (Err fault) c d = refl

  module _ (target : Tuple) where
    abbrev here : Site
    here = site_in model old.shape 0 target

    abbrev there : Site
    there = site_in model new.shape 0 target

    layer_alike : (x : LeafLayer) → Calm (layer_looks here x) → Calm (layer_looks there x) → layer_looks here x ≡ layer_looks there x
    layer_alike (layer.Cell m indices) c d = refl
    layer_alike (layer.Range agg m places) c d = range_alike m (each (λ (kind, place). test_of (inner_leaves here) kind place) (zip model.part.dims places)) c d
    layer_alike (layer.NotNull m indices) c d = refl
    layer_alike (layer.Column item column) c d = refl
    layer_alike (layer.RefCell r m indices) c d = refl
    layer_alike (layer.Cv d) c e = refl
    layer_alike layer.Turn c d = refl
    layer_alike (layer.Present indices) c d = refl
    layer_alike (layer.GroupAgg agg e) c d = refl
    layer_alike (layer.Previous m indices) c d = refl

    leaves_alike : (ls : List Leaf) → Calm (flat_map (leaf_looks here) ls) → Calm (flat_map (leaf_looks there) ls) → SameLooks here new.shape.cells ls
    leaves_alike [] c d = tt
    leaves_alike (l ∷ ls) c d = (
      layer_alike (out-Leaf l) (calm_left (leaf_looks here l) (flat_map (leaf_looks here) ls) c) (calm_left (leaf_looks there l) (flat_map (leaf_looks there) ls) d),
      leaves_alike ls (calm_right (leaf_looks here l) (flat_map (leaf_looks here) ls) c) (calm_right (leaf_looks there l) (flat_map (leaf_looks there) ls) d),
    )

    presence_alike : (looks : List Look) → Calm looks → SamePresence old.shape.base new.shape.base looks
    presence_alike [] c = tt
    presence_alike (Measure x ∷ looks) c = presence_alike looks c.1
    presence_alike (Presence key ∷ looks) c = (not_in_one old.shape.base new.shape.base key c.0, presence_alike looks c.1)

    rule_alike : (law : StepsSame) (rule : Rule) → looks_of here rule.right ≡ looks_of there rule.right → list_any seed (looks_of there rule.right) ≡ false
        → (slots : Look → Slot) → cell_slot model old.shape 0 rule target (λ c. slots (Measure c)) ≡ cell_slot model new.shape 0 rule target (λ c. slots (Measure c))
    rule_alike law rule same none slots =
        let d : Calm (looks_of there rule.right) = calm (looks_of there rule.right) none in
        let c : Calm (looks_of here rule.right) = subst Calm (sym same) d in
        law model old.shape new.shape 0 rule target (leaves_alike (leaves_of rule.right) c d) (presence_alike (looks_of here rule.right) c) (λ c. slots (Measure c))

  node_by : (law : StepsSame) (node : Look) (o : Option Rule) → looked model old.shape node o ≡ looked model new.shape node o → some_look seed (looked model new.shape node o) ≡ false
      → (slots : Look → Slot) → stepped model old.shape node slots o ≡ stepped model new.shape node slots o
  node_by law node None same none slots = refl
  node_by law node (Some rule) same none slots = rule_alike (cell_of node) law rule (ap (λ o. unwrap_or o []) same) none slots

pub steps_alike : (law : StepsSame) (model : Model) (old new : Side) (node : Look) → StepsAlike model old new node
steps_alike law model old new node before after rules looks none slots =
    let same : assigning_rule model old.shape node ≡ assigning_rule model new.shape node = rule_of rules in
    let then : looked model old.shape node (assigning_rule model old.shape node) ≡ looked model new.shape node (assigning_rule model old.shape node) =
    looks ∙ sym (ap (looked model new.shape node) same) in
    node_by model old new before after law node (assigning_rule model old.shape node) then
    (ap (λ o. some_look (is_seed model old new) (looked model new.shape node o)) same ∙ none) slots
    ∙ ap (stepped model new.shape node slots) same
  where
    rule_of : rule_at old.shape node ≡ rule_at new.shape node → assigning_rule model old.shape node ≡ assigning_rule model new.shape node
    rule_of e = ap (λ o. option_and_then (λ number. slice_get model.part.rules (number - 1)) o) e
