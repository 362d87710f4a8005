-- Whether one of the looks of an assignment is known, by those at measures that are wanted, as parts.
use Rattle.std.proofs.Common.{◌≡◌, ℕ, zero, suc, ◌+◌, ◌-◌, ◌<◌, ◌≤◌, Bool, true, false, ◌||◌, cond, List, [], ◌∷◌, ◌++◌, drop, get_or, length, take, refl, sym, ap, ◌∙◌, arith}
use Rattle.std.specs.Prelude.{slice_get, slice_index_or, Option, Some}
use Rattle.std.specs.List.{filter, find, list_any}
use Rattle.std.specs.Option.{option_map_or}
use Rattle.std.proofs.lemmas.List.{drop_all}
use Rattle.std.proofs.lemmas.List.Concat.{flat_map-cons}
use Rattle.mq_values.specs.ListLaws.{next_item}
use Rattle.mq_ir.specs.declared.query.CellName.{CellName}
use Rattle.mq_ir.specs.declared.query.Look.{Look}
use Rattle.mq_ir.specs.declared.query.Look.TheVariants.{Measure, Presence}
use Rattle.mq_ir.specs.declared.query.PartShape.{PartShape}
use Rattle.mq_ir.specs.Keys.{Tuple}
use Rattle.mq_ir.specs.declared.query.Rule.{Rule}
use Rattle.mq_ir.specs.Looks.{looks_at, looks_of}
use Rattle.mq_ir.specs.Shape.{Assignment, assigns}
use Rattle.mq_ir.specs.Slots.{site_in}
use Rattle.mq_ir.specs.Unfolding.{Model}
use Rattle.mq_cells.specs.Stores.{cell_name}
use Rattle.mq_change_laws.specs.ChangeLaws.{SameLooksAreOne}
use Rattle.mq_auto_shape.specs.Edges.{looks_by}
use Rattle.mq_refs.specs.LookParts.{is_wanted, looks_in, looks_of_part}
use Rattle.mq_refs.specs.declared.parts.LookPart.{LookPart}
use Rattle.mq_refs.specs.declared.parts.LookPart.TheVariants as part
use Rattle.mq_refs.specs.Sites.{site_with}
use Rattle.mq_delta_cells.specs.Seeds.{is_moved}
use Rattle.mq_delta_cells.specs.Marks.{Marks, is_marked}
use Rattle.mq_delta_cells.specs.Walks.{ground_for, is_hit, is_known_in}
use Rattle.mq_delta_cells.proofs.DueLemmas.{outside_none, presence_none}
use Rattle.mq_delta_cells.proofs.TargetLemmas.{target_same}

any_append : {A : Type 0} (f : A → Bool) (xs ys : List A) → list_any f (xs ++ ys) ≡ (list_any f xs || list_any f ys)
any_append f [] ys = refl
any_append f (x ∷ xs) ys = ap (λ b. f x || b) (any_append f xs ys) ∙ grouped (f x) (list_any f xs) (list_any f ys)
  where
    grouped : (a b c : Bool) → (a || (b || c)) ≡ ((a || b) || c)
    grouped true b c = refl
    grouped false b c = refl

-- a test that holds of nothing that two others leave out
any_parted : {A : Type 0} (f p q : A → Bool) → ((x : A) → p x ≡ false → q x ≡ false → f x ≡ false) → (xs : List A)
    → list_any f xs ≡ (list_any f (filter p xs) || list_any f (filter q xs))
any_parted f p q none [] = refl
any_parted f p q none (x ∷ xs) = by (p x) refl (q x) refl (any_parted f p q none xs)
  where
    both : (a b c : Bool) → (a || (b || c)) ≡ ((a || b) || (a || c))
    both true b c = refl
    both false b c = refl

    first : (a b c : Bool) → (a || (b || c)) ≡ ((a || b) || c)
    first true b c = refl
    first false b c = refl

    second : (a b c : Bool) → (a || (b || c)) ≡ (b || (a || c))
    second true true c = refl
    second true false c = refl
    second false b c = refl

    by : (a : Bool) → p x ≡ a → (b : Bool) → q x ≡ b → list_any f xs ≡ (list_any f (filter p xs) || list_any f (filter q xs))
        → (f x || list_any f xs) ≡ (list_any f (cond a (x ∷ filter p xs) (filter p xs)) || list_any f (cond b (x ∷ filter q xs) (filter q xs)))
    by true g true h e = ap (λ b. f x || b) e ∙ both (f x) (list_any f (filter p xs)) (list_any f (filter q xs))
    by true g false h e = ap (λ b. f x || b) e ∙ first (f x) (list_any f (filter p xs)) (list_any f (filter q xs))
    by false g true h e = ap (λ b. f x || b) e ∙ second (f x) (list_any f (filter p xs)) (list_any f (filter q xs))
    by false g false h e = ap (λ b. b || list_any f xs) (none x g h) ∙ e

-- ---- parts, one after another
pub parts_next : (f : Look → Bool) (set : List Tuple) (parts : List LookPart) (i : ℕ) (p : LookPart) → i < length parts → p ≡ get_or parts i p
    → list_any f (looks_in set (drop i parts)) ≡ (list_any f (looks_of_part set p) || list_any f (looks_in set (drop (i + 1) parts)))
parts_next f set parts i p l at =
    ap (λ (ps : List LookPart). list_any f (looks_in set ps)) (next_item parts i p l at)
    ∙ ap (list_any f) (flat_map-cons (looks_of_part set) p (drop (i + 1) parts))
    ∙ any_append f (looks_of_part set p) (looks_in set (drop (i + 1) parts))

pub parts_end : (f : Look → Bool) (set : List Tuple) (parts : List LookPart) (i : ℕ) → length parts ≤ i → list_any f (looks_in set (drop i parts)) ≡ false
parts_end f set parts i l = ap (λ (ps : List LookPart). list_any f (looks_in set ps)) (drop_all i parts l)

pub one_known : (f : Look → Bool) (set : List Tuple) (c : CellName) → list_any f (looks_of_part set (part.Measure c)) ≡ f (Measure c)
one_known f set c = by (f (Measure c))
  where
    by : (b : Bool) → (b || false) ≡ b
    by true = refl
    by false = refl

-- ---- the cells of a run, one after another
pub run_next : (f : Look → Bool) (m : ℕ) (set : List Tuple) (place past : ℕ) (other : Tuple) → place < past → past ≤ length set
    → list_any f (looks_at m (take (past - place) (drop place set)))
    ≡ (f (Measure (cell_name (slice_index_or set place other) m)) || list_any f (looks_at m (take (past - (place + 1)) (drop (place + 1) set))))
run_next f m set place past other l within =
    let key : Tuple = slice_index_or set place other in
    let left : past - place ≡ suc (past - (place + 1)) = omega (arith, l) in
    let inside : place < length set = omega (arith, l, within) in
    (λ i. list_any f (looks_at m (take (left i) (next_item set place key inside (in_range set place other key inside) i))))
  where
    in_range : {X : Type 0} (xs : List X) (n : ℕ) (d e : X) → n < length xs → get_or xs n d ≡ get_or xs n e
    in_range [] n d e h = absurd (omega (arith, h))
    in_range (x ∷ xs) zero d e h = refl
    in_range (x ∷ xs) (suc n) d e h = in_range xs n d e (omega (arith, h))

pub run_end : (f : Look → Bool) (m : ℕ) (set : List Tuple) (place past : ℕ) → past ≤ place → list_any f (looks_at m (take (past - place) (drop place set))) ≡ false
run_end f m set place past l =
    let none : past - place ≡ 0 = omega (arith, l) in
    ap (λ n. list_any f (looks_at m (take n (drop place set)))) none

-- ---- what an assignment looks at, over the cells of a course
pub looks_are_parted : (model : Model) (shape : PartShape) (cells : List Tuple) (a : Assignment) (r : Rule) → cells ≡ shape.cells → slice_get model.part.rules (a.2 - 1) ≡ Some r
    → looks_of (site_with model 0 a.0 cells) r.right ≡ looks_by model shape a
looks_are_parted model shape cells a r set there =
    ap (λ (set : List Tuple). looks_of (site_with model 0 a.0 set) r.right) set
    ∙ ap (λ (o : Option Rule). option_map_or (λ rule. looks_of (site_in model shape 0 a.0) rule.right) o []) (sym there)

-- ---- what moved and what changed
module _ (model : Model) (old new : PartShape) (moved : List CellName) (keys : List Tuple) (names changed : Marks) (same : old ≡ new)
    (moved_are : (c : CellName) → is_marked keys names c ≡ is_moved moved c) (in_names in_changed : List Bool)
    (names_none : (c : CellName) → slice_index_or in_names c.measure false ≡ false → (keys : List Tuple) → is_marked keys names c ≡ false)
    (changed_none : (c : CellName) → slice_index_or in_changed c.measure false ≡ false → (keys : List Tuple) → is_marked keys changed c ≡ false) where
  unknown : (u : Look) → is_wanted in_changed u ≡ false → is_wanted in_names u ≡ false → is_known_in (ground_for model old new moved) changed u ≡ false
  unknown (Presence key) h g = presence_none old new moved same key
  unknown (Measure c) h g =
      (λ i. changed_none c h new.cells i || (ground_for model old new moved).outside (Measure c))
      ∙ outside_none old new moved same c (sym (moved_are c) ∙ names_none c g keys)

  -- an assignment is hit where one of its looks is known at a measure of which one changed or moved
  pub hit_parted : (a : Assignment) → find (assigns a.1 a.0) new.assigned ≡ Some a → ((xs ys : List Look) → SameLooksAreOne xs ys)
      → is_hit (ground_for model old new moved) changed a
      ≡ (list_any (is_known_in (ground_for model old new moved) changed) (filter (is_wanted in_changed) (looks_by model new a))
      || list_any (is_known_in (ground_for model old new moved) changed) (filter (is_wanted in_names) (looks_by model new a)))
  hit_parted a own law =
      let known = is_known_in (ground_for model old new moved) changed in
      ap (λ b. b || list_any known (looks_by model new a)) (sym (target_same model old new moved a own law same))
      ∙ any_parted known (is_wanted in_changed) (is_wanted in_names) unknown (looks_by model new a)
