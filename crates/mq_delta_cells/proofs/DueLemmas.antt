-- Which assignments are due for a visit: what is not due the change does not reach, by what is known.
use Rattle.std.proofs.Common.{◌≡◌, ℕ, zero, suc, ◌+◌, ◌<◌, ◌≤◌, Bool, true, false, ◌&&◌, ◌||◌, not, List, [], ◌∷◌, ◌++◌, get_or, length, map, take, Option, Some, None, slice_get, refl, sym, ap, ◌∙◌, inl, inr}
use Rattle.std.specs.Prelude.{is_some, slice_index_or}
use Rattle.std.specs.List.{find, list_any}
use Rattle.std.proofs.lemmas.Bool.{or_cases, or_left, or_parts, or_right}
use Rattle.std.proofs.lemmas.List.{take_all, take_more}
use Rattle.mq_ir.specs.declared.query.CellName.{CellName}
use Rattle.mq_ir.specs.declared.query.Look.{Look}
use Rattle.mq_ir.specs.declared.query.Look.TheVariants.{Measure, Presence}
use Rattle.mq_ir.specs.declared.query.PartShape.{PartShape}
use Rattle.mq_ir.specs.Affected.{is_in_one}
use Rattle.mq_ir.specs.Automatic.{node_of, rule_at}
use Rattle.mq_ir.specs.Keys.{Tuple, is_among}
use Rattle.mq_ir.specs.Shape.{Assignment, assigns}
use Rattle.mq_ir.specs.Unfolding.{Model}
use Rattle.mq_cells.specs.Stores.{is_named}
use Rattle.mq_change_laws.specs.ChangeLaws.{SameLooksAreOne}
use Rattle.mq_auto.specs.Walks.{AreOwn}
use Rattle.mq_auto_shape.specs.Edges.{looks_by}
use Rattle.mq_delta_cells.specs.Readers.{HasMarked, HasReadersOf, Readers, is_due, is_looked_at, may_look}
use Rattle.mq_delta_cells.specs.Seeds.{is_moved, is_told_outside, outside_by}
use Rattle.mq_delta_cells.specs.Marks.{Marks, MarksBy, no_marks}
use Rattle.mq_delta_cells.specs.Walks.{Ground, IsDue, ground_for, is_changed, is_known_in}
use Rattle.mq_delta_cells.proofs.NodeLemmas.{named_itself, named_same}
use Rattle.mq_delta_cells.proofs.StepLemmas.{at_place}
use Rattle.mq_delta_cells.proofs.MarkLemmas.{none_marked}
use Rattle.mq_delta_cells.proofs.TargetLemmas.{target_same}

or_false : (a : Bool) → (a || false) ≡ a
or_false true = refl
or_false false = refl

-- two tests that agree on the presences and on what these look at
any_looked : (p q : Look → Bool) → ((key : Tuple) → p (Presence key) ≡ q (Presence key)) → (xs : List Look)
    → ((c : CellName) → is_looked_at xs c ≡ true → p (Measure c) ≡ q (Measure c)) → list_any p xs ≡ list_any q xs
any_looked p q presences [] h = refl
any_looked p q presences (Measure d ∷ xs) h =
    λ i. h d (or_left (is_named d d) (is_looked_at xs d) (named_itself d)) i
    || any_looked p q presences xs (λ c l. h c (or_right (is_named d c) (is_looked_at xs c) l)) i
any_looked p q presences (Presence key ∷ xs) h = λ i. presences key i || any_looked p q presences xs h i

none_any : (xs : List Look) → list_any (λ u. false) xs ≡ false
none_any [] = refl
none_any (x ∷ xs) = none_any xs

-- the list that stands at the place of an item
mapped_at : {A B : Type 0} (f : A → List B) (xs : List A) (k : ℕ) (x : A) → slice_get xs k ≡ Some x → slice_index_or (map f xs) k [] ≡ f x
mapped_at f [] k x h = cc
mapped_at f (y ∷ ys) zero x h = let e : y ≡ x = cc in ap f e
mapped_at f (y ∷ ys) (suc k) x h = mapped_at f ys k x h

not_read : (keys : List Tuple) (readers : Option Readers) (c : CellName) (place : ℕ) (looks : List (List Look)) → HasReadersOf keys looks readers
    → may_look keys readers c place ≡ false → is_looked_at (slice_index_or looks place []) c ≡ false
not_read keys readers c place looks has h = by (is_looked_at (slice_index_or looks place []) c) refl
  where
    by : (b : Bool) → is_looked_at (slice_index_or looks place []) c ≡ b → b ≡ false
    by true e = let k : true ≡ false = sym (has c place e) ∙ h in cc
    by false e = refl

-- one more measure changed, and its readers are due
pub due_next : (g : Ground) (keys : List Tuple) (readers : Option Readers) → HasReadersOf keys (map (looks_by g.model g.shape) g.shape.assigned) readers
    → (changed next : Marks) (name : CellName) (before after : List Bool) → MarksBy g.shape.cells changed next name
    → HasMarked keys readers name before after → IsDue g changed before → IsDue g next after
due_next g keys readers has changed next name before after put marked due place a at h =
    let m = marked place h in
    let was = or_parts (g.told (node_of a)) (list_any (is_known_in g changed) (looks_by g.model g.shape a)) (due place a at m.0) in
    let unread : is_looked_at (looks_by g.model g.shape a) name ≡ false =
    ap (λ (xs : List Look). is_looked_at xs name) (sym (mapped_at (looks_by g.model g.shape) g.shape.assigned place a at))
    ∙ not_read keys readers name place (map (looks_by g.model g.shape) g.shape.assigned) has m.1 in
    ap (λ b. g.told (node_of a) || b) (any_looked (is_known_in g next) (is_known_in g changed) (λ key. refl) (looks_by g.model g.shape a) (λ c l. same c l unread))
    ∙ ap (λ b. b || list_any (is_known_in g changed) (looks_by g.model g.shape a)) was.0 ∙ was.1
  where
    same : (c : CellName) → is_looked_at (looks_by g.model g.shape a) c ≡ true → is_looked_at (looks_by g.model g.shape a) name ≡ false
        → is_known_in g next (Measure c) ≡ is_known_in g changed (Measure c)
    same c l unread = ap (λ b. b || g.outside (Measure c)) (by (is_named name c) refl)
      where
        by : (b : Bool) → is_named name c ≡ b → is_changed g next c ≡ is_changed g changed c
        by true e =
            let one : name ≡ c = named_same name c e in
            absurd (let k : true ≡ false = sym l ∙ ap (is_looked_at (looks_by g.model g.shape a)) (sym one) ∙ unread in cc)
        by false e = put c ∙ ap (λ b. b || is_changed g changed c) e

-- ---- by the rules of two shapes
-- a measure that a rule of the new shape assigns begins nothing
pub outside_ruled : (old new : PartShape) (moved : List CellName) (c : CellName) (was is : Option ℕ) → true ≡ is_some is → false ≡ outside_by old new moved c was is
outside_ruled old new moved c was None e = cc
outside_ruled old new moved c was (Some b) e = refl

-- .. and of any other the old rules tell it, the inputs and what moved
pub outside_unruled : (old new : PartShape) (moved : List CellName) (c : CellName) (was is : Option ℕ) → false ≡ is_some is
    → outside_by old new moved c was is ≡ (is_some was || (is_in_one old.base new.base c.key || is_moved moved c))
outside_unruled old new moved c was None e = refl
outside_unruled old new moved c was (Some b) e = cc

-- ---- at first
pub moved_next : (keys : List Tuple) (readers : Option Readers) (moved : List CellName) (i : ℕ) (name : CellName) (before after : List Bool) → i < length moved → name ≡ get_or moved i name
    → HasMarked keys readers name before after
    → ((place : ℕ) → is_due before place ≡ false → (c : CellName) → is_moved (take i moved) c ≡ true → may_look keys readers c place ≡ false)
    → (place : ℕ) → is_due after place ≡ false → (c : CellName) → is_moved (take (i + 1) moved) c ≡ true → may_look keys readers c place ≡ false
moved_next keys readers moved i name before after l at marked so place h c m =
    let both = marked place h in
    let parted : is_moved (take (i + 1) moved) c ≡ (is_moved (take i moved) c || (is_named c name || false)) =
    ap (λ (xs : List CellName). is_moved xs c) (take_more moved i name l ∙ ap (λ (d : CellName). take i moved ++ d ∷ []) (sym at))
    ∙ any_append (λ d. is_named c d) (take i moved) (name ∷ []) in
    elim (or_cases (is_moved (take i moved) c) (is_named c name || false) (sym parted ∙ m)) [
      | inl a ↦ so place both.0 c a
      | inr b ↦ ap (λ (d : CellName). may_look keys readers d place) (named_same c name (sym (or_false (is_named c name)) ∙ b)) ∙ both.1
    ]
  where
    any_append : {A : Type 0} (p : A → Bool) (xs ys : List A) → list_any p (xs ++ ys) ≡ (list_any p xs || list_any p ys)
    any_append p [] ys = refl
    any_append p (x ∷ xs) ys = ap (λ b. p x || b) (any_append p xs ys) ∙ grouped (p x) (list_any p xs) (list_any p ys)
      where
        grouped : (a b c : Bool) → (a || (b || c)) ≡ ((a || b) || c)
        grouped true b c = refl
        grouped false b c = refl

pub moved_all : (keys : List Tuple) (readers : Option Readers) (moved : List CellName) (i : ℕ) (due : List Bool) → length moved ≤ i
    → ((place : ℕ) → is_due due place ≡ false → (c : CellName) → is_moved (take i moved) c ≡ true → may_look keys readers c place ≡ false)
    → (place : ℕ) → is_due due place ≡ false → (c : CellName) → is_moved moved c ≡ true → may_look keys readers c place ≡ false
moved_all keys readers moved i due l so place h c m = so place h c (ap (λ (xs : List CellName). is_moved xs c) (take_all i moved l) ∙ m)

module _ (old new : PartShape) (moved : List CellName) (same : old ≡ new) where
  -- of one shape a look that did not move begins nothing
  pub outside_none : (c : CellName) → is_moved moved c ≡ false → is_told_outside old new moved (Measure c) ≡ false
  outside_none c h =
      ap (λ (s : PartShape). is_told_outside s new moved (Measure c)) same
      ∙ ap (λ b. b || outside_by new new moved c (rule_at new (Measure c)) (rule_at new (Measure c))) (in_none (is_among new.cells c.key))
      ∙ by (rule_at new (Measure c))
    where
      in_none : (b : Bool) → ((b && not b) || (b && not b)) ≡ false
      in_none true = refl
      in_none false = refl

      by : (o : Option ℕ) → outside_by new new moved c o o ≡ false
      by (Some n) = refl
      by None = ap (λ b. b || is_moved moved c) (in_none (is_among new.base c.key)) ∙ h

  -- one that moved begins the change where no rule assigns it
  pub outside_moved : (c : CellName) (ruled : Bool) → is_moved moved c ≡ true → ruled ≡ is_some (rule_at new (Measure c))
      → not ruled ≡ is_told_outside old new moved (Measure c)
  outside_moved c ruled h r =
      ap not r
      ∙ sym (
      ap (λ (s : PartShape). is_told_outside s new moved (Measure c)) same
      ∙ ap (λ b. b || outside_by new new moved c (rule_at new (Measure c)) (rule_at new (Measure c))) (in_none (is_among new.cells c.key))
      ∙ by (rule_at new (Measure c))
      )
    where
      in_none : (b : Bool) → ((b && not b) || (b && not b)) ≡ false
      in_none true = refl
      in_none false = refl

      or_true : (b : Bool) → (b || true) ≡ true
      or_true true = refl
      or_true false = refl

      by : (o : Option ℕ) → outside_by new new moved c o o ≡ not (is_some o)
      by (Some n) = refl
      by None = ap (λ b. is_in_one new.base new.base c.key || b) h ∙ or_true (is_in_one new.base new.base c.key)

  pub presence_none : (key : Tuple) → is_told_outside old new moved (Presence key) ≡ false
  presence_none key = ap (λ (s : PartShape). is_in_one s.base new.base key) same ∙ by (is_among new.base key)
    where
      by : (b : Bool) → ((b && not b) || (b && not b)) ≡ false
      by true = refl
      by false = refl

module _ (model : Model) (old new : PartShape) (moved : List CellName) (keys : List Tuple) (readers : Option Readers) (own : AreOwn new)
    (has : HasReadersOf keys (map (looks_by model new) new.assigned) readers) (law : (xs ys : List Look) → SameLooksAreOne xs ys) (same : old ≡ new) where
  pub first_due : (due : List Bool) → ((place : ℕ) → is_due due place ≡ false → (c : CellName) → is_moved moved c ≡ true → may_look keys readers c place ≡ false)
      → IsDue (ground_for model old new moved) no_marks due
  first_due due so place a at h =
      let g = ground_for model old new moved in
      let mine = at_place (λ (b : Assignment). find (assigns b.1 b.0) new.assigned ≡ Some b) new.assigned place a at own in
      let its : slice_index_or (map (looks_by model new) new.assigned) place [] ≡ looks_by model new a = mapped_at (looks_by model new) new.assigned place a at in
      let none : list_any (is_known_in g no_marks) (looks_by model new a) ≡ false =
      any_looked (is_known_in g no_marks) (λ u. false) (presence_none old new moved same) (looks_by model new a)
      (λ c l. ap (λ b. b || g.outside (Measure c)) (none_marked new.cells c) ∙ outside_none old new moved same c (unmoved c (ap (λ (xs : List Look). is_looked_at xs c) its ∙ l)))
      ∙ none_any (looks_by model new a) in
      ap (λ b. b || list_any (is_known_in g no_marks) (looks_by model new a)) (sym (target_same model old new moved a mine law same)) ∙ none
    where
      unmoved : (c : CellName) → is_looked_at (slice_index_or (map (looks_by model new) new.assigned) place []) c ≡ true → is_moved moved c ≡ false
      unmoved c l = by (is_moved moved c) refl
        where
          by : (b : Bool) → is_moved moved c ≡ b → b ≡ false
          by true e = let k : true ≡ false = sym (has c place l) ∙ so place h c e in cc
          by false e = refl
