-- A set of measures by flags at places and a map, and a measure more in it.
use Rattle.std.proofs.Common.{◌≡◌, ℕ, suc, ◌+◌, ◌<◌, ◌≤◌, Bool, true, false, ◌||◌, List, [], ◌∷◌, cond, length, set, slice_get, Option, Some, None, refl, sym, ap, subst, ◌∙◌, arith, inl, inr}
use Rattle.std.specs.Prelude.{is_none, replicate, slice_index_or}
use Rattle.std.specs.List.{find, position_from}
use Rattle.std.specs.Option.{option_map, option_map_or}
use Rattle.std.proofs.lemmas.Grind.{get_or-set_at}
use Rattle.std.proofs.lemmas.Bool.{cases_lt}
use Rattle.std.proofs.lemmas.List.{get_or-replicate, get_or-set_other, get_or_past, length-replicate, length-set}
use Rattle.mq_ir.specs.declared.query.CellName.{CellName}
use Rattle.mq_ir.specs.declared.query.Look.TheVariants.{Measure}
use Rattle.mq_ir.specs.declared.query.PartShape.{PartShape}
use Rattle.mq_ir.specs.Automatic.{rule_at}
use Rattle.mq_ir.specs.Derivations.{is_same_measure}
use Rattle.mq_ir.specs.Shape.{Assignment, assigns}
use Rattle.mq_cells.specs.Stores.{name_assigned}
use Rattle.mq_auto_shape.specs.Edges.{PlacesAre}
use Rattle.mq_auto_shape.specs.Numbers.{Numbered}
use Rattle.mq_lineage.specs.Closing.{HasOneMore}
use Rattle.mq_lineage.specs.Held.{AreApart, AreOwnPlaces, HeldMeasures, is_held, place_in}
use Rattle.mq_lineage.specs.Nodes.{Nodes, is_in}
use Rattle.mq_lineage.proofs.NodeLemmas.{named_itself, named_same}

-- ---- the first place at which a test passes
pub record Hit {X : Type 0} (test : X → Bool) (i : ℕ) (xs : List X) (q : ℕ) : Type 0 where
  pub item : X
  pub off : ℕ
  pub is : q ≡ i + off
  pub found : find test xs ≡ Some item
  pub at : slice_get xs off ≡ Some item
  pub passes : test item ≡ true
  pub below : off < length xs

hit : {X : Type 0} (test : X → Bool) (i : ℕ) (xs : List X) (q : ℕ) → position_from test i xs ≡ Some q → Hit test i xs q
hit test i [] q h = absurd (cc)
hit {X} test i (x ∷ xs) q h = by (test x) refl h (hit test (i + 1) xs q)
  where
    by : (b : Bool) → test x ≡ b → cond b (Some i) (position_from test (i + 1) xs) ≡ Some q
        → (position_from test (i + 1) xs ≡ Some q → Hit test (i + 1) xs q) → Hit test i (x ∷ xs) q
    by true e g rest =
        let is : i ≡ q = cc in
        record { item = x; off = 0; is = omega (arith, is); found = ap (λ b. cond b (Some x) (find test xs)) e; at = refl; passes = e; below = omega arith }
    by false e g rest =
        let later = rest g in
        record {
          item = later.item;
          off = suc later.off;
          is = omega (arith, later.is);
          found = ap (λ b. cond b (Some x) (find test xs)) e ∙ later.found;
          at = later.at;
          passes = later.passes;
          below = omega (arith, later.below);
        }

missed : {X : Type 0} (test : X → Bool) (i : ℕ) (xs : List X) → position_from test i xs ≡ None → find test xs ≡ None
missed test i [] h = refl
missed test i (x ∷ xs) h = by (test x) h (missed test (i + 1) xs)
  where
    by : (b : Bool) → cond b (Some i) (position_from test (i + 1) xs) ≡ None → (position_from test (i + 1) xs ≡ None → find test xs ≡ None)
        → cond b (Some x) (find test xs) ≡ None
    by true g rest = absurd (cc)
    by false g rest = rest g

-- ---- the places of a shape
module _ (shape : PartShape) (places : Numbered) (are : PlacesAre places shape.assigned) where
  -- each is that of one measure
  pub places_own : AreOwnPlaces places (length shape.assigned)
  places_own = record {
    below = λ c p e.
        let h = hit (assigns c.measure c.key) 0 shape.assigned p (sym (are c.key c.measure) ∙ e) in
        omega (arith, h.is, h.below);
    own = λ c d p e f.
        let h = hit (assigns c.measure c.key) 0 shape.assigned p (sym (are c.key c.measure) ∙ e) in
        let k = hit (assigns d.measure d.key) 0 shape.assigned p (sym (are d.key d.measure) ∙ f) in
        let off : h.off ≡ k.off = omega (arith, h.is, k.is) in
        let items : Some h.item ≡ Some k.item = sym h.at ∙ ap (slice_get shape.assigned) off ∙ k.at in
        let item : h.item ≡ k.item = cc in
        named_same c (name_assigned h.item) h.passes ∙ ap (λ (a : Assignment). name_assigned a) item
        ∙ sym (named_same d (name_assigned k.item) k.passes);
  }

  -- what has no place is assigned by no rule, and what has one is
  pub no_place : (c : CellName) → place_in places c ≡ None → rule_at shape (Measure c) ≡ None
  no_place c e =
      ap (option_map (λ (a : Assignment). a.2))
      (missed (assigns c.measure c.key) 0 shape.assigned (sym (are c.key c.measure) ∙ e))

  pub has_place : (c : CellName) (place : ℕ) → place_in places c ≡ Some place → is_none (rule_at shape (Measure c)) ≡ false
  has_place c p e =
      let h = hit (assigns c.measure c.key) 0 shape.assigned p (sym (are c.key c.measure) ∙ e) in
      ap (λ (o : Option Assignment). is_none (option_map (λ (a : Assignment). a.2) o)) h.found

-- ---- no measure
pub none_flagged : (count : ℕ) (derived : List Bool) → derived ≡ replicate count false → (i : ℕ) → slice_index_or derived i false ≡ false
none_flagged count derived e i = ap (λ (l : List Bool). slice_index_or l i false) e ∙ elim (cases_lt i count) [
  | inl l ↦ get_or-replicate count i false false l
  | inr g ↦ get_or_past (replicate count false) i false (subst (λ n. n ≤ i) (sym (length-replicate count false)) g)
]

pub none_count : (count : ℕ) (derived : List Bool) → derived ≡ replicate count false → length derived ≡ count
none_count count derived e = ap (λ (l : List Bool). length l) e ∙ length-replicate count false

pub none_held : (places : Numbered) (derived : List Bool) (given : Nodes) → ((i : ℕ) → slice_index_or derived i false ≡ false) → given ≡ []
    → (c : CellName) → is_held (record { places = places; derived = derived; given = given }) c ≡ false
none_held places derived given flags none c = by (place_in places c)
  where
    by : (o : Option ℕ) → option_map_or (λ place. slice_index_or derived place false) o (is_in given c) ≡ false
    by None = ap (λ (nodes : Nodes). is_in nodes c) none
    by (Some place) = flags place

pub none_apart : (places : Numbered) (derived : List Bool) (given : Nodes) (count : ℕ) → AreOwnPlaces places count → length derived ≡ count → given ≡ []
    → AreApart places derived given
none_apart places derived given count own same none = record {
  own = subst (AreOwnPlaces places) (sym same) own;
  apart = λ c place e. ap (λ (nodes : Nodes). is_in nodes c) none;
}

-- ---- a measure more
module _ (places : Numbered) (derived : List Bool) (given : Nodes) (name : CellName) (kept : AreApart places derived given) where
  abbrev before : HeldMeasures
  before = record { places = places; derived = derived; given = given }

  -- its flag is set
  module _ (p : ℕ) (at : place_in places name ≡ Some p) where
    abbrev flagged : HeldMeasures
    flagged = record { places = places; derived = set derived p true; given = given }

    pub flag_held : HasOneMore name (is_held before) (is_held flagged)
    flag_held c = by (place_in places c) refl (is_same_measure c name) refl
      where
        by : (o : Option ℕ) → place_in places c ≡ o → (s : Bool) → is_same_measure c name ≡ s
            → option_map_or (λ place. slice_index_or (set derived p true) place false) o (is_in given c)
            ≡ (s || option_map_or (λ place. slice_index_or derived place false) o (is_in given c))
        by None e true f =
            let no : None ≡ Some p = sym e ∙ ap (place_in places) (named_same c name f) ∙ at in absurd (cc)
        by None e false f = refl
        by (Some q) e true f =
            let both : Some q ≡ Some p = sym e ∙ ap (place_in places) (named_same c name f) ∙ at in
            let same : q ≡ p = cc in
            get_or-set_at derived p q true false same (kept.own.below name p at)
        by (Some q) e false f = get_or-set_other derived p q true false other
          where
            other : q ≡ p → ⊥
            other same =
                let is : c ≡ name = kept.own.own c name p (e ∙ ap Some same) at in
                let no : false ≡ true = sym f ∙ ap (λ d. is_same_measure d name) is ∙ named_itself name in absurd (cc)

    pub flag_apart : AreApart places (set derived p true) given
    flag_apart = record {
      own = subst (AreOwnPlaces places) (sym (length-set derived p true)) kept.own;
      apart = kept.apart;
    }

  -- it is put to the map
  module _ (none : place_in places name ≡ None) (after : Nodes) (more : (c : CellName) → is_in after c ≡ (is_same_measure c name || is_in given c)) where
    abbrev named : HeldMeasures
    named = record { places = places; derived = derived; given = after }

    other_name : (c : CellName) (p : ℕ) → place_in places c ≡ Some p → is_same_measure c name ≡ false
    other_name c p e = by (is_same_measure c name) refl
      where
        by : (s : Bool) → is_same_measure c name ≡ s → s ≡ false
        by true f = let no : None ≡ Some p = sym none ∙ ap (place_in places) (sym (named_same c name f)) ∙ e in absurd (cc)
        by false f = refl

    pub name_held : HasOneMore name (is_held before) (is_held named)
    name_held c = by (place_in places c) refl
      where
        by : (o : Option ℕ) → place_in places c ≡ o
            → option_map_or (λ place. slice_index_or derived place false) o (is_in after c)
            ≡ (is_same_measure c name || option_map_or (λ place. slice_index_or derived place false) o (is_in given c))
        by None e = more c
        by (Some q) e = sym (ap (λ s. s || slice_index_or derived q false) (other_name c q e))

    pub name_apart : AreApart places derived after
    name_apart = record {
      own = kept.own;
      apart = λ c p e. more c ∙ (λ i. other_name c p e i || kept.apart c p e i);
    }
