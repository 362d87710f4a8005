-- A right side that has the same looks over two sets of cells has them leaf by leaf: a cell that is in one set alone would be
-- looked at more often over that set, by a range.
use Rattle.std.proofs.Common.{◌≡◌, ℕ, ◌+◌, ◌≤◌, Bool, true, false, ◌&&◌, ◌||◌, List, [], ◌∷◌, ◌++◌, Result, Ok, Err, refl, sym, ap, ◌∙◌, arith}
use Rattle.std.specs.List.{filter, flat_map, zip}
use Rattle.std.specs.List.Sorted.{IsStrictlySortedBy}
use Rattle.std.proofs.lemmas.Bool.{and_parts, or_parts}
use Rattle.mq_values.specs.Order.{cmp_key}
use Rattle.mq_values.specs.declared.faults.ValueFault.{ValueFault}
use Rattle.mq_values.specs.declared.operators.DimTest.{DimTest}
use Rattle.mq_ir.specs.declared.expression.Expr.TheOpen as layer
use Rattle.mq_ir.specs.declared.expression.Leaf.{Leaf, out-Leaf}
use Rattle.mq_ir.specs.declared.query.Look.{Look}
use Rattle.mq_ir.specs.declared.query.Look.TheVariants.{Measure, Presence}
use Rattle.mq_ir.specs.EachLaws.{Each}
use Rattle.mq_ir.specs.Keys.{Tuple, is_among, is_same}
use Rattle.mq_ir.specs.Looks.{layer_looks, leaf_looks, looks_at, looks_named}
use Rattle.mq_ir.specs.ReadLaws.{SameLooks}
use Rattle.mq_ir.specs.Reads.{LeafLayer, Site, inner_leaves}
use Rattle.mq_ir.specs.Results.{◌>>=◌, each}
use Rattle.mq_ir.specs.Targets.{meets_every}
use Rattle.mq_ir.specs.Unfolding.{Model, test_of}
use Rattle.mq_change_laws.specs.AscentLaws.{one_filter}
use Rattle.mq_change_laws.specs.KeyLaws.{among_kept, each_itself, each_map}

abbrev one : Bool → ℕ
one true = 1
one false = 0

abbrev is_at : Tuple → Look → Bool
is_at x (Measure c) = is_same x c.key
is_at x (Presence key) = false

-- how many of these looks are at measures of a cell
abbrev tally : Tuple → List Look → ℕ
tally x [] = 0
tally x (look ∷ looks) = one (is_at x look) + tally x looks

tally_append : (x : Tuple) (xs ys : List Look) → tally x (xs ++ ys) ≡ tally x xs + tally x ys
tally_append x [] ys = omega arith
tally_append x (look ∷ xs) ys = let rest = tally_append x xs ys in omega (arith, rest)

tally_none : (x : Tuple) (m : ℕ) (keys : List Tuple) → is_among keys x ≡ false → tally x (looks_at m keys) ≡ 0
tally_none x m [] h = refl
tally_none x m (key ∷ keys) h =
    let both = or_parts (is_same x key) (is_among keys x) h in
    let first : one (is_same x key) ≡ 0 = ap one both.0 in
    let rest = tally_none x m keys both.1 in
    omega (arith, first, rest)

tally_some : (x : Tuple) (m : ℕ) (keys : List Tuple) → is_among keys x ≡ true → 1 ≤ tally x (looks_at m keys)
tally_some x m [] h = cc
tally_some x m (key ∷ keys) h = by (is_same x key) refl h (tally_some x m keys)
  where
    by : (b : Bool) → is_same x key ≡ b → (b || is_among keys x) ≡ true → (is_among keys x ≡ true → 1 ≤ tally x (looks_at m keys))
        → 1 ≤ one (is_same x key) + tally x (looks_at m keys)
    by true e g rest = let first : one (is_same x key) ≡ 1 = ap one e in omega (arith, first)
    by false e g rest = let more = rest g in omega (arith, more)

-- the cells of a range over a set
abbrev met : Result (List DimTest) ValueFault → List Tuple → Result (List Tuple) ValueFault
met r set = r >>= (λ tests. Ok (filter (meets_every tests) set))

abbrev pub over : Model → Tuple → List Tuple → Site
over model target set = record { model = model; target = target; turn = 0; set = set }

module _ (model : Model) (target : Tuple) (a b : List Tuple) where
  abbrev here : Site
  here = over model target a

  abbrev there : Site
  there = over model target b

  range_fewer : (x : Tuple) → is_among b x ≡ false → (m : ℕ) (r : Result (List DimTest) ValueFault)
      → tally x (looks_named (looks_at m) (met r b)) ≤ tally x (looks_named (looks_at m) (met r a))
  range_fewer x h m (Err fault) = omega arith
  range_fewer x h m (Ok tests) =
      let none = tally_none x m (filter (meets_every tests) b) (among_kept (meets_every tests) x b ∙ ap (λ s. meets_every tests x && s) h ∙ no (meets_every tests x)) in
      omega (arith, none)
    where
      no : (s : Bool) → (s && false) ≡ false
      no true = refl
      no false = refl

  -- over a set without a cell it is looked at no more often
  layer_fewer : (x : Tuple) → is_among b x ≡ false → (l : LeafLayer) → tally x (layer_looks there l) ≤ tally x (layer_looks here l)
  layer_fewer x h (layer.Cell m indices) = omega arith
  layer_fewer x h (layer.Range agg m places) = range_fewer x h m (each (λ (kind, place). test_of (inner_leaves here) kind place) (zip model.part.dims places))
  layer_fewer x h (layer.NotNull m indices) = omega arith
  layer_fewer x h (layer.Column item column) = omega arith
  layer_fewer x h (layer.RefCell r m indices) = omega arith
  layer_fewer x h (layer.Cv d) = omega arith
  layer_fewer x h layer.Turn = omega arith
  layer_fewer x h (layer.Present indices) = omega arith
  layer_fewer x h (layer.GroupAgg agg e) = omega arith
  layer_fewer x h (layer.Previous m indices) = omega arith

  all_fewer : (x : Tuple) → is_among b x ≡ false → (ls : List Leaf)
      → tally x (flat_map (leaf_looks there) ls) ≤ tally x (flat_map (leaf_looks here) ls)
  all_fewer x h [] = omega arith
  all_fewer x h (l ∷ ls) =
      let first = layer_fewer x h (out-Leaf l) in
      let rest = all_fewer x h ls in
      let left = tally_append x (leaf_looks there l) (flat_map (leaf_looks there) ls) in
      let right = tally_append x (leaf_looks here l) (flat_map (leaf_looks here) ls) in
      omega (arith, first, rest, left, right)

  -- a leaf looks as often at a cell that is not in b
  abbrev Even : List Look → List Look → Type 0
  Even xs ys = (x : Tuple) → is_among b x ≡ false → tally x xs ≡ tally x ys

  -- where all leaves do together, each does
  even_parts : (l : Leaf) (ls : List Leaf) → Even (flat_map (leaf_looks here) (l ∷ ls)) (flat_map (leaf_looks there) (l ∷ ls))
      → Even (leaf_looks here l) (leaf_looks there l) × Even (flat_map (leaf_looks here) ls) (flat_map (leaf_looks there) ls)
  even_parts l ls e = ((λ x h. (parts x h).0), (λ x h. (parts x h).1))
    where
      parts : (x : Tuple) → is_among b x ≡ false
          → (tally x (leaf_looks here l) ≡ tally x (leaf_looks there l)) × (tally x (flat_map (leaf_looks here) ls) ≡ tally x (flat_map (leaf_looks there) ls))
      parts x h =
          let first = layer_fewer x h (out-Leaf l) in
          let rest = all_fewer x h ls in
          let left = tally_append x (leaf_looks there l) (flat_map (leaf_looks there) ls) in
          let right = tally_append x (leaf_looks here l) (flat_map (leaf_looks here) ls) in
          let same = e x h in
          (omega (arith, first, rest, left, right, same), omega (arith, first, rest, left, right, same))

  -- so each cell of a range over a is in b
  range_shared : (m : ℕ) (tests : List DimTest)
      → Even (looks_at m (filter (meets_every tests) a)) (looks_at m (filter (meets_every tests) b))
      → Each (λ q. is_among a q ≡ is_among b q) (filter (meets_every tests) a)
  range_shared m tests e =
      each_map (λ q. is_among kept q ≡ true) (λ q. is_among a q ≡ is_among b q) shared kept (each_itself kept)
    where
      kept : List Tuple
      kept = filter (meets_every tests) a

      shared : (q : Tuple) → is_among kept q ≡ true → is_among a q ≡ is_among b q
      shared q h = (and_parts (meets_every tests q) (is_among a q) (sym (among_kept (meets_every tests) q a) ∙ h)).1 ∙ by (is_among b q) refl
        where
          no : (s : Bool) → (s && false) ≡ false
          no true = refl
          no false = refl

          by : (s : Bool) → is_among b q ≡ s → true ≡ is_among b q
          by true f = sym f
          by false f =
              let some = tally_some q m kept h in
              let none = tally_none q m (filter (meets_every tests) b) (among_kept (meets_every tests) q b ∙ ap (λ s. meets_every tests q && s) f ∙ no (meets_every tests q)) in
              let same = e q f in
              absurd (omega (arith, some, none, same))

module _ (model : Model) (target : Tuple) (a b : List Tuple) (s : IsStrictlySortedBy cmp_key a) (t : IsStrictlySortedBy cmp_key b) where
  range_same : (m : ℕ) (r : Result (List DimTest) ValueFault)
      → Even model target a b (looks_named (looks_at m) (met r a)) (looks_named (looks_at m) (met r b))
      → Even model target b a (looks_named (looks_at m) (met r b)) (looks_named (looks_at m) (met r a))
      → looks_named (looks_at m) (met r a) ≡ looks_named (looks_at m) (met r b)
  range_same m (Err fault) e f = refl
  range_same m (Ok tests) e f =
      ap (looks_at m) (one_filter (meets_every tests) a b s t (range_shared model target a b m tests e) (range_shared model target b a m tests f))

  layer_same : (l : LeafLayer) → Even model target a b (layer_looks (over model target a) l) (layer_looks (over model target b) l)
      → Even model target b a (layer_looks (over model target b) l) (layer_looks (over model target a) l)
      → layer_looks (over model target a) l ≡ layer_looks (over model target b) l
  layer_same (layer.Cell m indices) e f = refl
  layer_same (layer.Range agg m places) e f =
      range_same m (each (λ (kind, place). test_of (inner_leaves (over model target a)) kind place) (zip model.part.dims places)) e f
  layer_same (layer.NotNull m indices) e f = refl
  layer_same (layer.Column item column) e f = refl
  layer_same (layer.RefCell r m indices) e f = refl
  layer_same (layer.Cv d) e f = refl
  layer_same layer.Turn e f = refl
  layer_same (layer.Present indices) e f = refl
  layer_same (layer.GroupAgg agg g) e f = refl
  layer_same (layer.Previous m indices) e f = refl

  leaves_same : (ls : List Leaf)
      → Even model target a b (flat_map (leaf_looks (over model target a)) ls) (flat_map (leaf_looks (over model target b)) ls)
      → Even model target b a (flat_map (leaf_looks (over model target b)) ls) (flat_map (leaf_looks (over model target a)) ls)
      → SameLooks (over model target a) b ls
  leaves_same [] e f = tt
  leaves_same (l ∷ ls) e f =
      let parts = even_parts model target a b l ls e in
      let back = even_parts model target b a l ls f in
      (layer_same (out-Leaf l) parts.0 back.0, leaves_same ls parts.1 back.1)

  pub same_looks : (ls : List Leaf) → flat_map (leaf_looks (over model target a)) ls ≡ flat_map (leaf_looks (over model target b)) ls
      → SameLooks (over model target a) b ls
  same_looks ls h = leaves_same ls (λ x n. ap (tally x) h) (λ x n. ap (tally x) (sym h))
