-- Reads and the looks behind them.
use Rattle.std.proofs.Common.{◌≡◌, ℕ, List, [], ◌∷◌, ◌++◌, map, ◌&&◌, Result, Ok, Err, refl, ap, sym, ◌∙◌}
use Rattle.std.specs.Prelude.{if◌then◌else◌}
use Rattle.std.specs.List.{filter, flat_map, list_all, zip}
use Rattle.mq_values.specs.Aggregate.{aggregate, is_value}
use Rattle.mq_values.specs.declared.faults.ValueFault.{ValueFault}
use Rattle.mq_values.specs.declared.operators.Agg.{Agg}
use Rattle.mq_values.specs.declared.operators.DimTest.{DimTest}
use Rattle.mq_values.specs.declared.value.Value.{Value}
use Rattle.mq_ir.specs.declared.expression.Expr.{Expr}
use Rattle.mq_ir.specs.declared.expression.Expr.TheOpen as layer
use Rattle.mq_ir.specs.declared.expression.Leaf.{Leaf, out-Leaf}
use Rattle.mq_ir.specs.declared.query.CellName.{CellName}
use Rattle.mq_ir.specs.declared.query.Look.{Look}
use Rattle.mq_ir.specs.declared.query.Look.TheVariants.{Measure, Presence}
use Rattle.mq_ir.specs.declared.query.PartShape.{PartShape}
use Rattle.mq_ir.specs.declared.query.Rule.{Rule}
use Rattle.mq_values.specs.Convert.{cast_of}
use Rattle.mq_ir.specs.declared.query.Slot.TheVariants.{Poisoned}
use Rattle.mq_ir.specs.Expression.{Outcome, flag}
use Rattle.mq_ir.specs.Automatic.{cell_of}
use Rattle.mq_ir.specs.Keys.{Tuple, is_among}
use Rattle.mq_ir.specs.Looks.{layer_looks, leaf_looks, leaves_of, look_at, looks_at, looks_named, looks_of}
use Rattle.mq_ir.specs.ReadLaws.{AgreeAt, ReadsItsLooks, SameLooks, SamePresence, SameStep, StepReadsItsLooks}
use Rattle.mq_ir.specs.Reads.{LeafLayer, Measures, Site, cell_named, inner_leaves, measure_kind, range_named, read, read_layer}
use Rattle.mq_ir.specs.Nav.{with_nav}
use Rattle.mq_ir.specs.Results.{◌>>=◌, each}
use Rattle.mq_ir.specs.Slots.{Slots, done_value, is_done, is_known, site_in, slot_of}
use Rattle.mq_ir.specs.Targets.{meets_every}
use Rattle.mq_ir.specs.Unfolding.{Model, test_of}
use Rattle.mq_ir.specs.Worth.{as_value}
use Rattle.mq_ir.specs.WorthLaws.{SameOn, worth_alike}

module _ {V : Type 0} (f g : CellName → V) where
  agree_left : (xs ys : List Look) → AgreeAt f g (xs ++ ys) → AgreeAt f g xs
  agree_left [] ys h = tt
  agree_left (Measure c ∷ xs) ys h = (h.0, agree_left xs ys h.1)
  agree_left (Presence key ∷ xs) ys h = agree_left xs ys h

  agree_right : (xs ys : List Look) → AgreeAt f g (xs ++ ys) → AgreeAt f g ys
  agree_right [] ys h = h
  agree_right (Measure c ∷ xs) ys h = agree_right xs ys h.1
  agree_right (Presence key ∷ xs) ys h = agree_right xs ys h

module _ (now later : Measures) (m : ℕ) where
  values_alike : (keys : List Tuple) → AgreeAt now later (looks_at m keys)
      → map (λ key. now (record { key = key; measure = m })) keys ≡ map (λ key. later (record { key = key; measure = m })) keys
  values_alike [] h = refl
  values_alike (key ∷ keys) h = λ i. h.0 i ∷ values_alike keys h.1 i

  single_alike : (f : Value → Value) (r : Result Tuple ValueFault) → AgreeAt now later (looks_named (look_at m) r)
      → let at : Measures → Result Value ValueFault = λ at. r >>= (λ key. Ok (f (at (record { key = key; measure = m })))) in at now ≡ at later
  single_alike f (Ok key) h = ap (λ v. Ok (f v)) h.0
  single_alike f (Err fault) h = refl

  range_alike : (agg : Agg) (r : Result (List Tuple) ValueFault) → AgreeAt now later (looks_named (looks_at m) r)
      → let at : Measures → Result Value ValueFault = λ at. r >>= (λ keys. aggregate agg (map (λ key. at (record { key = key; measure = m })) keys)) in at now ≡ at later
  range_alike agg (Ok keys) h = ap (aggregate agg) (values_alike keys h)
  range_alike agg (Err fault) h = refl

module _ (site : Site) (input : List Tuple) (now later : Measures) where
  layer_alike : (x : LeafLayer) → AgreeAt now later (layer_looks site x) → read_layer site input now x ≡ read_layer site input later x
  layer_alike (layer.Cell m indices) h = single_alike now later m (with_nav site.model.part.ignore_nav (measure_kind site.model m)) (cell_named site site.model.part.dims indices) h
  layer_alike (layer.Range agg m places) h = range_alike now later m agg (range_named site places) h
  layer_alike (layer.NotNull m indices) h = single_alike now later m (λ v. flag (is_value v)) (cell_named site site.model.part.dims indices) h
  layer_alike (layer.Column item column) h = refl
  layer_alike (layer.RefCell r m indices) h = refl
  layer_alike (layer.Cv d) h = refl
  layer_alike layer.Turn h = refl
  layer_alike (layer.Present indices) h = refl
  layer_alike (layer.GroupAgg agg e) h = refl
  layer_alike (layer.Previous m indices) h = refl

  same_on_looks : (ls : List Leaf) → AgreeAt now later (flat_map (leaf_looks site) ls) → SameOn (read site input now) (read site input later) ls
  same_on_looks [] h = tt
  same_on_looks (l ∷ ls) h = (
    layer_alike (out-Leaf l) (agree_left now later (leaf_looks site l) (flat_map (leaf_looks site) ls) h),
    same_on_looks ls (agree_right now later (leaf_looks site l) (flat_map (leaf_looks site) ls) h),
  )

-- what an expression is worth depends on the measures that it looks at alone
pub reads_its_looks : (site : Site) (input : List Tuple) (e : Expr) → ReadsItsLooks site input e
reads_its_looks site input e now later h =
    worth_alike (read site input now) (read site input later) e (same_on_looks site input now later (leaves_of e) h)

module _ (slots others : Slots) where
  known_alike : (looks : List Look) → AgreeAt slots others looks → list_all (is_known slots) looks ≡ list_all (is_known others) looks
  known_alike [] h = refl
  known_alike (Measure c ∷ looks) h = λ i. is_done (h.0 i) && known_alike looks h.1 i
  known_alike (Presence key ∷ looks) h = known_alike looks h

  done_alike : (looks : List Look) → AgreeAt slots others looks → AgreeAt (λ c. done_value (slots c)) (λ c. done_value (others c)) looks
  done_alike [] h = tt
  done_alike (Measure c ∷ looks) h = (ap done_value h.0, done_alike looks h.1)
  done_alike (Presence key ∷ looks) h = done_alike looks h

pub step_reads_its_looks : (model : Model) (shape : PartShape) (turn : ℕ) (rule : Rule) (target : Tuple) → StepReadsItsLooks model shape turn rule target
step_reads_its_looks model shape turn rule target slots others h =
    let site : Site = site_in model shape turn target in
    let looks = looks_of site rule.right in
    let k = known_alike slots others looks h in
    let w = reads_its_looks site shape.base rule.right (λ c. done_value (slots c)) (λ c. done_value (others c)) (done_alike slots others looks h) in
    λ i. if k i then slot_of (as_value (w i) >>= (λ v. cast_of v (measure_kind model rule.measure))) else Poisoned

-- the cells of looks; so measures of cells that look alike are of the same cells
cells_back : (m : ℕ) (keys : List Tuple) → map cell_of (looks_at m keys) ≡ keys
cells_back m [] = refl
cells_back m (key ∷ keys) = ap (λ ks. key ∷ ks) (cells_back m keys)

same_cells : (m : ℕ) (xs ys : List Tuple) → looks_at m xs ≡ looks_at m ys → xs ≡ ys
same_cells m xs ys h = sym (cells_back m xs) ∙ ap (map cell_of) h ∙ cells_back m ys

module _ (input other : List Tuple) where
  presence_left : (xs ys : List Look) → SamePresence input other (xs ++ ys) → SamePresence input other xs
  presence_left [] ys h = tt
  presence_left (Measure c ∷ xs) ys h = presence_left xs ys h
  presence_left (Presence key ∷ xs) ys h = (h.0, presence_left xs ys h.1)

  presence_right : (xs ys : List Look) → SamePresence input other (xs ++ ys) → SamePresence input other ys
  presence_right [] ys h = h
  presence_right (Measure c ∷ xs) ys h = presence_right xs ys h
  presence_right (Presence key ∷ xs) ys h = presence_right xs ys h.1

  presence_over : (r : Result Tuple ValueFault) → SamePresence input other (looks_named (λ key. Presence key ∷ []) r)
      → let at : List Tuple → Outcome = λ keys. r >>= (λ key. Ok (flag (is_among keys key))) in at input ≡ at other
  presence_over (Ok key) h = ap (λ b. Ok (flag b)) h.0
  presence_over (Err fault) h = refl

-- cells of a set that meet tests
abbrev met : Result (List DimTest) ValueFault → List Tuple → Result (List Tuple) ValueFault
met r set = r >>= (λ tests. Ok (filter (meets_every tests) set))

range_over : (now : Measures) (agg : Agg) (m : ℕ) (r : Result (List DimTest) ValueFault) (set other : List Tuple) → looks_named (looks_at m) (met r set) ≡ looks_named (looks_at m) (met r other)
    → let at : List Tuple → Outcome = λ s. met r s >>= (λ keys. aggregate agg (map (λ key. now (record { key = key; measure = m })) keys)) in at set ≡ at other
range_over now agg m (Ok tests) set other h =
    ap (λ keys. aggregate agg (map (λ key. now (record { key = key; measure = m })) keys)) (same_cells m (filter (meets_every tests) set) (filter (meets_every tests) other) h)
range_over now agg m (Err fault) set other h = refl

module _ (model : Model) (shape other : PartShape) (turn : ℕ) (target : Tuple) where
  abbrev here : Site
  here = site_in model shape turn target

  abbrev there : Site
  there = site_in model other turn target

  looks_over : (ls : List Leaf) → SameLooks here other.cells ls → flat_map (leaf_looks here) ls ≡ flat_map (leaf_looks there) ls
  looks_over [] h = refl
  looks_over (l ∷ ls) h = λ i. h.0 i ++ looks_over ls h.1 i

  module _ (now : Measures) where
    layer_over : (x : LeafLayer) → layer_looks here x ≡ layer_looks there x → SamePresence shape.base other.base (layer_looks here x)
        → read_layer here shape.base now x ≡ read_layer there other.base now x
    layer_over (layer.Cell m indices) h p = refl
    layer_over (layer.Range agg m places) h p =
        range_over now agg m (each (λ (kind, place). test_of (inner_leaves here) kind place) (zip model.part.dims places)) shape.cells other.cells h
    layer_over (layer.NotNull m indices) h p = refl
    layer_over (layer.Column item column) h p = refl
    layer_over (layer.RefCell r m indices) h p = refl
    layer_over (layer.Cv d) h p = refl
    layer_over layer.Turn h p = refl
    layer_over (layer.Present indices) h p = presence_over shape.base other.base (cell_named here model.part.dims indices) p
    layer_over (layer.GroupAgg agg e) h p = refl
    layer_over (layer.Previous m indices) h p = refl

    same_over : (ls : List Leaf) → SameLooks here other.cells ls → SamePresence shape.base other.base (flat_map (leaf_looks here) ls)
        → SameOn (read here shape.base now) (read there other.base now) ls
    same_over [] h p = tt
    same_over (l ∷ ls) h p = (
      layer_over (out-Leaf l) h.0 (presence_left shape.base other.base (leaf_looks here l) (flat_map (leaf_looks here) ls) p),
      same_over ls h.1 (presence_right shape.base other.base (leaf_looks here l) (flat_map (leaf_looks here) ls) p),
    )

pub same_step : (model : Model) (shape other : PartShape) (turn : ℕ) (rule : Rule) (target : Tuple) → SameStep model shape other turn rule target
same_step model shape other turn rule target h p slots =
    let now : Measures = λ c. done_value (slots c) in
    let looks = looks_over model shape other turn target (leaves_of rule.right) h in
    let w = worth_alike (read (site_in model shape turn target) shape.base now) (read (site_in model other turn target) other.base now) rule.right
    (same_over model shape other turn target now (leaves_of rule.right) h p) in
    λ i. if list_all (is_known slots) (looks i) then slot_of (as_value (w i) >>= (λ v. cast_of v (measure_kind model rule.measure))) else Poisoned
