-- Marks at measures of cells, once one is put.
use Rattle.std.proofs.Common.{◌≡◌, ℕ, ◌==◌, ◌&&◌, ◌||◌, Bool, true, false, List, [], Option, Some, None, if◌then◌else◌, refl, sym, ap, ◌∙◌}
use Rattle.std.specs.Prelude.{is_some, slice_index_or}
use Rattle.std.specs.Cmp.{unsigned_Decides}
use Rattle.std.specs.Option.{option_map_or}
use Rattle.mq_dim_index.specs.Places.{place_of}
use Rattle.mq_ir.specs.declared.query.CellName.{CellName}
use Rattle.mq_ir.specs.Keys.{Tuple, is_same}
use Rattle.mq_cells.specs.Stores.{cell_name, is_named}
use Rattle.mq_change_laws.specs.SoundLaws.{same_is}
use Rattle.mq_delta_cells.specs.Marks.{AreTold, Marks, MarksBy, SameFlagsIn, SetsFlagIn, flag_at, is_marked, no_marks}
use Rattle.mq_delta_cells.specs.Nodes.{Nodes, Numbers, number_in}
use Rattle.mq_delta_cells.proofs.TableLemmas.{one_key}

-- where no measure is marked
pub none_marked : (keys : List Tuple) (c : CellName) → is_marked keys no_marks c ≡ false
none_marked keys c = by (place_of keys c.key)
  where
    by : (o : Option ℕ) → option_map_or (flag_at [] c.measure) o false ≡ false
    by None = refl
    by (Some p) = refl

module _ (keys : List Tuple) (key : Tuple) (m : ℕ) where
  -- the key of another measure has the same place
  place_same : (k : Tuple) → is_same key k ≡ true → place_of keys k ≡ place_of keys key
  place_same k e = sym (ap (place_of keys) (same_is key k e))

  module _ (before after : List (List Bool)) (nodes : Nodes) (at : ℕ) (place : place_of keys key ≡ Some at) (d : SetsFlagIn before after m at) where
    here : (j : ℕ) → flag_at after j at ≡ ((m == j) || flag_at before j at)
    here j = d j at ∙ by (m == j) (at == at) ((unsigned_Decides at at).1 refl)
      where
        by : (a b : Bool) → b ≡ true → ((a && b) || flag_at before j at) ≡ (a || flag_at before j at)
        by true true f = refl
        by true false f = cc
        by false b f = refl

    other : (k : Tuple) (j p : ℕ) → is_same key k ≡ false → place_of keys k ≡ Some p → flag_at after j p ≡ flag_at before j p
    other k j p apart e = d j p ∙ by (m == j) (at == p) refl
      where
        by : (a b : Bool) → (at == p) ≡ b → ((a && b) || flag_at before j p) ≡ flag_at before j p
        by true true f =
            let there : place_of keys k ≡ Some at = e ∙ ap Some (sym ((unsigned_Decides at p).0 f)) in
            let same : is_same key k ≡ true = one_key keys key k at place there in
            absurd (cc)
        by true false f = refl
        by false b f = refl

    flagged : (c : CellName) (b : Bool) → is_same key c.key ≡ b → (o : Option ℕ) → place_of keys c.key ≡ o
        → option_map_or (flag_at after c.measure) o (is_some (number_in nodes c))
        ≡ ((b && (m == c.measure)) || option_map_or (flag_at before c.measure) o (is_some (number_in nodes c)))
    flagged c true e o f =
        let there : o ≡ Some at = sym f ∙ place_same c.key e ∙ place in
        ap (λ o. option_map_or (flag_at after c.measure) o (is_some (number_in nodes c))) there ∙ here c.measure
        ∙ sym (ap (λ o. (m == c.measure) || option_map_or (flag_at before c.measure) o (is_some (number_in nodes c))) there)
    flagged c false e None f = refl
    flagged c false e (Some p) f = other c.key c.measure p e f

    -- the flag at the place of a cell is set
    pub put_flag : MarksBy keys (record { flags = before; elsewhere = nodes }) (record { flags = after; elsewhere = nodes }) (cell_name key m)
    put_flag c = flagged c (is_same key c.key) refl (place_of keys c.key) refl

  module _ (flags : List (List Bool)) (before after : Nodes) (number : ℕ) (place : place_of keys key ≡ None) (put : Numbers before after (cell_name key m) number) where
    told : (x : Bool) (o : Option ℕ) → is_some (if x then Some number else o) ≡ (x || is_some o)
    told true o = refl
    told false o = refl

    named : (c : CellName) (b : Bool) → is_same key c.key ≡ b → (o : Option ℕ) → place_of keys c.key ≡ o
        → option_map_or (flag_at flags c.measure) o (is_some (number_in after c))
        ≡ ((b && (m == c.measure)) || option_map_or (flag_at flags c.measure) o (is_some (number_in before c)))
    named c b e None f =
        ap is_some (put c) ∙ told (is_same key c.key && (m == c.measure)) (number_in before c)
        ∙ ap (λ b. (b && (m == c.measure)) || is_some (number_in before c)) e
    named c true e (Some p) f = let h : None ≡ Some p = sym place ∙ sym (place_same c.key e) ∙ f in absurd (cc)
    named c false e (Some p) f = refl

    -- .. or a cell that has no place is marked
    pub put_name : MarksBy keys (record { flags = flags; elsewhere = before }) (record { flags = flags; elsewhere = after }) (cell_name key m)
    put_name c = named c (is_same key c.key) refl (place_of keys c.key) refl

-- a mark that is put into what is seen like this
pub mark_seen : (keys : List Tuple) (seen inside after : Marks) (name : CellName) → inside ≡ seen → MarksBy keys inside after name → MarksBy keys seen after name
mark_seen keys seen inside after name e h c = h c ∙ ap (λ (t : Marks). is_named name c || is_marked keys t c) e

-- ---- measures that are told
module _ (flags : List (List Bool)) (elsewhere : Nodes) (measures : List Bool) (told : AreTold flags elsewhere measures) where
  -- of a measure that is not told nothing is marked
  pub untold_none : (c : CellName) → slice_index_or measures c.measure false ≡ false → (keys : List Tuple)
      → is_marked keys (record { flags = flags; elsewhere = elsewhere }) c ≡ false
  untold_none c h keys = by (place_of keys c.key)
    where
      by : (o : Option ℕ) → option_map_or (flag_at flags c.measure) o (is_some (number_in elsewhere c)) ≡ false
      by None = ap is_some (told c h).0
      by (Some at) = (told c h).1 at

  -- more may be told
  pub told_more : (after : List Bool) → ((j : ℕ) → slice_index_or measures j false ≡ true → slice_index_or after j false ≡ true)
      → AreTold flags elsewhere after
  told_more after kept c h = told c (by (slice_index_or measures c.measure false) refl)
    where
      by : (b : Bool) → slice_index_or measures c.measure false ≡ b → b ≡ false
      by true e = let k : true ≡ false = sym (kept c.measure e) ∙ h in cc
      by false e = refl

  -- flags may stand as they stood
  pub told_same : (after : List (List Bool)) → SameFlagsIn flags after → AreTold after elsewhere measures
  told_same after same c h = ((told c h).0, λ p. same c.measure p ∙ (told c h).1 p)

  module _ (m : ℕ) (here : slice_index_or measures m false ≡ true) where
    apart : (c : CellName) → slice_index_or measures c.measure false ≡ false → (m == c.measure) ≡ false
    apart c h = by (m == c.measure) refl
      where
        by : (b : Bool) → (m == c.measure) ≡ b → b ≡ false
        by true e = let k : true ≡ false = sym here ∙ ap (λ j. slice_index_or measures j false) ((unsigned_Decides m c.measure).0 e) ∙ h in cc
        by false e = refl

    -- a mark is put at a measure that is told
    pub told_flag : (after : List (List Bool)) (at : ℕ) → SetsFlagIn flags after m at → AreTold after elsewhere measures
    told_flag after at d c h =
        ((told c h).0, λ p. d c.measure p ∙ ap (λ b. (b && (at == p)) || flag_at flags c.measure p) (apart c h) ∙ (told c h).1 p)

    pub told_name : (after : Nodes) (key : Tuple) (number : ℕ) → Numbers elsewhere after (cell_name key m) number → AreTold flags after measures
    told_name after key number put c h =
        (put c ∙ ap (λ b. if is_same key c.key && b then Some number else number_in elsewhere c) (apart c h) ∙ by (is_same key c.key) ∙ (told c h).0, (told c h).1)
      where
        by : (b : Bool) → (if b && false then Some number else number_in elsewhere c) ≡ number_in elsewhere c
        by true = refl
        by false = refl
