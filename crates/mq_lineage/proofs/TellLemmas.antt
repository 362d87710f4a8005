-- What is told of measures, one after another.
use Rattle.std.proofs.Common.{◌≡◌, Bool, true, false, List, [], ◌∷◌, ◌++◌, cond, map, Some, None, refl, sym, ap, ◌∙◌, append_assoc}
use Rattle.std.specs.List.{All, filter, find}
use Rattle.std.specs.Option.{option_map}
use Rattle.std.proofs.lemmas.List.{append-nil, map-append}
use Rattle.std.proofs.lemmas.List.Elements.{filter-append}
use Rattle.mq_ir.specs.declared.query.CellName.{CellName}
use Rattle.mq_ir.specs.declared.query.Look.TheVariants.{Measure}
use Rattle.mq_ir.specs.declared.query.PartShape.{PartShape}
use Rattle.mq_ir.specs.Automatic.{rule_at}
use Rattle.mq_ir.specs.EachLaws.{Each, each_in}
use Rattle.mq_ir.specs.Shape.{Assignment, assigns}
use Rattle.mq_cells.specs.Stores.{name_assigned}
use Rattle.mq_lineage.specs.Told.{Told, told_among, told_bare, told_with}

-- ---- measures that no rule assigns
each_bare : (shape : PartShape) (names : List CellName) → Each (λ c. rule_at shape (Measure c) ≡ None) names → map told_bare names ≡ map (told_with shape) names
each_bare shape [] h = refl
each_bare shape (c ∷ names) h = λ i. (c, sym h.0 i) ∷ each_bare shape names h.1 i

pub bare_told : (shape : PartShape) (names : List CellName) → All (λ c. rule_at shape (Measure c) ≡ None) names → map told_bare names ≡ map (told_with shape) names
bare_told shape names h = each_bare shape names (each_in (λ c. rule_at shape (Measure c) ≡ None) names h)

-- ---- measures of a set
module _ (shape : PartShape) (held : CellName → Bool) where
  told_append : (xs ys : List CellName) → told_among shape held (xs ++ ys) ≡ told_among shape held xs ++ told_among shape held ys
  told_append xs ys = ap (map (told_with shape)) (filter-append held xs ys) ∙ map-append (told_with shape) (filter held xs) (filter held ys)

  -- some more are told
  pub told_next : (xs ys zs : List CellName) (told after all : List Told) → zs ≡ xs ++ ys → after ≡ told ++ told_among shape held xs
      → told ++ told_among shape held zs ≡ all → after ++ told_among shape held ys ≡ all
  told_next xs ys zs told after all is e w =
      ap (λ l. l ++ told_among shape held ys) e
      ∙ append_assoc told (told_among shape held xs) (told_among shape held ys)
      ∙ ap (λ l. told ++ l) (sym (ap (told_among shape held) is ∙ told_append xs ys))
      ∙ w

  -- the measure of an assignment is a source, or is not
  pub source_told : (a : Assignment) (name : CellName) (b : Bool) → find (assigns a.1 a.0) shape.assigned ≡ Some a → name ≡ name_assigned a
      → b ≡ held (name_assigned a) → b ≡ true → (name, Some a.2) ∷ [] ≡ told_among shape held (name_assigned a ∷ [])
  source_told a name b own is e f =
      let rule : rule_at shape (Measure (name_assigned a)) ≡ Some a.2 = ap (option_map (λ (x : Assignment). x.2)) own in
      (λ i. (is i, sym rule i) ∷ [])
      ∙ ap (λ c. map (told_with shape) (cond c (name_assigned a ∷ []) [])) (sym (sym e ∙ f))

  pub nothing_told : (a : Assignment) (told : List Told) (b : Bool) → b ≡ held (name_assigned a) → b ≡ false
      → told ≡ told ++ told_among shape held (name_assigned a ∷ [])
  nothing_told a told b e f =
      sym (append-nil told)
      ∙ ap (λ c. told ++ map (told_with shape) (cond c (name_assigned a ∷ []) [])) (sym (sym e ∙ f))
