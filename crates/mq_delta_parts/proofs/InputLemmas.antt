-- The input of a partition after a change of its rows.
use Rattle.std.proofs.Common.{◌≡◌, Bool, true, false, not, ◌&&◌, is_none, is_some, List, map, Option, Some, None, refl, sym, subst, ap, ◌∙◌}
use Rattle.std.specs.List.{filter}
use Rattle.mq_ir.specs.declared.query.ModelPart.{ModelPart}
use Rattle.mq_ir.specs.declared.query.PartInput.{PartInput}
use Rattle.mq_ir.specs.Keys.{Tuple}
use Rattle.mq_ir.specs.Partitions.{Cells, cells_of, input_of, repeated}
use Rattle.mq_shape.specs.Runs.{cut_row, has_parts}
use Rattle.mq_delta_parts.specs.Changed.{IsChangeIn}
use Rattle.mq_delta_parts.specs.Edits.{Ascends, amended, edits_of}
use Rattle.mq_delta_parts.specs.Woven.{IsChangeOf}
use Rattle.mq_delta_parts.proofs.ChangeLemmas.{cells_after, old_ascends, once_after}
use Rattle.mq_delta_parts.proofs.SomeLemmas.{change_amends}
use Rattle.mq_delta_parts.proofs.WovenLemmas.{woven_mapped}

-- an input in which a tuple stands twice is not amended
pub none_where_repeated : (old : PartInput) (b : Bool) → is_some old.repeated ≡ true → false ≡ (is_none old.repeated && b)
none_where_repeated old b h = sym (ap (λ twice. not twice && b) h)

module _ (part : ModelPart) (old : PartInput) (gone come before after : List Tuple) (in_rows : IsChangeIn part old gone come before after) (once : old.repeated ≡ None) where
  abbrev of_key : List Tuple → List (Tuple × Tuple)
  of_key rows = map (cut_row part) (filter (has_parts part.parts old.key) rows)

  abbrev cut_all : List Tuple → List (Tuple × Tuple)
  cut_all rows = map (cut_row part) rows

  old_once : repeated (map (λ row. row.0) (of_key before)) ≡ None
  old_once = sym (ap (λ (input : PartInput). input.repeated) in_rows.input_is) ∙ once

  cells_are : old.cells ≡ cells_of (of_key before)
  cells_are = ap (λ (input : PartInput). input.cells) in_rows.input_is

  pub old_cells_ascend : Ascends old.cells
  old_cells_ascend = subst Ascends (sym cells_are) (old_ascends (of_key before) (cut_all gone) (cut_all come) (of_key after) old_once)

  cut_change : IsChangeOf (of_key before) (cut_all gone) (cut_all come) (of_key after)
  cut_change =
      record {
        stay = cut_all in_rows.rows.stay;
        before = woven_mapped (cut_row part) in_rows.rows.before;
        after = woven_mapped (cut_row part) in_rows.rows.after;
      }

  abbrev after_all : List (Tuple × Tuple) → Option Cells
  after_all rows = amended (cells_of rows) (edits_of (cut_all gone) (cut_all come))

  module _ (cells : Cells) (is : Some cells ≡ amended old.cells (edits_of (cut_all gone) (cut_all come))) where
    amends : after_all (of_key before) ≡ Some cells
    amends = ap (λ c. amended c (edits_of (cut_all gone) (cut_all come))) (sym cells_are) ∙ sym is

    once_now : repeated (map (λ row. row.0) (of_key after)) ≡ None
    once_now = once_after (of_key before) (cut_all gone) (cut_all come) (of_key after) old_once cells cut_change amends

    -- the amended cells are those of the input after the change
    pub input_is : (input : PartInput) → input ≡ record { key = old.key; cells = cells; repeated = None } → input ≡ input_of part after old.key
    input_is input made =
        let now = cells_after (of_key before) (cut_all gone) (cut_all come) (of_key after) old_once cells cut_change amends in
        made ∙ (λ i. record { key = old.key; cells = now i; repeated = sym once_now i })

    -- in which no tuple stands twice
    pub some_where_once : true ≡ (is_none old.repeated && is_none (input_of part after old.key).repeated)
    some_where_once = λ i. is_none (sym once i) && is_none (sym once_now i)

  -- where there are no amended cells, one does
  pub none_where_twice : None ≡ amended old.cells (edits_of (cut_all gone) (cut_all come))
      → false ≡ (is_none old.repeated && is_none (input_of part after old.key).repeated)
  none_where_twice e =
      by (repeated (map (λ row. row.0) (of_key after))) refl
      ∙ ap (λ (o : Option Tuple). is_none o && is_none (repeated (map (λ row. row.0) (of_key after)))) (sym once)
    where
      by : (o : Option Tuple) → repeated (map (λ row. row.0) (of_key after)) ≡ o → false ≡ is_none o
      by (Some key) h = refl
      by None h =
          let some : is_some (after_all (of_key before)) ≡ true =
          change_amends (of_key before) (cut_all gone) (cut_all come) (of_key after) cut_change h in
          ap is_some e ∙ ap (λ c. is_some (amended c (edits_of (cut_all gone) (cut_all come)))) cells_are ∙ some
