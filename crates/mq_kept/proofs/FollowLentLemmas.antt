-- Partitions that are lent, and rows that were replaced.
use Rattle.std.proofs.Common.{◌≡◌, ℕ, ◌+◌, suc, Bool, true, false, List, [], ◌∷◌, map, Option, Some, Result, Ok, Err, refl, sym, ap, subst, ◌∙◌, arith}
use Rattle.std.specs.Prelude.{IfOk, IfSome, slice_index_or}
use Rattle.std.specs.List.{All, list_any}
use Rattle.mq_ir.specs.declared.query.BoundQuery.{BoundQuery}
use Rattle.mq_ir.specs.declared.query.ModelPart.{ModelPart}
use Rattle.mq_ir.specs.declared.query.PartInput.{PartInput}
use Rattle.mq_ir.specs.Keys.{Tuple}
use Rattle.mq_ir.specs.Partitions.{partitions}
use Rattle.mq_ir.specs.Ready.{QueryIsReady}
use Rattle.mq_ir.specs.Statement.{tables_of_model, tables_read}
use Rattle.mq_ir.specs.Tables.{Tables, is_name, rows_of}
use Rattle.mq_delta_items.specs.declared.following.ItemChange.{ItemChange}
use Rattle.mq_delta_items.specs.Lines.{lines_of}
use Rattle.mq_delta_parts.specs.Woven.{IsChangeOf, Woven, woven_end, woven_some, woven_stay}
use Rattle.mq_kept.specs.declared.kept_view.KeptPart.{KeptPart}
use Rattle.mq_kept.specs.declared.kept_view.KeptView.{KeptView}
use Rattle.mq_kept.specs.declared.row_changes.RowChange.{RowChange}
use Rattle.mq_kept.specs.Beside.{IsChangeOfLines}
use Rattle.mq_kept.specs.FollowingLent.{AreExchanged, IsLent}
use Rattle.mq_kept.specs.Kept.{AreLinesOver, IsKept, IsRight, inputs_of, model_in}
use Rattle.mq_tables.specs.PuttingBack.{AreReplaced, ReplacedRows, replaced_end, replaced_put, replaced_same}
use Rattle.mq_kept.specs.Renewed.{MayRenew}
use Rattle.mq_kept.proofs.CarryLemmas.{lines_before, may_renew, stands, still_kept}

-- ---- rows that were replaced
module _ (rows : List Tuple) where
  abbrev row_at : ℕ × Tuple → Tuple
  row_at was = slice_index_or rows was.0 []

  -- these are the rows from place n on
  abbrev StandFrom : ℕ → List Tuple → Type 0
  StandFrom n now = (i : ℕ) → slice_index_or rows (n + i) [] ≡ slice_index_or now i []

  whole : StandFrom 0 rows
  whole i = let e : 0 + i ≡ i = omega arith in ap (λ n. slice_index_or rows n []) e

  first : (n : ℕ) (row : Tuple) (now : List Tuple) → StandFrom n (row ∷ now) → slice_index_or rows n [] ≡ row
  first n row now at = let e : n ≡ n + 0 = omega arith in ap (λ n. slice_index_or rows n []) e ∙ at 0

  behind : (n : ℕ) (row : Tuple) (now : List Tuple) → StandFrom n (row ∷ now) → StandFrom (suc n) now
  behind n row now at i = let e : suc n + i ≡ n + suc i = omega arith in ap (λ n. slice_index_or rows n []) e ∙ at (suc i)

  change_from : {n : ℕ} {were : List (ℕ × Tuple)} {before now : List Tuple} → AreReplaced n were before now → StandFrom n now
      → IsChangeOf before (map (λ was. was.1) were) (map row_at were) now
  change_from replaced_end at = record { stay = []; before = woven_end; after = woven_end }
  change_from (replaced_same {n = n} {row = row} {now = now} same) at =
      let rest = change_from same (behind n row now at) in
      record { stay = row ∷ rest.stay; before = woven_stay rest.before; after = woven_stay rest.after }
  change_from (replaced_put {n = n} {were = were} {is = is} {now = now} put) at =
      let rest = change_from put (behind n is now at) in
      record {
        stay = rest.stay;
        before = woven_some rest.before;
        after = subst (λ (r : Tuple). Woven rest.stay (r ∷ map row_at were) (is ∷ now)) (sym (first n is now at)) (woven_some rest.after);
      }

  -- .. are rows that went, and those came that stand at their places
  pub change_of_replaced : (were : List (ℕ × Tuple)) (before : List Tuple) (change : RowChange) → AreReplaced 0 were before rows
      → AreExchanged were rows change → IsChangeOf before change.gone change.come rows
  change_of_replaced were before change replaced are =
      subst (λ gone. IsChangeOf before gone change.come rows) (sym are.gone)
      (subst (λ come. IsChangeOf before (map (λ was. was.1) were) come rows) (sym are.come) (change_from replaced whole))

-- ---- what is lent, as a view with its lines
abbrev with_lines : KeptView → List KeptPart → List (Option Tuple) → KeptView
with_lines view parts lines = record { lists = view.lists; refs = view.refs; parts = parts; lines = Some lines }

module _ (tables : Tables) (q : BoundQuery) (part : ModelPart) (view : KeptView) where
  has_lines : (parts : List KeptPart) (lent : IsLent tables q part view parts) → IsKept tables q part (with_lines view parts lent.lines)
  has_lines parts lent = record { read = lent.kept.read; right = lent.kept.right; lines = lent.lines_are }

  is_lent : (parts : List KeptPart) (lines : List (Option Tuple)) → IsKept tables q part (with_lines view parts lines) → IsLent tables q part view parts
  is_lent parts lines kept = record {
    kept = record { read = kept.read; right = kept.right; lines = tt };
    lines = lines;
    lines_are = kept.lines;
  }

  -- partitions with the inputs of those that are kept
  pub lends : (lines : List (Option Tuple)) → view.lines ≡ Some lines → IsKept tables q part view → (parts : List KeptPart)
      → inputs_of parts ≡ inputs_of view.parts → All (IsRight (model_in part view)) parts → IsLent tables q part view parts
  lends lines has kept parts same right = record {
    kept = record {
      read = kept.read ∙ ap (λ (inputs : List PartInput). Ok (inputs, model_in part view)) (sym same);
      right = right;
      lines = tt;
    };
    lines = lines;
    lines_are = subst (λ (o : Option (List (Option Tuple))). IfSome o (AreLinesOver tables q)) has kept.lines;
  }

-- ---- .. after rows of a table were replaced
module _ (table : List ℕ) (q : BoundQuery) (part : ModelPart) (before now : Tables) (view : KeptView) (parts : List KeptPart)
    (is : q.model ≡ Some part) (were : List (ℕ × Tuple)) (replaced : ReplacedRows table were before now) (lent : IsLent before q part view parts) where
  abbrev old : KeptView
  old = with_lines view parts lent.lines

  kept : IsKept before q part old
  kept = has_lines before q part view parts lent

  -- where the query reads none of them
  pub still_lent : list_any (is_name table) (tables_read q) ≡ false → IsLent now q part view parts
  still_lent unread = is_lent now q part view parts lent.lines (still_kept table before now replaced.others q part is unread old kept)

  -- where its FROM alone reads them
  module _ (ready : QueryIsReady q) (there : list_any (is_name table) q.from.tables ≡ true) (apart : list_any (is_name table) (tables_of_model part) ≡ false) where
    pub lines_were : lines_of q.from q.items (rows_of before table) ≡ Some lent.lines
    lines_were = lines_before table q part before now old is ready there apart replaced.others kept lent.lines refl

    module _ (change : ItemChange) (of : IsChangeOfLines q.from q.items (rows_of now table) lent.lines change) where
      pub may_follow : MayRenew part change (inputs_of parts)
      may_follow = may_renew table q part before now old is ready there apart replaced.others kept lent.lines refl of.after change (of.lines_are, of.items)

      pub has_followed : {E : Type 0} (after : List KeptPart) → All (IsRight (model_in part view)) after → (done : Result Bool E)
          → ((some others : List Tuple) → inputs_of parts ≡ partitions part some → IsChangeOf some change.gone change.come others
          → IfOk done (λ renewed. renewed ≡ true → inputs_of after ≡ partitions part others))
          → IfOk done (λ done. done ≡ true → IsLent now q part view after)
      has_followed after right (Err e) renewed = tt
      has_followed after right (Ok fresh) renewed = λ yes.
          let standing = stands table q part before now old is ready there apart replaced.others kept lent.lines refl of.after change (of.lines_are, of.items)
          after fresh right renewed in
          is_lent now q part view after of.after (standing.kept yes)
