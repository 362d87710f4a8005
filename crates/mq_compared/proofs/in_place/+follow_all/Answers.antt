use Rattle.std.proofs.Common.{◌≡◌, ◌∙◌, ℕ, ◌+◌, List, drop, true, Some, Option, sym, subst, ap, rules}
use Rattle.std.specs.Prelude.{IfSome, slice_get}
use Rattle.std.proofs.lemmas.Option.{slice_get-get_or}
use Rattle.std.proofs.lemmas.Result.{IfOk-weaker}
use Rattle.mq_ir.specs.Changes.{table_of}
use Rattle.mq_ir.specs.Keys.{Tuple}
use Rattle.mq_tables.specs.PuttingBack.{ReplacedRows, WasReplaced}
use Rattle.mq_compared.specs.InPlace.{IsLentUnder}
use Rattle.mq_compared.proofs.InPlaceLemmas.{one_made}
use Rattle.mq_compared.proofs.in_place.+follow_all.Goals.{in-Ok-true, in_default-follow_lent, in_default-follow_lent-2}
use Rattle.mq_compared.proofs.in_place.+follow_all.Goals as goal

pub follow_lent-requires-clause-lent : goal.follow_lent-requires-clause-lent
follow_lent-requires-clause-lent t c =
    let before = c.args.tables.now in
    let now = c.made.new.tables in
    let change = c.in-Some.change.now in
    let were = c.in-Some-2.were in
    let r : WasReplaced change were before now = subst (λ (o : Option (List (ℕ × Tuple))). IfSome o (λ w. WasReplaced change w before now)) c.in-Some-2.is c.in_ok-were.ensures.made in
    record {
      before = before;
      replaced =
          subst (λ (n : List ℕ). ReplacedRows n c.as_slice.result.now before now) (sym (c.as_str.ensures ∙ c.table_of.ensures))
          (subst (λ (w : List (ℕ × Tuple)). ReplacedRows (table_of change) w before now) (sym c.as_slice.ensures)
          (c.updates_replace_rows.ensures before now change r.count were r.made r.touched));
      lent = c.requires.lent;
    }

-- the changes behind were made too
pub returns-clause-followed : goal.returns-clause-followed
returns-clause-followed t c =
    let before = c.args.tables.now in
    let now = c.made.new.tables in
    let change = c.in-Some.change.now in
    let were = c.in-Some-2.were in
    let changes = c.args.changes.now in
    let at = c.args.at in
    let q = c.args.lending.now.q.now in
    let part = c.args.lending.now.part.now in
    let view = c.args.lending.now.view.now in
    let found = c.in-Some.ensures.lookup in
    let got : slice_get changes at ≡ Some change = slice_get-get_or changes at change found.3.0 ∙ ap Some (sym found.1) in
    let r : WasReplaced change were before now = subst (λ (o : Option (List (ℕ × Tuple))). IfSome o (λ w. WasReplaced change w before now)) c.in-Some-2.is c.in_ok-were.ensures.made in
    elim c.match-follow_lent.branch [
      | in-Ok-true w ↦
          let parts = w.follow_all-done.new.parts in
          rw (w.done-is, w.parts-is) (IfOk-weaker w.follow_all-done.result (λ done. done ≡ true → IsLentUnder now (drop (at + 1) changes) q part view parts)
          (λ done. done ≡ true → IsLentUnder before (drop at changes) q part view parts)
          (λ done more e. one_made q part view parts before now change were changes at got r (more e)) w.follow_all-done.ensures.followed)
      | in_default-follow_lent w ↦ rw (w.done-is) (search rules)
      | in_default-follow_lent-2 w ↦ search rules
    ]
