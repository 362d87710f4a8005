-- Changes that are made in place, one after another, while what is lent follows them.
use Rattle.std.proofs.Common.{◌≡◌, ℕ, zero, suc, ◌+◌, List, [], ◌∷◌, true, drop, Option, Some, None, Result, Ok, Err, refl, sym, ap, ◌∙◌}
use Rattle.std.specs.Prelude.{slice_get, unwrap_or}
use Rattle.std.specs.List.{enumerate_from}
use Rattle.std.specs.Option.{ok_or}
use Rattle.std.proofs.lemmas.List.{drop_more}
use Rattle.std.proofs.lemmas.Option.{slice_get_within, unwrap_or-slice_get}
use Rattle.mq_values.specs.declared.faults.Refused.{Refused}
use Rattle.mq_values.specs.declared.faults.Refused.TheVariants as refused
use Rattle.mq_ir.specs.declared.query.BoundQuery.{BoundQuery}
use Rattle.mq_ir.specs.declared.query.Compared.TheVariants.{Shown, Stopped}
use Rattle.mq_ir.specs.declared.query.ModelPart.{ModelPart}
use Rattle.mq_ir.specs.declared.statement.Change.{Change}
use Rattle.mq_ir.specs.declared.statement.Change.TheVariants.{Insert, Append, Update, Delete}
use Rattle.mq_ir.specs.Answer.{answer_of}
use Rattle.mq_ir.specs.Changes.{Visited, updated_row}
use Rattle.mq_ir.specs.Keys.{Tuple}
use Rattle.mq_ir.specs.Results.{◌>>=◌, each, each_in_turn, marked}
use Rattle.mq_ir.specs.Scenarios.{Stop, compared, numbered_change}
use Rattle.mq_ir.specs.Tables.{Table, Tables, table_at}
use Rattle.mq_kept.specs.declared.kept_view.KeptPart.{KeptPart}
use Rattle.mq_kept.specs.declared.kept_view.KeptView.{KeptView}
use Rattle.mq_tables.specs.declared.touched.Touched.{Touched}
use Rattle.mq_tables.specs.declared.touched.Touched.TheVariants.{Replaced}
use Rattle.mq_tables.specs.Touching.{touched_by}
use Rattle.mq_tables.specs.Visits.{taken}
use Rattle.mq_delta_items.specs.TouchLaws.{mapped_is}
use Rattle.mq_compared.specs.Applied.{applied_is}
use Rattle.mq_kept.specs.FollowingLent.{IsLent}
use Rattle.mq_compared.specs.InPlace.{IsLentUnder}
use Rattle.mq_tables.specs.PuttingBack.{WasReplaced, sets_no_key}

-- ---- what an UPDATE touches
pub is_replaced : (tables : Tables) (c : Change) (touched : Touched) → sets_no_key tables c ≡ true → touched_by tables c ≡ Ok touched
    → (were : List (ℕ × Tuple)) × (touched ≡ Replaced were)
is_replaced tables (Insert name rows) touched h t = absurd (cc)
is_replaced tables (Append name rows) touched h t = absurd (cc)
is_replaced tables (Update name sets filter) touched h t = by (table_at tables name) t
  where
    by : (o : Option Table)
        → (ok_or o (refused.UnknownName name) >>= (λ u.
        each (updated_row u.schema sets filter) (enumerate_from 1 u.rows) >>= (λ visited. Ok (Replaced (taken u.rows visited))))) ≡ Ok touched
        → (were : List (ℕ × Tuple)) × (touched ≡ Replaced were)
    by None g = absurd (cc)
    by (Some u) g =
        let it =
        mapped_is (each (updated_row u.schema sets filter) (enumerate_from 1 u.rows)) (λ (visited : List Visited). Replaced (taken u.rows visited))
        touched g in
        (taken u.rows it.0, sym it.2)
is_replaced tables (Delete name filter) touched h t = absurd (cc)

-- ---- the changes that are left
pub next_change : (changes : List Change) (at : ℕ) (c : Change) → slice_get changes at ≡ Some c → drop at changes ≡ c ∷ drop (at + 1) changes
next_change changes at c h =
    drop_more changes at c (slice_get_within changes at c h)
    ∙ ap (λ x. x ∷ drop (at + 1) changes) (sym (unwrap_or-slice_get changes at c) ∙ ap (λ o. unwrap_or o c) h)

no_change_left : (changes : List Change) (at : ℕ) → slice_get changes at ≡ None → drop at changes ≡ []
no_change_left [] zero h = refl
no_change_left [] (suc at) h = refl
no_change_left (c ∷ changes) zero h = absurd (cc)
no_change_left (c ∷ changes) (suc at) h = no_change_left changes at h

module _ (q : BoundQuery) (part : ModelPart) (view : KeptView) (parts : List KeptPart) where
  abbrev IsUnder : Tables → List Change → Type 0
  IsUnder tables changes = IsLentUnder tables changes q part view parts

  pub nothing_left : (tables : Tables) (changes : List Change) (at : ℕ) → slice_get changes at ≡ None → IsLent tables q part view parts
      → IsUnder tables (drop at changes)
  nothing_left tables changes at h lent = record {
    under = tables;
    made = λ k. ap (λ (left : List Change). each_in_turn numbered_change (enumerate_from k left) tables) (no_change_left changes at h);
    lent = lent;
  }

  -- one change is made, and then the others
  pub one_made : (before now : Tables) (c : Change) (were : List (ℕ × Tuple)) (changes : List Change) (at : ℕ) → slice_get changes at ≡ Some c
      → WasReplaced c were before now → IsUnder now (drop (at + 1) changes) → IsUnder before (drop at changes)
  one_made before now c were changes at h r more = record {
    under = more.under;
    made = λ k.
        ap (λ (left : List Change). each_in_turn numbered_change (enumerate_from k left) before) (next_change changes at c h)
        ∙ ap
        (λ (r : Result (Tables × ℕ) Refused).
        ◌>>=◌ {E = Stop} (marked (λ refusal. (k, refusal)) r >>= (λ changed. Ok changed.0))
        (each_in_turn numbered_change (enumerate_from (k + 1) (drop (at + 1) changes)))) (sym (applied_is before c) ∙ r.made)
        ∙ more.made (k + 1);
    lent = more.lent;
  }

  -- what is answered then
  pub compared_is : (tables : Tables) (changes : List Change) (under : IsUnder tables (drop 0 changes)) → compared tables q changes ≡ Shown (answer_of under.under q)
  compared_is tables changes under =
      ap (λ (r : Result Tables Stop). elim r [ Ok changed ↦ Shown (answer_of changed q) | Err stop ↦ Stopped stop.0 stop.1 ]) (under.made 1)
