-- What the workers made of the pieces, put together.
use Rattle.std.proofs.Common.{◌≡◌, ℕ, ◌-◌, ◌<◌, Option, Some, None, List, ◌++◌, true, length, IfSome, is_some, true≢false, sym, ap, ◌∙◌, ⊎_elim, arith}
use Rattle.std.specs.List.{AllZip}
use Rattle.mq_claims.specs.declared.view.Entry.{Entry}
use Rattle.mq_claims.specs.declared.view.View.{View}
use Rattle.mq_claims.specs.Views.{under, AllBelow}
use Rattle.mq_claims.specs.Calls.{IsWhole}
use Rattle.mq_claims.specs.ViewLaws.{under-append}
use Rattle.mq_workers.specs.Runs.{EachIsRun, GainsRun}
use Rattle.mq_workers.proofs.ListLemmas.{one_of, zipped}
use Rattle.mq_workers.proofs.EntryLemmas.{reach, reach_below}

module _ {P : Type 0} (ran : P → P → Type 0) (handed : List P) where
  pub each_of_both : (a b : List (Entry P)) → EachIsRun ran handed a → EachIsRun ran handed b → EachIsRun ran handed (a ++ b)
  each_of_both a b one other k after e = ⊎_elim (one k after) (other k after)
      (one_of (under k a) (under k b) (Some after) (sym (under-append k a b) ∙ e))

  -- a list of all numbers, each once, has a run of each piece
  pub all_ran : (pieces : List P) (v : View P) → v.handed ≡ handed → IsWhole pieces v → EachIsRun ran handed v.entries → AllZip ran handed pieces
  all_ran pieces v same whole each = zipped ran handed pieces (whole.0 ∙ ap length same)
      (λ k p at. each k p (whole.2 k p at))

  -- each number is above the one before it
  pub nearer : (next : Option ℕ) (old new : List (Entry P)) → IfSome next (λ k. (k < length handed) × AllBelow k old)
      → IfSome next (λ k. GainsRun ran handed k old new) → is_some next ≡ true → length handed - reach new < length handed - reach old
  nearer (Some k) old new number gains has = let low = reach_below k old number.1 in let e = ap reach gains.2 in omega (arith, number)
  nearer None old new number gains has = absurd (true≢false (sym has))
