-- The laws of the claim machine.
use Rattle.std.proofs.Common.{◌≡◌, ℕ, ◌<◌, ◌≤◌, Bool, true, false, List, [], ◌∷◌, length, sym, refl, ap, ◌∙◌, arith}
use mathlib.Core.Option.{some, some-injective}
use lib.ListN.{get_elem?}
use Rattle.mq_claims.specs.Machine.{Status, waiting, claimed, held, done, Worker, worker, Machine, claims, claimers, is_latest, contents}
use Rattle.mq_claims.specs.MachineLaws.{EachIsClaimedOnce, IsOver, AllIsDone, PiecesAreCounted, ClaimsAreBounded}
use Rattle.mq_claims.proofs.ListLemmas.{there}
use Rattle.mq_claims.proofs.RunLemmas.{untold, Tells, sound}

module _ {P : Type 0} where
  once : (ws : List Worker) (k c : ℕ) (who : List ℕ) (latest : ℕ → Bool) (what : List P) (st : Status P) → Tells ws k c who latest what st
      → (k < c → (w : ℕ) × (who ≡ w ∷ [])) × (c ≤ k → (who ≡ []) × (st ≡ waiting))
  once ws k c who latest what waiting h = ((λ lt. let le : c ≤ k = h.0 in absurd (omega arith)), λ le. (h.1, refl))
  once ws k c who latest what (claimed w) h = ((λ lt. h.1), λ le. let lt : k < c = h.0 in absurd (omega arith))
  once ws k c who latest what (held w) h = ((λ lt. h.1), λ le. let lt : k < c = h.0 in absurd (omega arith))
  once ws k c who latest what (done w p) h = ((λ lt. h.1), λ le. let lt : k < c = h.0 in absurd (omega arith))

  -- at the end no worker lives that was not told
  busy_first : (m : Machine P) (w : ℕ) → IsOver m → get_elem? m.workers w ≡ some (worker true false) → ⊥
  busy_first m w over at = let first : w ≡ 0 = over.1 w _ at refl in
      untold true true (some-injective _ _ (sym over.0 ∙ ap (get_elem? m.workers) (sym first) ∙ at))

  last : (m : Machine P) (k c : ℕ) (who : List ℕ) (latest : ℕ → Bool) (what : List P) (st : Status P) → IsOver m → k < c
      → Tells m.workers k c who latest what st → get_elem? m.pieces k ≡ some st
      → (p : P) × (get_elem? m.pieces k ≡ some (done 0 p)) × (what ≡ p ∷ [])
  last m k c who latest what waiting over lt h at = let le : c ≤ k = h.0 in absurd (omega arith)
  last m k c who latest what (claimed w) over lt h at = absurd (busy_first m w over h.4)
  last m k c who latest what (held w) over lt h at = absurd (busy_first m w over h.4)
  last m k c who latest what (done w p) over lt h at = (p, at ∙ ap (λ (v : ℕ). some (done v p)) (over.1 w _ h.3.1 refl), h.2)

pub each_is_claimed_once : (P : Type 0) → EachIsClaimedOnce P
each_is_claimed_once P n es m run k lt =
    let s = sound n es m run in let c = s.counted in let size : length m.pieces ≡ n = s.size in let at = there m.pieces k (omega arith) in
    let told = once m.workers k (claims es) (claimers k es) (λ w. is_latest k w es) (contents k es) at.0 (s.tells k at.0 at.1) in
    ((λ below. told.0 (omega arith)), λ beyond. let w = told.1 (omega arith) in (w.0, at.1 ∙ ap some w.1))

pub all_is_done : (P : Type 0) → AllIsDone P
all_is_done P n es m run over =
    let s = sound n es m run in let c = s.counted in let size : length m.pieces ≡ n = s.size in
    let passed : n < m.next = s.over 0 true over.0 in (
      passed,
      λ k lt. let at = there m.pieces k (omega arith) in
          last m k (claims es) (claimers k es) (λ w. is_latest k w es) (contents k es) at.0 over (omega arith) (s.tells k at.0 at.1) at.1,
    )

pub pieces_are_counted : (P : Type 0) → PiecesAreCounted P
pieces_are_counted P n es m run = (sound n es m run).adds_up

pub claims_are_bounded : (P : Type 0) → ClaimsAreBounded P
claims_are_bounded P n es m run = let s = sound n es m run in (s.bounded, s.few)
