-- Aggregates over the places of runs.
use Rattle.std.proofs.Common.{◌≡◌, ℕ, suc, ◌+◌, ◌-◌, ◌<◌, ◌≤◌, List, [], ◌∷◌, ◌++◌, length, drop, get_or, map, refl, sym, ap, ◌∙◌, arith}
use Rattle.std.specs.List.{range_with_len}
use Rattle.std.proofs.lemmas.List.{drop_more}
use Rattle.mq_values.specs.declared.value.Value.{Value}
use Rattle.mq_dim_index.specs.PlaceRuns.{numbers_in, numbers_of}
use Rattle.mq_dim_index.specs.declared.place_runs.PlaceRun.{PlaceRun}
use Rattle.mq_ir.specs.Keys.{Tuple}

module _ (value : ℕ → Value) where
  over_both : (ns ms : List ℕ) → map value ns ++ map value ms ≡ map value (ns ++ ms)
  over_both [] ms = refl
  over_both (n ∷ ns) ms = ap (λ l. value n ∷ l) (over_both ns ms)

  -- the values of the runs that are left, where one run is next
  pub next_run_values : (runs : List PlaceRun) (i : ℕ) (d : PlaceRun) → i < length runs →
      map value (numbers_in (get_or runs i d)) ++ map value (numbers_of (drop (i + 1) runs)) ≡ map value (numbers_of (drop i runs))
  next_run_values runs i d l =
      over_both (numbers_in (get_or runs i d)) (numbers_of (drop (i + 1) runs)) ∙ ap (λ (rest : List PlaceRun). map value (numbers_of rest)) (sym (drop_more runs i d l))

  -- the values of the places that are left, where one place is next
  pub next_place_values : (place past : ℕ) (rest : List Value) → place < past →
      map value (range_with_len place (past - place)) ++ rest ≡ value place ∷ (map value (range_with_len (place + 1) (past - (place + 1))) ++ rest)
  next_place_values place past rest l =
      let e : past - place ≡ suc (past - (place + 1)) = omega arith in
      ap (λ n. map value (range_with_len place n) ++ rest) e

  pub no_more_values : (place past : ℕ) (rest : List Value) → past ≤ place → map value (range_with_len place (past - place)) ++ rest ≡ rest
  no_more_values place past rest l =
      let e : past - place ≡ 0 = omega arith in
      ap (λ n. map value (range_with_len place n) ++ rest) e

-- the values of places are those of the keys there
pub values_at : (of : Tuple → Value) (key_at : ℕ → Tuple) (ns : List ℕ) → map (λ place. of (key_at place)) ns ≡ map of (map key_at ns)
values_at of key_at [] = refl
values_at of key_at (n ∷ ns) = ap (λ l. of (key_at n) ∷ l) (values_at of key_at ns)
