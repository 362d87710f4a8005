-- Parts of what is looked at, as looks.
use Rattle.std.proofs.Common.{◌≡◌, ℕ, zero, suc, ◌+◌, ◌-◌, ◌<◌, ◌≤◌, Bool, true, false, cond, List, [], ◌∷◌, ◌++◌, drop, length, get_or, map, take, Result, Ok, Err, Some, None, refl, sym, ap, arith, ◌∙◌}
use Rattle.std.specs.Prelude.{slice_index_or}
use Rattle.std.specs.List.{All, filter, flat_map, range_with_len}
use Rattle.std.proofs.lemmas.List.{append-nil, append_assoc, drop_more}
use Rattle.std.proofs.lemmas.List.Concat.{flat_map-cons}
use Rattle.std.proofs.lemmas.List.Elements.{All-append, All-cons, All-get_or, All-nil, filter-append}
use Rattle.std.proofs.lemmas.Grind.{flat_map-append}
use Rattle.mq_values.specs.declared.faults.ValueFault.{ValueFault}
use Rattle.mq_dim_index.specs.PlaceRuns.{numbers_in, numbers_of}
use Rattle.mq_dim_index.specs.declared.place_runs.PlaceRun.{PlaceRun}
use Rattle.mq_ir.specs.declared.expression.Leaf.{Leaf}
use Rattle.mq_ir.specs.declared.query.CellName.{CellName}
use Rattle.mq_ir.specs.declared.query.Look.{Look}
use Rattle.mq_ir.specs.declared.query.Look.TheVariants.{Measure}
use Rattle.mq_ir.specs.Keys.{Tuple}
use Rattle.mq_ir.specs.Looks.{leaf_looks, looks_at, looks_named}
use Rattle.mq_ir.specs.Reads.{Site}
use Rattle.mq_refs.specs.declared.parts.LookPart.{LookPart}
use Rattle.mq_refs.specs.declared.parts.LookPart.TheVariants as part
use Rattle.mq_refs.specs.LookLists.{presence_at}
use Rattle.mq_refs.specs.LookParts.{is_wanted, is_within, looks_in, looks_of_part, wanted_looks}
use Rattle.mq_refs.specs.Sites.{if_named}

-- ---- which looks are wanted
module _ (wanted : List Bool) where
  kept : (m : ℕ) (b : Bool) → slice_index_or wanted m false ≡ b → (key : Tuple) (keys : List Tuple) →
      filter (is_wanted wanted) (looks_at m (key ∷ keys))
      ≡ cond b (Measure (record { key = key; measure = m }) ∷ filter (is_wanted wanted) (looks_at m keys)) (filter (is_wanted wanted) (looks_at m keys))
  kept m b h key keys =
      ap (λ c. cond c (Measure (record { key = key; measure = m }) ∷ filter (is_wanted wanted) (looks_at m keys)) (filter (is_wanted wanted) (looks_at m keys))) h

  -- those at a measure that is wanted
  all_at : (m : ℕ) → slice_index_or wanted m false ≡ true → (keys : List Tuple) → filter (is_wanted wanted) (looks_at m keys) ≡ looks_at m keys
  all_at m h [] = refl
  all_at m h (key ∷ keys) = kept m true h key keys ∙ ap (λ looks. Measure (record { key = key; measure = m }) ∷ looks) (all_at m h keys)

  -- those at one that is not
  none_at : (m : ℕ) → slice_index_or wanted m false ≡ false → (keys : List Tuple) → filter (is_wanted wanted) (looks_at m keys) ≡ []
  none_at m h [] = refl
  none_at m h (key ∷ keys) = kept m false h key keys ∙ none_at m h keys

  pub all_named : {A : Type 0} (m : ℕ) (of : A → List Tuple) (r : Result A ValueFault) → slice_index_or wanted m false ≡ true →
      filter (is_wanted wanted) (looks_named (λ x. looks_at m (of x)) r) ≡ looks_named (λ x. looks_at m (of x)) r
  all_named m of (Ok x) h = all_at m h (of x)
  all_named m of (Err fault) h = refl

  pub none_named : {A : Type 0} (m : ℕ) (of : A → List Tuple) (r : Result A ValueFault) → slice_index_or wanted m false ≡ false →
      filter (is_wanted wanted) (looks_named (λ x. looks_at m (of x)) r) ≡ []
  none_named m of (Ok x) h = none_at m h (of x)
  none_named m of (Err fault) h = refl

  -- no presence is
  pub no_presence : (r : Result Tuple ValueFault) → filter (is_wanted wanted) (looks_named presence_at r) ≡ []
  no_presence (Ok key) = refl
  no_presence (Err fault) = refl

  -- the wanted looks of leaf after leaf are those of all
  pub wanted_of_leaves : (site : Site) (leaves : List Leaf) →
      flat_map (wanted_looks wanted site) leaves ≡ filter (is_wanted wanted) (flat_map (leaf_looks site) leaves)
  wanted_of_leaves site [] = refl
  wanted_of_leaves site (l ∷ leaves) =
      ap (λ looks. wanted_looks wanted site l ++ looks) (wanted_of_leaves site leaves)
      ∙ sym (filter-append (is_wanted wanted) (leaf_looks site l) (flat_map (leaf_looks site) leaves))

-- ---- what is named
pub looks_of_named : {A : Type 0} (of : A → List Look) (r : Result A ValueFault) (name : A) → Some name ≡ if_named r → looks_named of r ≡ of name
looks_of_named of (Ok x) name h = let e : name ≡ x = cc in ap of (sym e)
looks_of_named of (Err fault) name h = absurd (cc)

pub looks_of_none : {A : Type 0} (of : A → List Look) (r : Result A ValueFault) → None ≡ if_named r → looks_named of r ≡ []
looks_of_none of (Ok x) h = absurd (cc)
looks_of_none of (Err fault) h = refl

-- ---- a part more
module _ (set : List Tuple) (parts : List LookPart) where
  one_more : (p : LookPart) → looks_in set (parts ++ p ∷ []) ≡ looks_in set parts ++ looks_of_part set p
  one_more p =
      flat_map-append (looks_of_part set) parts (p ∷ [])
      ∙ ap (λ (looks : List Look). looks_in set parts ++ looks) (flat_map-cons (looks_of_part set) p [] ∙ append-nil (looks_of_part set p))

  pub cell_pushed : (c : CellName) → looks_in set (parts ++ part.Measure c ∷ []) ≡ looks_in set parts ++ Measure c ∷ []
  cell_pushed c = one_more (part.Measure c)

  -- the keys at the places of a run
  stretch : (n i : ℕ) → (0 < n → i + n ≤ length set) → take n (drop i set) ≡ map (λ place. slice_index_or set place []) (range_with_len i n)
  stretch zero i h = refl
  stretch (suc n) i h =
      let within : i + suc n ≤ length set = h (omega arith) in
      ap (take (suc n)) (drop_more set i [] (omega (arith, within)))
      ∙ ap (λ (keys : List Tuple). get_or set i [] ∷ keys) (stretch n (i + 1) (λ some. omega (arith, within)))

  pub run_pushed : (m : ℕ) (run : PlaceRun) → run.past ≤ length set →
      looks_in set (parts ++ part.Run m run.first run.past ∷ [])
      ≡ looks_in set parts ++ looks_at m (map (λ place. slice_index_or set place []) (numbers_in run))
  run_pushed m run h =
      one_more (part.Run m run.first run.past)
      ∙ ap (λ keys. looks_in set parts ++ looks_at m keys) (stretch (run.past - run.first) run.first (λ some. omega (arith, some, h)))

pub part_within : (count : ℕ) (parts : List LookPart) (p : LookPart) → is_within count p → All (is_within count) parts → All (is_within count) (parts ++ p ∷ [])
part_within count parts p h all = All-append (is_within count) parts (p ∷ []) all (All-cons (is_within count) p [] h (All-nil (is_within count)))

-- ---- runs that are put one after another
module _ (key_at : ℕ → Tuple) (m : ℕ) where
  over_both : (ns ms : List ℕ) → looks_at m (map key_at ns) ++ looks_at m (map key_at ms) ≡ looks_at m (map key_at (ns ++ ms))
  over_both [] ms = refl
  over_both (n ∷ ns) ms = ap (λ looks. Measure (record { key = key_at n; measure = m }) ∷ looks) (over_both ns ms)

  next_run_looks : (runs : List PlaceRun) (i : ℕ) (d : PlaceRun) → i < length runs →
      looks_at m (map key_at (numbers_in (get_or runs i d))) ++ looks_at m (map key_at (numbers_of (drop (i + 1) runs)))
      ≡ looks_at m (map key_at (numbers_of (drop i runs)))
  next_run_looks runs i d l =
      over_both (numbers_in (get_or runs i d)) (numbers_of (drop (i + 1) runs))
      ∙ ap (λ (rest : List PlaceRun). looks_at m (map key_at (numbers_of rest))) (sym (drop_more runs i d l))

-- the looks of the runs that are left, where one more is put
pub run_next : (set : List Tuple) (parts : List LookPart) (m : ℕ) (runs : List PlaceRun) (i : ℕ) (d : PlaceRun) → i < length runs → All (λ (r : PlaceRun). r.past ≤ length set) runs →
    looks_in set (parts ++ part.Run m (get_or runs i d).first (get_or runs i d).past ∷ [])
    ++ looks_at m (map (λ place. slice_index_or set place []) (numbers_of (drop (i + 1) runs)))
    ≡ looks_in set parts ++ looks_at m (map (λ place. slice_index_or set place []) (numbers_of (drop i runs)))
run_next set parts m runs i d l all =
    let key_at : ℕ → Tuple = λ place. slice_index_or set place [] in
    let run = get_or runs i d in
    let rest : List Look = looks_at m (map key_at (numbers_of (drop (i + 1) runs))) in
    ap (λ (looks : List Look). looks ++ rest) (run_pushed set parts m run (All-get_or (λ (r : PlaceRun). r.past ≤ length set) runs i d l all))
    ∙ append_assoc (looks_in set parts) (looks_at m (map key_at (numbers_in run))) rest
    ∙ ap (λ (looks : List Look). looks_in set parts ++ looks) (next_run_looks key_at m runs i d l)
