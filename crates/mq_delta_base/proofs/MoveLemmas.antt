-- Tuples whose rows stay, and tuples with a touched row.
use Rattle.std.proofs.Common.{◌≡◌, ℕ, zero, suc, ◌+◌, ◌<◌, ◌≤◌, Bool, true, false, ◌&&◌, List, [], ◌∷◌, ◌++◌, map, length, get_or, Option, Some, None, Ordering, Less, Equal, Greater, refl, sym, ap, subst, ◌∙◌, ◌⊎◌, inl, inr, ⊎_elim, arith}
use Rattle.std.specs.Prelude.{is_some, slice_index_or}
use Rattle.std.specs.Option.{unwrap_or}
use Rattle.std.specs.Ordering.{nat_cmp, ordering_then}
use Rattle.std.specs.Cmp.{nat_cmp_is}
use Rattle.std.proofs.lemmas.List.{get_or-map, length-map}
use Rattle.mq_ir.specs.BaseRows.{Places, rows_at}
use Rattle.mq_ir.specs.Keys.{Tuple}
use Rattle.mq_join.specs.Chosen.{choosing}
use Rattle.mq_delta_base.specs.Sets.{In, cmp_places}
use Rattle.mq_delta_base.specs.Moves.{AllFollow, Follows, has_place, moved_to, place_in, place_of, stays_whole, through}
use Rattle.mq_delta_base.specs.Verdicts.{Within}
use Rattle.mq_delta_base.proofs.TakenLemmas.{tri}
use Rattle.mq_delta_base.proofs.TupleLemmas.{less_first, less_rest}

-- ---- order
less_is : (p q : ℕ) (ps qs : Places) → cmp_places (p ∷ ps) (q ∷ qs) ≡ Less → (p < q) ⊎ ((p ≡ q) × (cmp_places ps qs ≡ Less))
less_is p q ps qs l = ⊎_elim (λ k. inl k) (λ r. ⊎_elim equal greater r) (tri p q)
  where
    equal : p ≡ q → (p < q) ⊎ ((p ≡ q) × (cmp_places ps qs ≡ Less))
    equal e = inr (e, ap (λ o. ordering_then o (cmp_places ps qs)) (nat_cmp_is p q Equal e) ∙ l)

    greater : q < p → (p < q) ⊎ ((p ≡ q) × (cmp_places ps qs ≡ Less))
    greater k = let g : Greater ≡ Less = ap (λ o. ordering_then o (cmp_places ps qs)) (nat_cmp_is p q Greater k) ∙ l in absurd (cc)

and_first : (a b : Bool) → (a && b) ≡ true → a ≡ true
and_first true b e = refl
and_first false b e = e

and_second : (a b : Bool) → (a && b) ≡ true → b ≡ true
and_second true b e = e
and_second false b e = absurd (cc)

there : (o : Option ℕ) → is_some o ≡ true → o ≡ Some (unwrap_or o 0)
there None e = absurd (cc)
there (Some p) e = refl

module _ (moved : List (Option ℕ)) (touched : List ℕ) where
  -- ---- a tuple that stays whole is the same tuple at its new places
  Same : List Bool → List (List Tuple) → List (List Tuple) → Places → Type 0
  Same changed olds news o = Within (map length news) (moved_to moved changed o) × (rows_at news (moved_to moved changed o) ≡ rows_at olds o)

  pub stays_same : (changed : List Bool) (olds news : List (List Tuple)) (o : Places) → AllFollow moved touched changed olds news → Within (map length olds) o
      → stays_whole moved changed o ≡ true → Within (map length news) (moved_to moved changed o) × (rows_at news (moved_to moved changed o) ≡ rows_at olds o)
  stays_same [] [] [] [] f w s = (tt, refl)
  stays_same [] [] [] (p ∷ o) f w s = elim w [ ]
  stays_same [] [] (new ∷ news) o f w s = elim f [ ]
  stays_same [] (old ∷ olds) news o f w s = elim f [ ]
  stays_same (c ∷ changed) [] news o f w s = elim f [ ]
  stays_same (c ∷ changed) (old ∷ olds) [] o f w s = elim f [ ]
  stays_same (c ∷ changed) (old ∷ olds) (new ∷ news) [] f w s = elim w [ ]
  stays_same (true ∷ changed) (old ∷ olds) (new ∷ news) (p ∷ o) f w s =
      let r = stays_same changed olds news o f.1 w.1 (and_second (has_place moved (true, p)) (stays_whole moved changed o) s) in
      let h = f.0.stays p (place_of moved (true, p)) (there (slice_index_or moved p None) (and_first (has_place moved (true, p)) (stays_whole moved changed o) s)) in
      ((h.1, r.0), λ i. h.2 i ∷ r.1 i)
  stays_same (false ∷ changed) (old ∷ olds) (new ∷ news) (p ∷ o) f w s =
      let r = stays_same changed olds news o f.1 w.1 s in
      ((subst (λ (rows : List Tuple). p < length rows) (sym f.0) w.0, r.0), λ i. slice_index_or (f.0 i) p [] ∷ r.1 i)

  -- ---- a tuple over the new rows has a touched row, or is an old one
  abbrev pub Touches : List Bool → Places → Type 0
  Touches changed t = (k : ℕ) × (slice_index_or changed k false ≡ true) × In (slice_index_or t k 0) touched

  abbrev pub Stood : List Bool → List (List Tuple) → Places → Type 0
  Stood changed olds t = (o : Places) × (Within (map length olds) o) × (stays_whole moved changed o ≡ true) × (moved_to moved changed o ≡ t)

  later : (c : Bool) (changed : List Bool) (p : ℕ) (t : Places) → Touches changed t → Touches (c ∷ changed) (p ∷ t)
  later c changed p t h = (suc h.0, h.1, h.2)

  pub comes_from : (changed : List Bool) (olds news : List (List Tuple)) (t : Places) → AllFollow moved touched changed olds news → Within (map length news) t
      → Touches changed t ⊎ Stood changed olds t
  comes_from [] [] [] [] f w = inr ([], tt, refl, refl)
  comes_from [] [] [] (p ∷ t) f w = elim w [ ]
  comes_from [] [] (new ∷ news) t f w = elim f [ ]
  comes_from [] (old ∷ olds) news t f w = elim f [ ]
  comes_from (c ∷ changed) [] news t f w = elim f [ ]
  comes_from (c ∷ changed) (old ∷ olds) [] t f w = elim f [ ]
  comes_from (c ∷ changed) (old ∷ olds) (new ∷ news) [] f w = elim w [ ]
  comes_from (true ∷ changed) (old ∷ olds) (new ∷ news) (p ∷ t) f w = by (f.0.comes p w.0) (comes_from changed olds news t f.1 w.1)
    where
      by : In p touched ⊎ ((place : ℕ) × (slice_index_or moved place None ≡ Some p)) → Touches changed t ⊎ Stood changed olds t
          → Touches (true ∷ changed) (p ∷ t) ⊎ Stood (true ∷ changed) (old ∷ olds) (p ∷ t)
      by (inl i) r = inl (zero, refl, i)
      by (inr h) (inl r) = inl (later true changed p t r)
      by (inr h) (inr r) =
          inr (h.0 ∷ r.0, ((f.0.stays h.0 p h.1).0, r.1), ap (λ o. is_some o && stays_whole moved changed r.0) h.1 ∙ r.2, λ i. unwrap_or (h.1 i) 0 ∷ r.3 i)
  comes_from (false ∷ changed) (old ∷ olds) (new ∷ news) (p ∷ t) f w = by (comes_from changed olds news t f.1 w.1)
    where
      by : Touches changed t ⊎ Stood changed olds t → Touches (false ∷ changed) (p ∷ t) ⊎ Stood (false ∷ changed) (old ∷ olds) (p ∷ t)
      by (inl r) = inl (later false changed p t r)
      by (inr r) = inr (p ∷ r.0, (subst (λ (rows : List Tuple). p < length rows) f.0 w.0, r.1), r.2, λ i. p ∷ r.3 i)

  -- ---- tuples that stay whole stay in their order
  pub stay_in_order : (changed : List Bool) (olds news : List (List Tuple)) (o u : Places) → AllFollow moved touched changed olds news
      → Within (map length olds) o → Within (map length olds) u → stays_whole moved changed o ≡ true → stays_whole moved changed u ≡ true
      → cmp_places o u ≡ Less → cmp_places (moved_to moved changed o) (moved_to moved changed u) ≡ Less
  stay_in_order [] [] [] [] [] f w x s t l = absurd (cc)
  stay_in_order [] [] [] [] (q ∷ u) f w x s t l = elim x [ ]
  stay_in_order [] [] [] (p ∷ o) u f w x s t l = elim w [ ]
  stay_in_order [] [] (new ∷ news) o u f w x s t l = elim f [ ]
  stay_in_order [] (old ∷ olds) news o u f w x s t l = elim f [ ]
  stay_in_order (c ∷ changed) [] news o u f w x s t l = elim f [ ]
  stay_in_order (c ∷ changed) (old ∷ olds) [] o u f w x s t l = elim f [ ]
  stay_in_order (c ∷ changed) (old ∷ olds) (new ∷ news) [] u f w x s t l = elim w [ ]
  stay_in_order (c ∷ changed) (old ∷ olds) (new ∷ news) (p ∷ o) [] f w x s t l = elim x [ ]
  stay_in_order (true ∷ changed) (old ∷ olds) (new ∷ news) (p ∷ o) (q ∷ u) f w x s t l =
      by (stay_in_order changed olds news o u f.1 w.1 x.1 (and_second (has_place moved (true, p)) (stays_whole moved changed o) s) (and_second (has_place moved (true, q)) (stays_whole moved changed u) t))
      (less_is p q o u l)
    where
      a : slice_index_or moved p None ≡ Some (place_of moved (true, p))
      a = there (slice_index_or moved p None) (and_first (has_place moved (true, p)) (stays_whole moved changed o) s)

      b : slice_index_or moved q None ≡ Some (place_of moved (true, q))
      b = there (slice_index_or moved q None) (and_first (has_place moved (true, q)) (stays_whole moved changed u) t)

      by : (cmp_places o u ≡ Less → cmp_places (moved_to moved changed o) (moved_to moved changed u) ≡ Less) → (p < q) ⊎ ((p ≡ q) × (cmp_places o u ≡ Less))
          → cmp_places (place_of moved (true, p) ∷ moved_to moved changed o) (place_of moved (true, q) ∷ moved_to moved changed u) ≡ Less
      by r (inl k) = less_first (place_of moved (true, p)) (place_of moved (true, q)) (moved_to moved changed o) (moved_to moved changed u) (f.0.rises p q (place_of moved (true, p)) (place_of moved (true, q)) k a b)
      by r (inr k) =
          subst (λ z. cmp_places (place_of moved (true, p) ∷ moved_to moved changed o) (place_of moved (true, z) ∷ moved_to moved changed u) ≡ Less) k.0
          (less_rest (place_of moved (true, p)) (moved_to moved changed o) (moved_to moved changed u) (r k.1))
  stay_in_order (false ∷ changed) (old ∷ olds) (new ∷ news) (p ∷ o) (q ∷ u) f w x s t l = by (stay_in_order changed olds news o u f.1 w.1 x.1 s t) (less_is p q o u l)
    where
      by : (cmp_places o u ≡ Less → cmp_places (moved_to moved changed o) (moved_to moved changed u) ≡ Less) → (p < q) ⊎ ((p ≡ q) × (cmp_places o u ≡ Less))
          → cmp_places (p ∷ moved_to moved changed o) (q ∷ moved_to moved changed u) ≡ Less
      by r (inl k) = less_first p q (moved_to moved changed o) (moved_to moved changed u) k
      by r (inr k) = subst (λ z. cmp_places (p ∷ moved_to moved changed o) (z ∷ moved_to moved changed u) ≡ Less) k.0 (less_rest p (moved_to moved changed o) (moved_to moved changed u) (r k.1))

  -- ---- a FROM item that is changed
  pub changed_item : (changed : List Bool) (olds news : List (List Tuple)) (k : ℕ) → AllFollow moved touched changed olds news → slice_index_or changed k false ≡ true
      → (k < length changed) × (k < length news) × Follows moved touched (slice_index_or olds k []) (slice_index_or news k [])
  changed_item [] olds news k f e = absurd (cc)
  changed_item (c ∷ changed) [] news k f e = elim f [ ]
  changed_item (c ∷ changed) (old ∷ olds) [] k f e = elim f [ ]
  changed_item (true ∷ changed) (old ∷ olds) (new ∷ news) zero f e = (omega arith, omega arith, f.0)
  changed_item (false ∷ changed) (old ∷ olds) (new ∷ news) zero f e = absurd (cc)
  changed_item (true ∷ changed) (old ∷ olds) (new ∷ news) (suc k) f e = let r = changed_item changed olds news k f.1 e in (omega (arith, r.0), omega (arith, r.1), r.2)
  changed_item (false ∷ changed) (old ∷ olds) (new ∷ news) (suc k) f e = let r = changed_item changed olds news k f.1 e in (omega (arith, r.0), omega (arith, r.1), r.2)

-- ---- some rows of one FROM item
pub place_there : (ps : List ℕ) (i : ℕ) → i < length ps → In (slice_index_or ps i 0) ps
place_there [] i h = absurd (omega (arith, h))
place_there (p ∷ ps) zero h = inl refl
place_there (p ∷ ps) (suc i) h = inr (place_there ps i (omega (arith, h)))

place_found : (p : ℕ) (ps : List ℕ) → In p ps → (i : ℕ) × (i < length ps) × (slice_index_or ps i 0 ≡ p)
place_found p [] h = elim h [ ]
place_found p (q ∷ ps) (inl e) = (zero, omega arith, sym e)
place_found p (q ∷ ps) (inr h) = let r = place_found p ps h in (suc r.0, omega (arith, r.1), r.2)

module _ (ps : List ℕ) where
  pub chosen_same : (k : ℕ) (items : List (List Tuple)) (t : Places) → k < length items → ((p : ℕ) → In p ps → p < length (slice_index_or items k []))
      → Within (map length (choosing k ps items)) t
      → Within (map length items) (through k ps t) × (rows_at items (through k ps t) ≡ rows_at (choosing k ps items) t) × In (slice_index_or (through k ps t) k 0) ps
  chosen_same k [] t h b w = absurd (omega (arith, h))
  chosen_same zero (rows ∷ items) [] h b w = elim w [ ]
  chosen_same zero (rows ∷ items) (i ∷ t) h b w =
      let l : i < length ps = omega (arith, w.0, length-map ps (λ place. slice_index_or rows place [])) in
      let m = place_there ps i l in
      ((b (slice_index_or ps i 0) m, w.1), (λ j. sym (get_or-map (λ place. slice_index_or rows place []) ps i 0 [] l) j ∷ rows_at items t), m)
  chosen_same (suc k) (rows ∷ items) [] h b w = elim w [ ]
  chosen_same (suc k) (rows ∷ items) (i ∷ t) h b w =
      let r = chosen_same k items t (omega (arith, h)) b w.1 in ((w.0, r.0), (λ j. slice_index_or rows i [] ∷ r.1 j), r.2)

  pub chosen_found : (k : ℕ) (items : List (List Tuple)) (t : Places) → k < length items → Within (map length items) t → In (slice_index_or t k 0) ps
      → (i : Places) × (Within (map length (choosing k ps items)) i) × (through k ps i ≡ t)
  chosen_found k [] t h w m = absurd (omega (arith, h))
  chosen_found zero (rows ∷ items) [] h w m = elim w [ ]
  chosen_found zero (rows ∷ items) (p ∷ t) h w m =
      let r = place_found p ps m in
      (r.0 ∷ t, (omega (arith, r.1, length-map ps (λ place. slice_index_or rows place [])), w.1), λ j. r.2 j ∷ t)
  chosen_found (suc k) (rows ∷ items) [] h w m = elim w [ ]
  chosen_found (suc k) (rows ∷ items) (p ∷ t) h w m = let r = chosen_found k items t (omega (arith, h)) w.1 m in (p ∷ r.0, (w.0, r.1), λ j. p ∷ r.2 j)

  pub chosen_in_order : ((i j : ℕ) → i < j → j < length ps → slice_index_or ps i 0 < slice_index_or ps j 0)
      → (k : ℕ) (items : List (List Tuple)) (t u : Places) → k < length items → Within (map length (choosing k ps items)) t → Within (map length (choosing k ps items)) u
      → cmp_places t u ≡ Less → cmp_places (through k ps t) (through k ps u) ≡ Less
  chosen_in_order a k [] t u h w x l = absurd (omega (arith, h))
  chosen_in_order a zero (rows ∷ items) [] u h w x l = elim w [ ]
  chosen_in_order a zero (rows ∷ items) (i ∷ t) [] h w x l = elim x [ ]
  chosen_in_order a zero (rows ∷ items) (i ∷ t) (j ∷ u) h w x l = by (less_is i j t u l)
    where
      by : (i < j) ⊎ ((i ≡ j) × (cmp_places t u ≡ Less)) → cmp_places (slice_index_or ps i 0 ∷ t) (slice_index_or ps j 0 ∷ u) ≡ Less
      by (inl k) = less_first (slice_index_or ps i 0) (slice_index_or ps j 0) t u (a i j k (omega (arith, x.0, length-map ps (λ place. slice_index_or rows place []))))
      by (inr k) = subst (λ z. cmp_places (slice_index_or ps i 0 ∷ t) (slice_index_or ps z 0 ∷ u) ≡ Less) k.0 (less_rest (slice_index_or ps i 0) t u k.1)
  chosen_in_order a (suc k) (rows ∷ items) [] u h w x l = elim w [ ]
  chosen_in_order a (suc k) (rows ∷ items) (i ∷ t) [] h w x l = elim x [ ]
  chosen_in_order a (suc k) (rows ∷ items) (i ∷ t) (j ∷ u) h w x l = by (chosen_in_order a k items t u (omega (arith, h)) w.1 x.1) (less_is i j t u l)
    where
      by : (cmp_places t u ≡ Less → cmp_places (through k ps t) (through k ps u) ≡ Less) → (i < j) ⊎ ((i ≡ j) × (cmp_places t u ≡ Less)) → cmp_places (i ∷ through k ps t) (j ∷ through k ps u) ≡ Less
      by r (inl m) = less_first i j (through k ps t) (through k ps u) m
      by r (inr m) = subst (λ z. cmp_places (i ∷ through k ps t) (z ∷ through k ps u) ≡ Less) m.0 (less_rest i (through k ps t) (through k ps u) (r m.1))
