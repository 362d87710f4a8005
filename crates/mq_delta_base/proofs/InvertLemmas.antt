-- Old places of new rows, noted row by row.
use Rattle.std.proofs.Common.{◌≡◌, ℕ, zero, suc, ◌+◌, ◌<◌, ◌≤◌, List, [], ◌∷◌, ◌++◌, length, Option, Some, None, refl, sym, ap, subst, ◌∙◌, ◌⊎◌, inl, inr, ⊎_elim, length-append, arith}
use Rattle.std.specs.Prelude.{slice_get, slice_index_or}
use Rattle.std.specs.List.{AllZip}
use Rattle.mq_ir.specs.Keys.{Tuple}
use Rattle.mq_tables.specs.Staging.{StoodAt}
use Rattle.mq_delta_base.specs.Inverts.{Inverts, Notes, Pads, Puts}
use Rattle.mq_delta_base.specs.Moves.{Follows}
use Rattle.mq_delta_base.specs.Sets.{In}
use Rattle.mq_delta_base.proofs.MoveLemmas.{place_there}
use Rattle.mq_delta_base.proofs.SetLemmas.{in_either, in_first, in_second}
use Rattle.mq_delta_base.proofs.TakenLemmas.{tri}

-- ---- a list that grows at its end
module _ {A : Type 0} (d : A) where
  pub index_old : (xs : List A) (x : A) (i : ℕ) → i < length xs → slice_index_or (xs ++ x ∷ []) i d ≡ slice_index_or xs i d
  index_old [] x i h = absurd (omega (arith, h))
  index_old (y ∷ xs) x zero h = refl
  index_old (y ∷ xs) x (suc i) h = index_old xs x i (omega (arith, h))

  pub index_new : (xs : List A) (x : A) (i : ℕ) → i ≡ length xs → slice_index_or (xs ++ x ∷ []) i d ≡ x
  index_new [] x zero h = refl
  index_new [] x (suc i) h = absurd (omega (arith, h))
  index_new (y ∷ xs) x zero h = absurd (omega (arith, h))
  index_new (y ∷ xs) x (suc i) h = index_new xs x i (omega (arith, h))

  pub index_past : (xs : List A) (i : ℕ) → length xs ≤ i → slice_index_or xs i d ≡ d
  index_past [] i h = refl
  index_past (y ∷ xs) zero h = absurd (omega (arith, h))
  index_past (y ∷ xs) (suc i) h = index_past xs i (omega (arith, h))

pub index_none : (xs : List (Option ℕ)) (i : ℕ) → slice_index_or (xs ++ None ∷ []) i None ≡ slice_index_or xs i None
index_none [] zero = refl
index_none [] (suc i) = refl
index_none (y ∷ xs) zero = refl
index_none (y ∷ xs) (suc i) = index_none xs i

some_within : (xs : List (Option ℕ)) (i p : ℕ) → slice_index_or xs i None ≡ Some p → i < length xs
some_within [] i p e = absurd (cc)
some_within (y ∷ xs) zero p e = omega arith
some_within (y ∷ xs) (suc i) p e = let r = some_within xs i p e in omega (arith, r)

-- a row that is put behind padding
pub puts : (old padded new : List (Option ℕ)) (from to : ℕ) → length old ≤ from → Pads old padded from → new ≡ padded ++ Some to ∷ [] → Puts old new from to
puts old padded new from to h p e =
    let long = p.long h in
    record {
      within = h;
      long = ap length e ∙ omega (arith, length-append padded (Some to ∷ []), long);
      there = ap (λ l. slice_index_or l from None) e ∙ index_new None padded (Some to) from (sym long);
      others = λ o n. ap (λ l. slice_index_or l o None) e ∙ other o n long ∙ p.same o;
    }
  where
    other : (o : ℕ) → (o ≡ from → ⊥) → length padded ≡ from → slice_index_or (padded ++ Some to ∷ []) o None ≡ slice_index_or padded o None
    other o n l =
        ⊎_elim (λ k. index_old None padded (Some to) o (omega (arith, k, l))) (λ r. ⊎_elim (λ k. absurd (n k)) (λ k. past k) r) (tri o from)
      where
        past : from < o → slice_index_or (padded ++ Some to ∷ []) o None ≡ slice_index_or padded o None
        past k = index_past None (padded ++ Some to ∷ []) o (omega (arith, k, l, length-append padded (Some to ∷ []))) ∙ sym (index_past None padded o (omega (arith, k, l)))

module _ (origins : List (Option ℕ)) where
  pub inverts_none : Inverts origins 0 [] []
  inverts_none = record {
    to_from = λ o p e. absurd (cc);
    from_to = λ o p l e. absurd (omega (arith, l));
    rises = λ a b to until l e f. absurd (cc);
    none = λ p i. elim i [ ];
    new = λ p l e. absurd (omega (arith, l));
    ascends = λ i j l h. absurd (omega (arith, h));
  }

  last : (p n : ℕ) → p < n + 1 → (p < n) ⊎ (p ≡ n)
  last p n l = ⊎_elim (λ k. inl k) (λ r. ⊎_elim (λ e. inr e) (λ k. absurd (omega (arith, l, k))) r) (tri p n)

  module _ (n : ℕ) (places : List (Option ℕ)) (touched : List ℕ) (i : Inverts origins n places touched) where
    pub notes_none : slice_index_or origins n None ≡ None → Inverts origins (n + 1) places (touched ++ n ∷ [])
    notes_none e = record {
      to_from = λ o p k. let r = i.to_from o p k in (omega (arith, r.0), r.1);
      from_to = λ o p l k. ⊎_elim (λ m. i.from_to o p m k) (λ m. absurd (differ o p m k)) (last p n l);
      rises = i.rises;
      none = λ p m. ⊎_elim (λ k. let r = i.none p k in (omega (arith, r.0), r.1)) (λ k. here p k) (in_either p touched (n ∷ []) m);
      new = λ p l k. ⊎_elim (λ m. in_first p touched (n ∷ []) (i.new p m k)) (λ m. in_second p touched (n ∷ []) (inl m)) (last p n l);
      ascends = λ a b l h. ascend a b l (last b (length touched) (omega (arith, h, length-append touched (n ∷ []))));
    }
      where
        differ : (o p : ℕ) → p ≡ n → slice_index_or origins p None ≡ Some o → ⊥
        differ o p m k = let c : None ≡ Some o = sym e ∙ ap (λ z. slice_index_or origins z None) (sym m) ∙ k in cc

        here : (p : ℕ) → (p ≡ n) ⊎ ⊥ → (p < n + 1) × (slice_index_or origins p None ≡ None)
        here p (inl k) = (omega (arith, k), ap (λ z. slice_index_or origins z None) k ∙ e)
        here p (inr k) = elim k [ ]

        ascend : (a b : ℕ) → a < b → (b < length touched) ⊎ (b ≡ length touched) → slice_index_or (touched ++ n ∷ []) a 0 < slice_index_or (touched ++ n ∷ []) b 0
        ascend a b l (inl m) = omega (arith, i.ascends a b l m, index_old 0 touched n a (omega (arith, l, m)), index_old 0 touched n b m)
        ascend a b l (inr m) =
            let h : a < length touched = omega (arith, l, m) in
            omega (arith, (i.none (slice_index_or touched a 0) (place_there touched a h)).0, index_old 0 touched n a h, index_new 0 touched n b m)

    pub notes_some : (from : ℕ) (noted : List (Option ℕ)) → slice_index_or origins n None ≡ Some from → Puts places noted from n → Inverts origins (n + 1) noted touched
    notes_some from noted e p = record {
      to_from = λ o q k. at_from o q k (apart o);
      from_to = λ o q l k. ⊎_elim (λ m. earlier o q m k) (λ m. newest o q m k) (last q n l);
      rises = λ a b to until l j k. rise a b to until l j k (apart a) (apart b);
      none = λ q m. let r = i.none q m in (omega (arith, r.0), r.1);
      new = λ q l k. ⊎_elim (λ m. i.new q m k) (λ m. absurd (differ q m k)) (last q n l);
      ascends = i.ascends;
    }
      where
        apart : (o : ℕ) → (o ≡ from) ⊎ (o ≡ from → ⊥)
        apart o = ⊎_elim (λ l. inr (λ k. omega (arith, l, k))) (λ r. ⊎_elim (λ k. inl k) (λ l. inr (λ k. omega (arith, l, k))) r) (tri o from)

        differ : (q : ℕ) → q ≡ n → slice_index_or origins q None ≡ None → ⊥
        differ q m k = let c : Some from ≡ None = sym e ∙ ap (λ z. slice_index_or origins z None) (sym m) ∙ k in cc

        at_from : (o q : ℕ) → slice_index_or noted o None ≡ Some q → (o ≡ from) ⊎ (o ≡ from → ⊥) → (q < n + 1) × (slice_index_or origins q None ≡ Some o)
        at_from o q k (inl m) =
            let s : Some q ≡ Some n = sym k ∙ ap (λ z. slice_index_or noted z None) m ∙ p.there in
            let t : q ≡ n = cc in
            (omega (arith, t), ap (λ z. slice_index_or origins z None) t ∙ e ∙ ap Some (sym m))
        at_from o q k (inr m) = let r = i.to_from o q (sym (p.others o m) ∙ k) in (omega (arith, r.0), r.1)

        earlier : (o q : ℕ) → q < n → slice_index_or origins q None ≡ Some o → slice_index_or noted o None ≡ Some q
        earlier o q m k =
            let old = i.from_to o q m k in
            let within = some_within places o q old in
            p.others o (λ z. omega (arith, z, within, p.within)) ∙ old

        newest : (o q : ℕ) → q ≡ n → slice_index_or origins q None ≡ Some o → slice_index_or noted o None ≡ Some q
        newest o q m k =
            let s : Some o ≡ Some from = sym k ∙ ap (λ z. slice_index_or origins z None) m ∙ e in
            let t : o ≡ from = cc in
            ap (λ z. slice_index_or noted z None) t ∙ p.there ∙ ap Some (sym m)

        rise : (a b to until : ℕ) → a < b → slice_index_or noted a None ≡ Some to → slice_index_or noted b None ≡ Some until → (a ≡ from) ⊎ (a ≡ from → ⊥) → (b ≡ from) ⊎ (b ≡ from → ⊥) → to < until
        rise a b to until l j k (inl x) y = let w = some_within noted b until k in absurd (omega (arith, l, x, w, p.long))
        rise a b to until l j k (inr x) (inl y) =
            let s : Some until ≡ Some n = sym k ∙ ap (λ z. slice_index_or noted z None) y ∙ p.there in
            let t : until ≡ n = cc in
            omega (arith, t, (i.to_from a to (sym (p.others a x) ∙ j)).0)
        rise a b to until l j k (inr x) (inr y) = i.rises a b to until l (sym (p.others a x) ∙ j) (sym (p.others b y) ∙ k)

  -- a row more
  pub noted_more : (n : ℕ) (places noted : List (Option ℕ)) (touched more : List ℕ) (origin : Option ℕ) → Inverts origins n places touched → origin ≡ slice_index_or origins n None
      → Notes origin n places noted touched more → Inverts origins (n + 1) noted more
  noted_more n places noted touched more None i e m =
      subst (λ l. Inverts origins (n + 1) l more) (sym m.0) (subst (Inverts origins (n + 1) places) (sym m.1) (notes_none n places touched i (sym e)))
  noted_more n places noted touched more (Some from) i e m = subst (Inverts origins (n + 1) noted) (sym m.1) (notes_some n places touched i from noted (sym e) m.0)

-- ---- staged rows follow those of the table
stood_at : (old : List Tuple) (rows : List Tuple) (origins : List (Option ℕ)) (p o : ℕ) → AllZip (StoodAt old) rows origins → p < length rows → slice_index_or origins p None ≡ Some o → slice_get old o ≡ Some (slice_index_or rows p [])
stood_at old [] origins p o a h e = absurd (omega (arith, h))
stood_at old (row ∷ rows) [] p o a h e = absurd (cc)
stood_at old (row ∷ rows) (None ∷ origins) zero o a h e = absurd (cc)
stood_at old (row ∷ rows) (Some place ∷ origins) zero o a h e = let s : place ≡ o = cc in subst (λ z. slice_get old z ≡ Some row) s a.0
stood_at old (row ∷ rows) (x ∷ origins) (suc p) o a h e = stood_at old rows origins p o a.1 (omega (arith, h)) e

got : (old : List Tuple) (o : ℕ) (row : Tuple) → slice_get old o ≡ Some row → (o < length old) × (row ≡ slice_index_or old o [])
got [] o row e = absurd (cc)
got (x ∷ old) zero row e = let s : x ≡ row = cc in (omega arith, sym s)
got (x ∷ old) (suc o) row e = let r = got old o row e in (omega (arith, r.0), r.1)

pub follows : (old rows : List Tuple) (origins places : List (Option ℕ)) (touched : List ℕ) → AllZip (StoodAt old) rows origins → Inverts origins (length rows) places touched → Follows places touched old rows
follows old rows origins places touched a i = record {
  stays = λ place to e. let r = i.to_from place to e in let g = got old place (slice_index_or rows to []) (stood_at old rows origins to place a r.0 r.1) in (g.0, r.0, g.1);
  rises = i.rises;
  comes = λ to h. by to h (slice_index_or origins to None) refl;
  within = λ to m. (i.none to m).0;
  ascends = i.ascends;
}
  where
    by : (to : ℕ) → to < length rows → (o : Option ℕ) → slice_index_or origins to None ≡ o → In to touched ⊎ ((place : ℕ) × (slice_index_or places place None ≡ Some to))
    by to h None e = inl (i.new to h e)
    by to h (Some o) e = inr (o, i.from_to o to h e)
