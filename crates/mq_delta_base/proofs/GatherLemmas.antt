-- The tuples that stay whole, and the tuples with a touched row, are all that is kept.
use Rattle.std.proofs.Common.{◌≡◌, ℕ, zero, suc, ◌+◌, ◌<◌, ◌≤◌, Bool, true, false, List, [], ◌∷◌, ◌++◌, map, length, Option, Some, None, Result, Ok, Err, Ordering, Less, refl, sym, ap, subst, ◌∙◌, ◌⊎◌, inl, inr, ⊎_elim, arith}
use Rattle.std.specs.Prelude.{slice_index_or}
use Rattle.std.specs.List.{filter}
use Rattle.std.specs.List.Sorted.{IsStrictlySortedBy}
use Rattle.std.proofs.lemmas.List.Kept.{IsStrictlySortedBy-filter}
use Rattle.mq_values.specs.declared.faults.FaultKind.{FaultKind}
use Rattle.mq_values.specs.declared.limits.TheConstants.{MAX_BASE_ROWS}
use Rattle.mq_ir.specs.declared.query.FromPart.{FromPart}
use Rattle.mq_ir.specs.BaseRows.{Places, all_places, all_true, conditions_of, kept_places, row_leaves, rows_at}
use Rattle.mq_ir.specs.Keys.{Tuple}
use Rattle.mq_ir.specs.Placed.{kind_of}
use Rattle.mq_ir.specs.Results.{marked}
use Rattle.mq_delta_base.specs.Gathered.{Gathered, KeptBefore, TouchedAt}
use Rattle.mq_delta_base.specs.Moves.{AllFollow, moved_to, stays_whole, survivors, through}
use Rattle.mq_join.specs.Chosen.{choosing}
use Rattle.mq_delta_base.specs.Sets.{In, cmp_places, union}
use Rattle.mq_delta_base.specs.Verdicts.{IsCalm, Within, is_yes, limited, verdict}
use Rattle.mq_delta_base.proofs.MoveLemmas.{changed_item, chosen_found, chosen_in_order, chosen_same, comes_from, stay_in_order, stays_same, Stood, Touches}
use Rattle.mq_delta_base.proofs.SetLemmas.{filter_in, in_filter, in_map, in_union, map_in, one_set, strict_map, strict_union, union_in}
use Rattle.mq_delta_base.proofs.TakenLemmas.{tri, walk_is, walked}
use Rattle.mq_delta_base.proofs.TupleLemmas.{all_in, in_all, strict_all}

-- ---- what is kept over all tuples
module _ (from : FromPart) (items : List (List Tuple)) (kept : List Places) (k : kept_places from items ≡ Ok kept) where
  abbrev counts : List ℕ
  counts = map length items

  walk : (kept ≡ filter (λ t. is_yes (verdict from items t)) (all_places counts)) × ((t : Places) → In t (all_places counts) → IsCalm (verdict from items t)) × (length kept ≤ MAX_BASE_ROWS)
  walk = walked from items (all_places counts) [] kept (omega arith) k

  pub kept_ascends : IsStrictlySortedBy cmp_places kept
  kept_ascends = subst (IsStrictlySortedBy cmp_places) (sym walk.0) (IsStrictlySortedBy-filter cmp_places (λ t. is_yes (verdict from items t)) (all_places counts) (strict_all counts))

  pub kept_sound : (t : Places) → In t kept → Within counts t × (is_yes (verdict from items t) ≡ true)
  kept_sound t i =
      let r = in_filter (λ t. is_yes (verdict from items t)) t (all_places counts) (subst (In t) walk.0 i) in
      (in_all counts t r.1, r.0)

  pub kept_found : (t : Places) → Within counts t → is_yes (verdict from items t) ≡ true → In t kept
  kept_found t w y = subst (In t) (sym walk.0) (filter_in (λ t. is_yes (verdict from items t)) t (all_places counts) y (all_in counts t w))

  pub kept_calm : (t : Places) → Within counts t → IsCalm (verdict from items t)
  kept_calm t w = walk.1 t (all_in counts t w)

abbrev by_rows : FromPart → List Tuple → Result Bool FaultKind
by_rows from rows = marked kind_of (all_true (row_leaves rows) (conditions_of from))

same_verdict : (from : FromPart) (a b : List Tuple) → a ≡ b → is_yes (by_rows from a) ≡ true → is_yes (by_rows from b) ≡ true
same_verdict from a b e y = subst (λ rows. is_yes (by_rows from rows) ≡ true) e y

same_calm : (from : FromPart) (a b : List Tuple) → a ≡ b → IsCalm (by_rows from a) → IsCalm (by_rows from b)
same_calm from a b e c = subst (λ rows. IsCalm (by_rows from rows)) e c

module _ (from : FromPart) (changed : List Bool) (moved : List (Option ℕ)) (touched : List ℕ) (old : List Places) (news : List (List Tuple)) (before : KeptBefore from changed moved touched old news) where
  -- ---- the tuples that stay whole
  whole : (t : Places) → In t (survivors moved changed old) → (o : Places) × (In o old) × (stays_whole moved changed o ≡ true) × (t ≡ moved_to moved changed o)
  whole t i =
      let r = map_in (moved_to moved changed) t (filter (stays_whole moved changed) old) i in
      let s = in_filter (stays_whole moved changed) r.0 old r.1 in
      (r.0, s.1, s.0, r.2)

  survivors_sound : (t : Places) → In t (survivors moved changed old) → Within (map length news) t × (is_yes (verdict from news t) ≡ true)
  survivors_sound t i =
      let r = whole t i in
      let s = kept_sound from before.olds old before.kept r.0 r.1 in
      let m = stays_same moved touched changed before.olds news r.0 before.follow s.0 r.2 in (
        subst (Within (map length news)) (sym r.3) m.0,
        subst (λ u. is_yes (verdict from news u) ≡ true) (sym r.3) (same_verdict from (rows_at before.olds r.0) (rows_at news (moved_to moved changed r.0)) (sym m.1) s.1),
      )

  survivors_ascend : IsStrictlySortedBy cmp_places (survivors moved changed old)
  survivors_ascend =
      strict_map (moved_to moved changed) (filter (stays_whole moved changed) old) order
      (IsStrictlySortedBy-filter cmp_places (stays_whole moved changed) old (kept_ascends from before.olds old before.kept))
    where
      order : (x y : Places) → In x (filter (stays_whole moved changed) old) → In y (filter (stays_whole moved changed) old) → cmp_places x y ≡ Less
          → cmp_places (moved_to moved changed x) (moved_to moved changed y) ≡ Less
      order x y i j l =
          let a = in_filter (stays_whole moved changed) x old i in
          let b = in_filter (stays_whole moved changed) y old j in
          stay_in_order moved touched changed before.olds news x y before.follow (kept_sound from before.olds old before.kept x a.1).0 (kept_sound from before.olds old before.kept y b.1).0 a.0 b.0 l

  pub gathered_first : Gathered from changed moved touched old news 0 (survivors moved changed old)
  gathered_first = record {
    ascends = survivors_ascend;
    sound = survivors_sound;
    stays = λ t i. i;
    found = λ k t l h y. absurd (omega (arith, l));
    calm = λ k t l h. absurd (omega (arith, l));
  }

  -- ---- a FROM item that is not changed
  pub next_same : (n : ℕ) (out : List Places) → Gathered from changed moved touched old news n out → slice_index_or changed n false ≡ false → Gathered from changed moved touched old news (n + 1) out
  next_same n out g e = record {
    ascends = g.ascends;
    sound = g.sound;
    stays = g.stays;
    found = λ k t l h y. ⊎_elim (λ m. g.found k t m h y) (λ r. absurd (other k t l h r)) (tri k n);
    calm = λ k t l h. ⊎_elim (λ m. g.calm k t m h) (λ r. absurd (other k t l h r)) (tri k n);
  }
    where
      other : (k : ℕ) (t : Places) → k < n + 1 → TouchedAt changed touched news k t → (k ≡ n) ⊎ (n < k) → ⊥
      other k t l h (inl p) = let c : true ≡ false = sym h.0 ∙ ap (λ z. slice_index_or changed z false) p ∙ e in cc
      other k t l h (inr m) = omega (arith, l, m)

  -- ---- a FROM item that is changed: the tuples with a touched row of it
  module _ (n : ℕ) (e : slice_index_or changed n false ≡ true) (kept : List Places) (k : kept_places from (choosing n touched news) ≡ Ok kept) where
    abbrev block : List Places
    block = map (through n touched) kept

    item : (n < length news) × ((p : ℕ) → In p touched → p < length (slice_index_or news n [])) × ((i j : ℕ) → i < j → j < length touched → slice_index_or touched i 0 < slice_index_or touched j 0)
    item = let r = changed_item moved touched changed before.olds news n before.follow e in (r.1, r.2.within, r.2.ascends)

    block_sound : (t : Places) → In t block → Within (map length news) t × (is_yes (verdict from news t) ≡ true)
    block_sound t i =
        let r = map_in (through n touched) t kept i in
        let s = kept_sound from (choosing n touched news) kept k r.0 r.1 in
        let m = chosen_same touched n news r.0 item.0 item.1 s.0 in (
          subst (Within (map length news)) (sym r.2) m.0,
          subst (λ u. is_yes (verdict from news u) ≡ true) (sym r.2) (same_verdict from (rows_at (choosing n touched news) r.0) (rows_at news (through n touched r.0)) (sym m.1) s.1),
        )

    block_ascends : IsStrictlySortedBy cmp_places block
    block_ascends = strict_map (through n touched) kept order (kept_ascends from (choosing n touched news) kept k)
      where
        order : (x y : Places) → In x kept → In y kept → cmp_places x y ≡ Less → cmp_places (through n touched x) (through n touched y) ≡ Less
        order x y i j l =
            chosen_in_order touched item.2 n news x y item.0 (kept_sound from (choosing n touched news) kept k x i).0 (kept_sound from (choosing n touched news) kept k y j).0 l

    -- the tuple over the chosen rows
    chosen : (t : Places) → TouchedAt changed touched news n t
        → (i : Places) × (Within (map length (choosing n touched news)) i) × (through n touched i ≡ t) × (rows_at news t ≡ rows_at (choosing n touched news) i)
    chosen t h =
        let r = chosen_found touched n news t item.0 h.1 h.2 in
        let m = chosen_same touched n news r.0 item.0 item.1 r.1 in
        (r.0, r.1, r.2, ap (rows_at news) (sym r.2) ∙ m.1)

    block_found : (t : Places) → TouchedAt changed touched news n t → is_yes (verdict from news t) ≡ true → In t block
    block_found t h y =
        let r = chosen t h in
        subst (λ z. In z block) r.2 (in_map (through n touched) r.0 kept (kept_found from (choosing n touched news) kept k r.0 r.1 (same_verdict from (rows_at news t) (rows_at (choosing n touched news) r.0) r.3 y)))

    block_calm : (t : Places) → TouchedAt changed touched news n t → IsCalm (verdict from news t)
    block_calm t h =
        let r = chosen t h in
        same_calm from (rows_at (choosing n touched news) r.0) (rows_at news t) (sym r.3) (kept_calm from (choosing n touched news) kept k r.0 r.1)

    pub next_changed : (out : List Places) → Gathered from changed moved touched old news n out → Gathered from changed moved touched old news (n + 1) (union out block)
    next_changed out g = record {
      ascends = strict_union out block g.ascends block_ascends;
      sound = λ t i. ⊎_elim (g.sound t) (block_sound t) (in_union t out block i);
      stays = λ t i. union_in t out block (inl (g.stays t i));
      found = λ i t l h y. ⊎_elim (λ m. union_in t out block (inl (g.found i t m h y))) (λ r. union_in t out block (inr (block_found t (here i t l h r) y))) (tri i n);
      calm = λ i t l h. ⊎_elim (λ m. g.calm i t m h) (λ r. block_calm t (here i t l h r)) (tri i n);
    }
      where
        here : (i : ℕ) (t : Places) → i < n + 1 → TouchedAt changed touched news i t → (i ≡ n) ⊎ (n < i) → TouchedAt changed touched news n t
        here i t l h (inl p) = subst (λ z. TouchedAt changed touched news z t) p h
        here i t l h (inr m) = absurd (omega (arith, l, m))

  -- ---- once all FROM items are done
  module _ (n : ℕ) (all : length changed ≤ n) (out : List Places) (g : Gathered from changed moved touched old news n out) where
    judged : (t : Places) → Within (map length news) t → Touches moved touched changed t → (k : ℕ) × (k < n) × TouchedAt changed touched news k t
    judged t w h =
        let r = changed_item moved touched changed before.olds news h.0 before.follow h.1 in
        (h.0, omega (arith, all, r.0), (h.1, w, h.2))

    stood_calm : (t : Places) → Stood moved touched changed before.olds t → IsCalm (verdict from news t)
    stood_calm t s =
        let m = stays_same moved touched changed before.olds news s.0 before.follow s.1 s.2 in
        subst (λ u. IsCalm (verdict from news u)) s.3 (same_calm from (rows_at before.olds s.0) (rows_at news (moved_to moved changed s.0)) (sym m.1) (kept_calm from before.olds old before.kept s.0 s.1))

    all_calm : (t : Places) → In t (all_places (map length news)) → IsCalm (verdict from news t)
    all_calm t i = ⊎_elim (λ h. let r = judged t (in_all (map length news) t i) h in g.calm r.0 t r.1 r.2) (stood_calm t) (comes_from moved touched changed before.olds news t before.follow (in_all (map length news) t i))

    stood_found : (t : Places) → is_yes (verdict from news t) ≡ true → Stood moved touched changed before.olds t → In t out
    stood_found t y s =
        let m = stays_same moved touched changed before.olds news s.0 before.follow s.1 s.2 in
        let v = same_verdict from (rows_at news (moved_to moved changed s.0)) (rows_at before.olds s.0) m.1 (subst (λ u. is_yes (verdict from news u) ≡ true) (sym s.3) y) in
        let o = kept_found from before.olds old before.kept s.0 s.1 v in
        g.stays t (subst (λ u. In u (survivors moved changed old)) s.3 (in_map (moved_to moved changed) s.0 (filter (stays_whole moved changed) old) (filter_in (stays_whole moved changed) s.0 old s.2 o)))

    abbrev taken : Places → Bool
    taken t = is_yes (verdict from news t)

    all_found : (t : Places) → In t (filter taken (all_places (map length news))) → In t out
    all_found t i =
        let r = in_filter taken t (all_places (map length news)) i in
        let w = in_all (map length news) t r.1 in
        ⊎_elim (λ h. let k = judged t w h in g.found k.0 t k.1 k.2 r.0) (stood_found t r.0) (comes_from moved touched changed before.olds news t before.follow w)

    all_sound : (t : Places) → In t out → In t (filter taken (all_places (map length news)))
    all_sound t i = let s = g.sound t i in filter_in taken t (all_places (map length news)) s.1 (all_in (map length news) t s.0)

    pub gathered_all : kept_places from news ≡ limited out
    gathered_all =
        walk_is from news (all_places (map length news)) [] (omega arith) all_calm
        ∙ ap limited (one_set (filter taken (all_places (map length news))) out (IsStrictlySortedBy-filter cmp_places taken (all_places (map length news)) (strict_all (map length news))) g.ascends all_found all_sound)
