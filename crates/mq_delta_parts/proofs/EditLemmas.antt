-- The cells that edits leave: they ascend, and of each tuple there stands what the rows that went and came leave.
use Rattle.std.proofs.Common.{◌≡◌, ◌≤◌, Bool, true, false, ◌||◌, cond, List, [], ◌∷◌, ◌++◌, length, Option, Some, None, Ordering, Less, Equal, Greater, refl, sym, ap, subst, ◌∙◌, append_assoc, arith}
use Rattle.std.specs.Prelude.{if◌then◌else◌}
use Rattle.std.specs.List.{AllByRecursion, filter}
use Rattle.std.specs.List.Sorted.{IsStrictlySortedBy}
use Rattle.std.specs.Ordering.{is_eq, is_gt, is_lt, ordering_reverse}
use Rattle.std.proofs.lemmas.List.{append-nil}
use Rattle.std.proofs.lemmas.List.Elements.{filter-append}
use Rattle.std.proofs.lemmas.List.Kept.{IsStrictlySortedBy-filter}
use Rattle.mq_ir.specs.Partitions.{Cells}
use Rattle.mq_ir.specs.EachLaws.{each_append, each_kept}
use Rattle.mq_ir.specs.Keys.{Tuple, is_same}
use Rattle.mq_values.specs.Order.{cmp_key}
use Rattle.mq_values.specs.OrderTells.{key_itself, same_key}
use Rattle.mq_values.specs.OrderLaws.{key_total}
use Rattle.mq_ir.specs.Rising.{Low, Rising}
use Rattle.mq_ir.specs.SortLaws.{less_on}
use Rattle.mq_change_laws.specs.KeyLaws.{each_map}
use Rattle.mq_change_laws.specs.SoundLaws.{same_is}
use Rattle.mq_delta_parts.specs.Edits.{Ascends, Edit, above, amended, begins_with, below, by_tuple, has_cell, front_of, joined}
use Rattle.mq_delta_parts.proofs.ListLemmas.{all_passed, kept_all, kept_none, mapped_some, some_same}
use Rattle.mq_delta_parts.proofs.WovenLemmas.{left, left_none}

-- ---- tuples
less_is : (r : Ordering) → is_lt r ≡ true → r ≡ Less
less_is Less h = refl
less_is Equal h = cc
less_is Greater h = cc

greater_is : (r : Ordering) → is_gt r ≡ true → r ≡ Greater
greater_is Less h = cc
greater_is Equal h = cc
greater_is Greater h = refl

pub turned : (a b : Tuple) (r : Ordering) → cmp_key a b ≡ r → cmp_key b a ≡ ordering_reverse r
turned a b r h = key_total.antisymm b a ∙ ap ordering_reverse h

pub not_less : (a b : Tuple) → cmp_key a b ≡ Less → is_lt (cmp_key b a) ≡ false
not_less a b h = ap is_lt (turned a b Less h)

-- ---- the items of one tuple
module _ {A : Type 0} where
  abbrev pub at : Tuple → List (Tuple × A) → List (Tuple × A)
  at q xs = filter (λ x. is_same q x.0) xs

module _ (q t : Tuple) where
  below_tells : (z : Tuple × Tuple) → is_same q z.0 ≡ true → is_lt (cmp_key z.0 t) ≡ is_lt (cmp_key q t)
  below_tells z h = ap (λ u. is_lt (cmp_key u t)) (sym (same_is q z.0 h))

  above_tells : (z : Tuple × Tuple) → is_same q z.0 ≡ true → is_gt (cmp_key z.0 t) ≡ is_gt (cmp_key q t)
  above_tells z h = ap (λ u. is_gt (cmp_key u t)) (sym (same_is q z.0 h))

  at_below : (cells : Cells) → is_lt (cmp_key q t) ≡ true → at q (below t cells) ≡ at q cells
  at_below cells h = kept_all (λ cell. is_same q cell.0) (λ cell. is_lt (cmp_key cell.0 t)) (λ z e. below_tells z e ∙ h) cells

  none_below : (cells : Cells) → is_lt (cmp_key q t) ≡ false → at q (below t cells) ≡ []
  none_below cells h = kept_none (λ cell. is_same q cell.0) (λ cell. is_lt (cmp_key cell.0 t)) (λ z e. below_tells z e ∙ h) cells

  pub at_above : (cells : Cells) → is_gt (cmp_key q t) ≡ true → at q (above t cells) ≡ at q cells
  at_above cells h = kept_all (λ cell. is_same q cell.0) (λ cell. is_gt (cmp_key cell.0 t)) (λ z e. above_tells z e ∙ h) cells

  pub none_above : (cells : Cells) → is_gt (cmp_key q t) ≡ false → at q (above t cells) ≡ []
  none_above cells h = kept_none (λ cell. is_same q cell.0) (λ cell. is_gt (cmp_key cell.0 t)) (λ z e. above_tells z e ∙ h) cells

-- no cell stands there
no_cell : (t : Tuple) (cells : Cells) → has_cell cells t ≡ false → at t cells ≡ []
no_cell t [] h = refl
no_cell t (cell ∷ cells) h = by (is_same t cell.0) (has_cell cells t) h (no_cell t cells)
  where
    by : (a b : Bool) → (a || b) ≡ false → (b ≡ false → at t cells ≡ []) → cond a (cell ∷ at t cells) (at t cells) ≡ []
    by true b h f = cc
    by false b h f = f h

-- ---- the tuples of the rows that went, and the cells of those that came
abbrev pub goes : List Edit → List Tuple
goes [] = []
goes ((tuple, None) ∷ edits) = tuple ∷ goes edits
goes ((tuple, Some measures) ∷ edits) = goes edits

abbrev pub comes : List Edit → Cells
comes [] = []
comes ((tuple, None) ∷ edits) = comes edits
comes ((tuple, Some measures) ∷ edits) = (tuple, measures) ∷ comes edits

module _ (q t : Tuple) (m : Option Tuple) (less : cmp_key q t ≡ Less) where
  pub no_goes : (edits : List Edit) → Low by_tuple (t, m) edits → filter (is_same q) (goes edits) ≡ []
  no_goes [] l = refl
  no_goes ((u, None) ∷ edits) l =
      ap (λ r. cond (is_eq r) (u ∷ filter (is_same q) (goes edits)) (filter (is_same q) (goes edits))) (less_on key_total q t u less l.0) ∙ no_goes edits l.1
  no_goes ((u, Some n) ∷ edits) l = no_goes edits l.1

  pub no_comes : (edits : List Edit) → Low by_tuple (t, m) edits → at q (comes edits) ≡ []
  no_comes [] l = refl
  no_comes ((u, None) ∷ edits) l = no_comes edits l.1
  no_comes ((u, Some n) ∷ edits) l =
      ap (λ r. cond (is_eq r) ((u, n) ∷ at q (comes edits)) (at q (comes edits))) (less_on key_total q t u less l.0) ∙ no_comes edits l.1

-- ---- one edit
pub record Step (cells : Cells) (edit : Edit) (edits : List Edit) (new : Cells) : Type 0 where
  pub front : Cells
  pub rest : Cells
  pub front_is : front_of cells edit edits ≡ Some front
  pub rest_is : amended (above edit.0 cells) edits ≡ Some rest
  pub new_is : new ≡ front ++ rest

pub step_of : (cells : Cells) (edit : Edit) (edits : List Edit) (new : Cells) → amended cells (edit ∷ edits) ≡ Some new → Step cells edit edits new
step_of cells edit edits new e = by (front_of cells edit edits) refl e
  where
    by : (o : Option Cells) → front_of cells edit edits ≡ o → joined o (amended (above edit.0 cells) edits) ≡ Some new → Step cells edit edits new
    by None f e = absurd (cc)
    by (Some front) f e =
        let r = mapped_some (λ rest. front ++ rest) (amended (above edit.0 cells) edits) new e in
        record { front = front; rest = r.0; front_is = f; rest_is = r.1; new_is = r.2 }

-- what is known where a row is put
pub record Put (cells : Cells) (tuple measures : Tuple) (edits : List Edit) (front : Cells) : Type 0 where
  pub lacking : has_cell cells tuple ≡ false
  pub last : begins_with edits tuple ≡ false
  pub front_is : front ≡ below tuple cells ++ (tuple, measures) ∷ []

pub put_of : (cells : Cells) (tuple measures : Tuple) (edits : List Edit) (front : Cells) → front_of cells (tuple, Some measures) edits ≡ Some front → Put cells tuple measures edits front
put_of cells tuple measures edits front e = by (has_cell cells tuple) refl (begins_with edits tuple) refl e
  where
    whole : Cells
    whole = below tuple cells ++ (tuple, measures) ∷ []

    by : (a : Bool) → has_cell cells tuple ≡ a → (b : Bool) → begins_with edits tuple ≡ b → (if a || b then None else Some whole) ≡ Some front → Put cells tuple measures edits front
    by true f b g e = absurd (cc)
    by false f true g e = absurd (cc)
    by false f false g e = record { lacking = f; last = g; front_is = sym (some_same whole front e) }

-- ---- of each tuple there stands what is left of its cell, and then what came
module _ (q : Tuple) where
  abbrev Stands : List Edit → Cells → Cells → Type 0
  Stands edits cells new = at q new ≡ left (filter (is_same q) (goes edits)) (at q cells) ++ at q (comes edits)

  went : (t : Tuple) (edits : List Edit) (cells new : Cells) → Low by_tuple (t, None) edits → (s : Step cells (t, None) edits new)
      → Stands edits (above t cells) s.rest → Stands ((t, None) ∷ edits) cells new
  went t edits cells new l s ih = parts ∙ by (cmp_key q t) refl
    where
      gone : List Tuple
      gone = filter (is_same q) (goes edits)

      came : Cells
      came = at q (comes edits)

      parts : at q new ≡ at q (below t cells) ++ (left gone (at q (above t cells)) ++ came)
      parts =
          ap (at q) s.new_is
          ∙ filter-append (λ cell. is_same q cell.0) s.front s.rest
          ∙ (λ i. at q (some_same s.front (below t cells) (sym s.front_is) i) ++ ih i)

      by : (r : Ordering) → cmp_key q t ≡ r → at q (below t cells) ++ (left gone (at q (above t cells)) ++ came) ≡ left (cond (is_eq (cmp_key q t)) (t ∷ gone) gone) (at q cells) ++ came
      by Less e =
          let none : gone ≡ [] = no_goes q t None e edits l in
          let away : came ≡ [] = no_comes q t None e edits l in
          (λ i. at_below q t cells (ap is_lt e) i ++ (left (none i) (none_above q t cells (ap is_gt e) i) ++ away i))
          ∙ (λ i. left (cond (is_eq (sym e i)) (t ∷ sym none i) (sym none i)) (at q cells) ++ sym away i)
      by Equal e =
          (λ i. none_below q t cells (ap is_lt e) i ++ (left gone (none_above q t cells (ap is_gt e) i) ++ came))
          ∙ ap (λ l. l ++ came) (left_none gone)
          ∙ (λ i. left (cond (is_eq (sym e i)) (t ∷ gone) gone) (at q cells) ++ came)
      by Greater e =
          (λ i. none_below q t cells (ap is_lt e) i ++ (left gone (at_above q t cells (ap is_gt e) i) ++ came))
          ∙ (λ i. left (cond (is_eq (sym e i)) (t ∷ gone) gone) (at q cells) ++ came)

  arrived : (t m : Tuple) (edits : List Edit) (cells new : Cells) → Low by_tuple (t, Some m) edits → (s : Step cells (t, Some m) edits new)
      → Stands edits (above t cells) s.rest → Stands ((t, Some m) ∷ edits) cells new
  arrived t m edits cells new l s ih = parts ∙ by (cmp_key q t) refl
    where
      gone : List Tuple
      gone = filter (is_same q) (goes edits)

      came : Cells
      came = at q (comes edits)

      put : Put cells t m edits s.front
      put = put_of cells t m edits s.front s.front_is

      own : Bool → Cells
      own b = cond b ((t, m) ∷ []) []

      parts : at q new ≡ (at q (below t cells) ++ own (is_same q t)) ++ (left gone (at q (above t cells)) ++ came)
      parts =
          ap (at q) s.new_is
          ∙ filter-append (λ cell. is_same q cell.0) s.front s.rest
          ∙ (λ i. (ap (at q) put.front_is ∙ filter-append (λ cell. is_same q cell.0) (below t cells) ((t, m) ∷ [])) i ++ ih i)

      by : (r : Ordering) → cmp_key q t ≡ r → (at q (below t cells) ++ own (is_same q t)) ++ (left gone (at q (above t cells)) ++ came)
          ≡ left gone (at q cells) ++ cond (is_eq (cmp_key q t)) ((t, m) ∷ came) came
      by Less e =
          let none : gone ≡ [] = no_goes q t (Some m) e edits l in
          let away : came ≡ [] = no_comes q t (Some m) e edits l in
          (λ i. (at_below q t cells (ap is_lt e) i ++ own (is_eq (e i))) ++ (left (none i) (none_above q t cells (ap is_gt e) i) ++ away i))
          ∙ append-nil (at q cells ++ [])
          ∙ (λ i. left (sym none i) (at q cells) ++ cond (is_eq (sym e i)) ((t, m) ∷ sym away i) (sym away i))
      by Equal e =
          let same : q ≡ t = same_key q t e in
          let lacks : at q cells ≡ [] = ap (λ u. at u cells) same ∙ no_cell t cells put.lacking in
          (λ i. (none_below q t cells (ap is_lt e) i ++ own (is_eq (e i))) ++ (left gone (none_above q t cells (ap is_gt e) i) ++ came))
          ∙ ap (λ l. (t, m) ∷ (l ++ came)) (left_none gone)
          ∙ ap (λ l. l ++ (t, m) ∷ came) (sym (left_none gone))
          ∙ (λ i. left gone (sym lacks i) ++ cond (is_eq (sym e i)) ((t, m) ∷ came) came)
      by Greater e =
          (λ i. (none_below q t cells (ap is_lt e) i ++ own (is_eq (e i))) ++ (left gone (at_above q t cells (ap is_gt e) i) ++ came))
          ∙ (λ i. left gone (at q cells) ++ cond (is_eq (sym e i)) ((t, m) ∷ came) came)

  pub amended_at : (edits : List Edit) (cells new : Cells) → Rising by_tuple edits → amended cells edits ≡ Some new → Stands edits cells new
  amended_at [] cells new r e = ap (at q) (sym (some_same cells new e)) ∙ sym (append-nil (at q cells))
  amended_at ((t, None) ∷ edits) cells new r e =
      let s = step_of cells (t, None) edits new e in
      went t edits cells new r.0 s (amended_at edits (above t cells) s.rest r.1 s.rest_is)
  amended_at ((t, Some m) ∷ edits) cells new r e =
      let s = step_of cells (t, Some m) edits new e in
      arrived t m edits cells new r.0 s (amended_at edits (above t cells) s.rest r.1 s.rest_is)

-- ---- what holds of all tuples
module _ (P : Tuple → Type 0) where
  abbrev On : {A : Type 0} → List (Tuple × A) → Type 0
  On xs = AllByRecursion (λ x. P x.0) xs

  on_front : (cells : Cells) (edit : Edit) (edits : List Edit) (front : Cells) → P edit.0 → On cells → front_of cells edit edits ≡ Some front → On front
  on_front cells (t, None) edits front p h e =
      subst On (some_same (below t cells) front e) (each_kept (λ cell. P cell.0) (λ cell. is_lt (cmp_key cell.0 t)) cells h)
  on_front cells (t, Some m) edits front p h e =
      subst On (sym (put_of cells t m edits front e).front_is)
      (each_append (λ cell. P cell.0) (below t cells) ((t, m) ∷ []) (each_kept (λ cell. P cell.0) (λ cell. is_lt (cmp_key cell.0 t)) cells h) (p, tt))

  pub all_amended : (edits : List Edit) (cells new : Cells) → On cells → On edits → amended cells edits ≡ Some new → On new
  all_amended [] cells new h g e = subst On (some_same cells new e) h
  all_amended (edit ∷ edits) cells new h g e =
      let s = step_of cells edit edits new e in
      subst On (sym s.new_is)
      (each_append (λ cell. P cell.0) s.front s.rest
      (on_front cells edit edits s.front g.0 h s.front_is)
      (all_amended edits (above edit.0 cells) s.rest (each_kept (λ cell. P cell.0) (λ cell. is_gt (cmp_key cell.0 edit.0)) cells h) g.1 s.rest_is))

-- ---- they ascend
-- cells below a tuple, and cells that are not
around : (t : Tuple) (xs ys : Cells) → AllByRecursion (λ x. cmp_key x.0 t ≡ Less) xs → AllByRecursion (λ y. is_lt (cmp_key y.0 t) ≡ false) ys
    → Ascends xs → Ascends ys → Ascends (xs ++ ys)
unfolding IsStrictlySortedBy
around t [] ys b n s r = r
around t (x ∷ xs) ys b n s r = (
  each_append (λ y. cmp_key x.0 y.0 ≡ Less) xs ys s.0 (each_map (λ y. is_lt (cmp_key y.0 t) ≡ false) (λ y. cmp_key x.0 y.0 ≡ Less) (λ y h. less_on key_total x.0 t y.0 b.0 h) ys n),
  around t xs ys b.1 n s.1 r,
)

low_all : (t : Tuple) (m : Option Tuple) (edits : List Edit) → Low by_tuple (t, m) edits → AllByRecursion (λ edit. is_lt (cmp_key edit.0 t) ≡ false) edits
low_all t m [] l = tt
low_all t m (edit ∷ edits) l = (l.0, low_all t m edits l.1)

-- edits behind one, of which the first has another tuple
all_greater : (t : Tuple) (m : Option Tuple) (edits : List Edit) → Low by_tuple (t, m) edits → Rising by_tuple edits → begins_with edits t ≡ false
    → AllByRecursion (λ edit. cmp_key t edit.0 ≡ Less) edits
all_greater t m [] l r n = tt
all_greater t m (edit ∷ edits) l r n = (first, behind_first edits r.0)
  where
    first : cmp_key t edit.0 ≡ Less
    first = by (cmp_key t edit.0) refl
      where
        by : (o : Ordering) → cmp_key t edit.0 ≡ o → o ≡ Less
        by Less e = refl
        by Equal e = let k : true ≡ false = sym (ap is_eq e) ∙ n in cc
        by Greater e = let k : true ≡ false = sym (ap is_lt (turned t edit.0 Greater e)) ∙ l.0 in cc

    behind_first : (more : List Edit) → Low by_tuple edit more → AllByRecursion (λ other. cmp_key t other.0 ≡ Less) more
    behind_first [] k = tt
    behind_first (other ∷ more) k = (less_on key_total t edit.0 other.0 first k.0, behind_first more k.1)

module _ (t : Tuple) (cells : Cells) where
  all_below : AllByRecursion (λ cell. cmp_key cell.0 t ≡ Less) (below t cells)
  all_below = all_passed (λ cell. cmp_key cell.0 t ≡ Less) (λ cell. is_lt (cmp_key cell.0 t)) (λ z h. less_is (cmp_key z.0 t) h) cells

  all_above : AllByRecursion (λ cell. cmp_key t cell.0 ≡ Less) (above t cells)
  all_above = all_passed (λ cell. cmp_key t cell.0 ≡ Less) (λ cell. is_gt (cmp_key cell.0 t)) (λ z h. turned z.0 t Greater (greater_is (cmp_key z.0 t) h)) cells

  ascends_below : Ascends cells → Ascends (below t cells)
  ascends_below s = IsStrictlySortedBy-filter by_tuple (λ cell. is_lt (cmp_key cell.0 t)) cells s

  pub ascends_above : Ascends cells → Ascends (above t cells)
  ascends_above s = IsStrictlySortedBy-filter by_tuple (λ cell. is_gt (cmp_key cell.0 t)) cells s

not_less_all : (t : Tuple) (cells : Cells) → AllByRecursion (λ cell. cmp_key t cell.0 ≡ Less) cells → AllByRecursion (λ cell. is_lt (cmp_key cell.0 t) ≡ false) cells
not_less_all t cells h = each_map (λ cell. cmp_key t cell.0 ≡ Less) (λ cell. is_lt (cmp_key cell.0 t) ≡ false) (λ z e. not_less t z.0 e) cells h

pub amended_ascends : (edits : List Edit) (cells new : Cells) → Rising by_tuple edits → Ascends cells → amended cells edits ≡ Some new → Ascends new
unfolding IsStrictlySortedBy
amended_ascends [] cells new r s e = subst Ascends (some_same cells new e) s
amended_ascends ((t, None) ∷ edits) cells new r s e =
    let step = step_of cells (t, None) edits new e in
    let front : below t cells ≡ step.front = some_same (below t cells) step.front step.front_is in
    let rest = amended_ascends edits (above t cells) step.rest r.1 (ascends_above t cells s) step.rest_is in
    let high = all_amended (λ u. is_lt (cmp_key u t) ≡ false) edits (above t cells) step.rest (not_less_all t (above t cells) (all_above t cells)) (low_all t None edits r.0) step.rest_is in
    subst Ascends (ap (λ l. l ++ step.rest) front ∙ sym step.new_is) (around t (below t cells) step.rest (all_below t cells) high (ascends_below t cells s) rest)
amended_ascends ((t, Some m) ∷ edits) cells new r s e =
    let step = step_of cells (t, Some m) edits new e in
    let put = put_of cells t m edits step.front step.front_is in
    let rest = amended_ascends edits (above t cells) step.rest r.1 (ascends_above t cells s) step.rest_is in
    let high = all_amended (λ u. cmp_key t u ≡ Less) edits (above t cells) step.rest (all_above t cells) (all_greater t (Some m) edits r.0 r.1 put.last) step.rest_is in
    let low : is_lt (cmp_key t t) ≡ false = ap is_lt (key_itself t) in
    subst Ascends (sym (append_assoc (below t cells) ((t, m) ∷ []) step.rest) ∙ ap (λ l. l ++ step.rest) (sym put.front_is) ∙ sym step.new_is)
    (around t (below t cells) ((t, m) ∷ step.rest) (all_below t cells) (low, not_less_all t step.rest high) (ascends_below t cells s) (high, rest))

-- ---- cells that ascend
none_above_first : (x : Tuple × Tuple) (q : Tuple) (ys : Cells) → is_same q x.0 ≡ true → AllByRecursion (λ y. cmp_key x.0 y.0 ≡ Less) ys → at q ys ≡ []
none_above_first x q [] h b = refl
none_above_first x q (y ∷ ys) h b =
    ap (λ r. cond (is_eq r) (y ∷ at q ys) (at q ys)) (ap (λ u. cmp_key u y.0) (same_is q x.0 h) ∙ b.0) ∙ none_above_first x q ys h b.1

pub once_at : (q : Tuple) (cells : Cells) → Ascends cells → length (at q cells) ≤ 1
unfolding IsStrictlySortedBy
once_at q [] s = omega arith
once_at q (cell ∷ cells) s = by (is_same q cell.0) refl (once_at q cells s.1)
  where
    by : (b : Bool) → is_same q cell.0 ≡ b → length (at q cells) ≤ 1 → length (cond b (cell ∷ at q cells) (at q cells)) ≤ 1
    by true e h = let n : length (at q cells) ≡ 0 = ap length (none_above_first cell q cells e s.0) in omega (arith, n)
    by false e h = h

pub ascends_rising : (cells : Cells) → Ascends cells → Rising by_tuple cells
unfolding IsStrictlySortedBy
ascends_rising [] s = tt
ascends_rising (cell ∷ cells) s = (low cells s.0, ascends_rising cells s.1)
  where
    low : (others : Cells) → AllByRecursion (λ y. cmp_key cell.0 y.0 ≡ Less) others → Low by_tuple cell others
    low [] b = tt
    low (other ∷ others) b = (not_less cell.0 other.0 b.0, low others b.1)

pub rising_ascends : (cells : Cells) → Rising by_tuple cells → ((q : Tuple) → length (at q cells) ≤ 1) → Ascends cells
unfolding IsStrictlySortedBy
rising_ascends [] r once = tt
rising_ascends (cell ∷ cells) r once = (above_first cells r.0 none, rising_ascends cells r.1 fewer)
  where
    fewer : (q : Tuple) → length (at q cells) ≤ 1
    fewer q = by (is_same q cell.0) (once q)
      where
        by : (b : Bool) → length (cond b (cell ∷ at q cells) (at q cells)) ≤ 1 → length (at q cells) ≤ 1
        by true h = omega (arith, h)
        by false h = h

    none : length (at cell.0 cells) ≤ 0
    none =
        let h : length (cond true (cell ∷ at cell.0 cells) (at cell.0 cells)) ≤ 1 = subst (λ r. length (cond (is_eq r) (cell ∷ at cell.0 cells) (at cell.0 cells)) ≤ 1) (key_itself cell.0) (once cell.0) in
        omega (arith, h)

    above_first : (others : Cells) → Low by_tuple cell others → length (at cell.0 others) ≤ 0 → AllByRecursion (λ y. cmp_key cell.0 y.0 ≡ Less) others
    above_first [] l n = tt
    above_first (other ∷ others) l n = by (cmp_key cell.0 other.0) refl n (above_first others l.1)
      where
        by : (o : Ordering) → cmp_key cell.0 other.0 ≡ o → length (cond (is_eq o) (other ∷ at cell.0 others) (at cell.0 others)) ≤ 0
            → (length (at cell.0 others) ≤ 0 → AllByRecursion (λ y. cmp_key cell.0 y.0 ≡ Less) others) → AllByRecursion (λ y. cmp_key cell.0 y.0 ≡ Less) (other ∷ others)
        by Less e n f = (e, f n)
        by Equal e n f = absurd (omega (arith, n))
        by Greater e n f = let k : true ≡ false = sym (ap is_lt (turned cell.0 other.0 Greater e)) ∙ l.0 in absurd (cc)
