-- A few results behind their names, after one was put or taken away.
use Rattle.std.proofs.Common.{◌≡◌, ℕ, zero, suc, ◌+◌, ◌≤◌, ◌==◌, ◌&&◌, Bool, true, false, not, cond, List, [], ◌∷◌, ◌++◌, Option, Some, None, if◌then◌else◌, slice_set, refl, sym, ap, ◌∙◌, arith}
use Rattle.std.specs.Cmp.{Equal-is, eq_by_cmp_equiv, first_so, nat_eq_equiv, second_so, unsigned_Decides}
use Rattle.std.specs.List.{filter, find, position, position_from}
use Rattle.std.specs.Map.{lookup}
use Rattle.std.specs.Option.{option_map, unwrap_or}
use Rattle.std.proofs.lemmas.Iterator.Adapters.{position_from-zero}
use Rattle.mq_values.specs.Order.{cmp_key}
use Rattle.mq_values.specs.OrderLaws.{key_total}
use Rattle.mq_values.specs.OrderTells.{same_key}
use Rattle.mq_ir.specs.declared.query.CellName.{CellName}
use Rattle.mq_ir.specs.declared.query.Slot.{Slot}
use Rattle.mq_ir.specs.Keys.{is_same}
use Rattle.mq_cells.specs.Looked.{results_among}
use Rattle.mq_cells.specs.Stores.{DiffersAt, is_named}

-- a result of this name
abbrev pub is_at : CellName → CellName × Slot → Bool
is_at name = λ e. is_named name e.0

same_name : (a b : CellName) → is_named a b ≡ true → a ≡ b
same_name a b h =
    let p : a.key ≡ b.key = same_key a.key b.key ((Equal-is (cmp_key a.key b.key)).0 (first_so (is_same a.key b.key) (a.measure == b.measure) h)) in
    let q : a.measure ≡ b.measure = (unsigned_Decides a.measure b.measure).0 (second_so (is_same a.key b.key) (a.measure == b.measure) h) in
    λ i. record { key = p i; measure = q i }

named_turned : (a b : CellName) → is_named a b ≡ is_named b a
named_turned a b = λ i. (eq_by_cmp_equiv key_total).symm a.key b.key i && nat_eq_equiv.symm a.measure b.measure i

-- a name is told from another as each result of it is
alike : (name c other : CellName) → is_named name other ≡ true → is_named c other ≡ is_named name c
alike name c other h = ap (λ n. is_named c n) (sym (same_name name other h)) ∙ named_turned c name

either : {X : Type 0} (b : Bool) (x : X) → x ≡ (if b then x else x)
either true x = refl
either false x = refl

-- a result of the name itself: what stood there counts no more
here : {X : Type 0} (b : Bool) (x old rest : X) → (if b then x else rest) ≡ (if b then x else cond b old rest)
here true x old rest = refl
here false x old rest = refl

-- a result of another name
later : (name c : CellName) (e : CellName × Slot) (x rest after : Option Slot) → is_named name e.0 ≡ false → after ≡ (if is_named name c then x else rest)
    → cond (is_named c e.0) (Some e.1) after ≡ (if is_named name c then x else cond (is_named c e.0) (Some e.1) rest)
later name c e x rest after h k = ap (cond (is_named c e.0) (Some e.1)) k ∙ by (is_named name c) refl
  where
    by : (b : Bool) → is_named name c ≡ b
        → cond (is_named c e.0) (Some e.1) (if b then x else rest) ≡ (if b then x else cond (is_named c e.0) (Some e.1) rest)
    by true q = ap (λ d. cond d (Some e.1) x) (ap (λ n. is_named n e.0) (sym (same_name name c q)) ∙ h)
    by false q = refl

-- no place is found before the one that the search begins with
past : (test : CellName × Slot → Bool) (n : ℕ) (es : List (CellName × Slot)) (at : ℕ) → position_from test n es ≡ Some at → n ≤ at
past test n [] at h = absurd cc
past test n (e ∷ es) at h = by (test e) h (λ g. past test (n + 1) es at g)
  where
    by : (b : Bool) → cond b (Some n) (position_from test (n + 1) es) ≡ Some at
        → (position_from test (n + 1) es ≡ Some at → n + 1 ≤ at) → n ≤ at
    by true g r = let p : n ≡ at = ap (λ (o : Option ℕ). unwrap_or o n) g in omega (arith, p)
    by false g r = let l : n + 1 ≤ at = r g in omega (arith, l)

-- the first result of a name is written over
replaced : (name c : CellName) (slot : Slot) (n : ℕ) (es : List (CellName × Slot)) (k : ℕ) → position_from (is_at name) n es ≡ Some (n + k)
    → lookup (is_named c) (slice_set es k (name, slot)) ≡ (if is_named name c then Some slot else lookup (is_named c) es)
replaced name c slot n [] k h = absurd cc
replaced name c slot n (e ∷ es) k h = by (is_named name e.0) refl k h (λ j g. replaced name c slot (n + 1) es j g)
  where
    by : (b : Bool) → is_named name e.0 ≡ b → (i : ℕ) → cond b (Some n) (position_from (is_at name) (n + 1) es) ≡ Some (n + i)
        → ((j : ℕ) → position_from (is_at name) (n + 1) es ≡ Some (n + 1 + j)
        → lookup (is_named c) (slice_set es j (name, slot)) ≡ (if is_named name c then Some slot else lookup (is_named c) es))
        → lookup (is_named c) (slice_set (e ∷ es) i (name, slot)) ≡ (if is_named name c then Some slot else lookup (is_named c) (e ∷ es))
    by true q zero g r =
        ap (λ (b : Bool). cond b (Some slot) (lookup (is_named c) es)) (named_turned c name)
        ∙ here (is_named name c) (Some slot) (Some e.1) (lookup (is_named c) es)
        ∙ ap (λ (b : Bool). if is_named name c then Some slot else cond b (Some e.1) (lookup (is_named c) es)) (sym (alike name c e.0 q))
    by true q (suc i) g r = let p : n ≡ n + suc i = ap (λ (o : Option ℕ). unwrap_or o n) g in absurd (omega (arith, p))
    by false q zero g r = let l : n + 1 ≤ n + zero = past (is_at name) (n + 1) es (n + zero) g in absurd (omega (arith, l))
    by false q (suc i) g r =
        let s : n + suc i ≡ n + 1 + i = omega arith in
        later name c e (Some slot) (lookup (is_named c) es) (lookup (is_named c) (slice_set es i (name, slot))) q (r i (g ∙ ap (λ (m : ℕ). Some m) s))

-- no result has the name, and one comes behind all
added : (name c : CellName) (slot : Slot) (n : ℕ) (es : List (CellName × Slot)) → position_from (is_at name) n es ≡ None
    → lookup (is_named c) (es ++ (name, slot) ∷ []) ≡ (if is_named name c then Some slot else lookup (is_named c) es)
added name c slot n [] h = ap (λ (b : Bool). cond b (Some slot) None) (named_turned c name)
added name c slot n (e ∷ es) h = by (is_named name e.0) refl h (λ g. added name c slot (n + 1) es g)
  where
    by : (b : Bool) → is_named name e.0 ≡ b → cond b (Some n) (position_from (is_at name) (n + 1) es) ≡ None
        → (position_from (is_at name) (n + 1) es ≡ None
        → lookup (is_named c) (es ++ (name, slot) ∷ []) ≡ (if is_named name c then Some slot else lookup (is_named c) es))
        → lookup (is_named c) (e ∷ (es ++ (name, slot) ∷ [])) ≡ (if is_named name c then Some slot else lookup (is_named c) (e ∷ es))
    by true q g r = absurd cc
    by false q g r = later name c e (Some slot) (lookup (is_named c) es) (lookup (is_named c) (es ++ (name, slot) ∷ [])) q (r g)

taken : (name c : CellName) (es : List (CellName × Slot))
    → lookup (is_named c) (filter (λ (e : CellName × Slot). not (is_named name e.0)) es) ≡ (if is_named name c then None else lookup (is_named c) es)
taken name c [] = either (is_named name c) None
taken name c (e ∷ es) = by (is_named name e.0) refl (filter (λ (x : CellName × Slot). not (is_named name x.0)) es) (taken name c es)
  where
    by : (b : Bool) → is_named name e.0 ≡ b → (kept : List (CellName × Slot)) → lookup (is_named c) kept ≡ (if is_named name c then None else lookup (is_named c) es)
        → lookup (is_named c) (cond (not b) (e ∷ kept) kept) ≡ (if is_named name c then None else lookup (is_named c) (e ∷ es))
    by true q kept r =
        r ∙ here (is_named name c) None (Some e.1) (lookup (is_named c) es)
        ∙ ap (λ (b : Bool). if is_named name c then None else cond b (Some e.1) (lookup (is_named c) es)) (sym (alike name c e.0 q))
    by false q kept r = later name c e None (lookup (is_named c) es) (lookup (is_named c) kept) q r

-- the first result of a name is what is looked up
pub found_entry : (test : CellName → Bool) (es : List (CellName × Slot))
    → option_map (λ (x : CellName × Slot). x.1) (find (λ (x : CellName × Slot). test x.0) es) ≡ lookup test es
found_entry test [] = refl
found_entry test (e ∷ es) = by (test e.0) (find (λ (x : CellName × Slot). test x.0) es) (found_entry test es)
  where
    by : (b : Bool) (rest : Option (CellName × Slot)) → option_map (λ (x : CellName × Slot). x.1) rest ≡ lookup test es
        → option_map (λ (x : CellName × Slot). x.1) (cond b (Some e) rest) ≡ cond b (Some e.1) (lookup test es)
    by true rest r = refl
    by false rest r = r

pub put_there : (name : CellName) (slot : Slot) (es : List (CellName × Slot)) (at : ℕ) → position (is_at name) es ≡ Some at
    → DiffersAt (results_among es) (results_among (slice_set es at (name, slot))) name (Some slot)
put_there name slot es at h c =
    let s : at ≡ 0 + at = omega arith in replaced name c slot 0 es at (sym (position_from-zero (is_at name) es) ∙ h ∙ ap (λ (m : ℕ). Some m) s)

pub put_behind : (name : CellName) (slot : Slot) (es after : List (CellName × Slot)) → position (is_at name) es ≡ None
    → after ≡ es ++ (name, slot) ∷ [] → DiffersAt (results_among es) (results_among after) name (Some slot)
put_behind name slot es after h seen c = ap (lookup (is_named c)) seen ∙ added name c slot 0 es (sym (position_from-zero (is_at name) es) ∙ h)

pub taken_away : (name : CellName) (es after : List (CellName × Slot)) → after ≡ filter (λ (e : CellName × Slot). not (is_named name e.0)) es
    → DiffersAt (results_among es) (results_among after) name None
taken_away name es after seen c = ap (lookup (is_named c)) seen ∙ taken name c es
