-- What is kept of views, when something of it is taken out or put in, and when a view comes or goes.
use Rattle.std.proofs.Common.{◌≡◌, ℕ, zero, suc, ◌+◌, ◌≤◌, length, arith, List, [], ◌∷◌, ◌++◌, Bool, true, false, not, cond, Option, None, Some, Result, Ok, Err, refl, sym, ap, subst, ◌∙◌}
use Rattle.std.specs.Prelude.{IfOk, IfSome, OnErr, OnOk, String, bytes_eq, slice_get}
use Rattle.std.specs.Map.{lookup, remove_entry, values_of}
use Rattle.std.specs.Option.{option_to_list}
use Rattle.std.specs.String.{string_bytes}
use Rattle.std.specs.declared.alloc.Global.{Global}
use Rattle.std.proofs.lemmas.List.{append-nil}
use Rattle.std.proofs.lemmas.Slice.Eq.{bytes_eq-Decides}
use Rattle.indexmap.specs.IndexMap.{insert_entry}
use Rattle.mq_values.specs.declared.memory.Memory.{Memory}
use Rattle.mq_ir.specs.declared.catalog.View.{View}
use Rattle.mq_ir.specs.declared.query.ModelPart.{ModelPart}
use Rattle.mq_ir.specs.NamedItems.{item_of, others}
use Rattle.mq_ir.specs.Tables.{Tables, is_name}
use Rattle.mq_tables.specs.declared.touched.Touched.{Touched}
use Rattle.mq_kept.specs.declared.standing.StandingView.{StandingView}
use Rattle.mq_kept.specs.Standing.{IsStanding}
use Rattle.mq_engine.specs.KeptViews.{AreRightAt, AreStandingOf, IsRightAt, IsStandingOf, AreHalfway, StoodAll, StoodAt, goes_by}

abbrev name_of : View → List ℕ
name_of view = view.name

abbrev same_key : String Global → String Global → Bool
same_key a b = bytes_eq (string_bytes a) (string_bytes b)

same_bytes : (a b : List ℕ) → bytes_eq a b ≡ true → a ≡ b
same_bytes a b h = (bytes_eq-Decides a b).0 h

some_one : {A : Type 0} {x y : A} → Some x ≡ Some y → x ≡ y
some_one h = cc

module _ {K : Type 0} (Right : View → K → Type 0) where
  abbrev Entries : Type 0
  Entries = List (String Global × K)

  -- what is taken out is right
  taken_right : (views : List View) (name : List ℕ) (entries : Entries) (kept : K) (v : View) → AreRightAt Right views entries
      → lookup (goes_by name) entries ≡ Some kept → item_of name_of views name ≡ Some v → Right v kept
  taken_right views name [] kept v are h is = absurd (cc)
  taken_right views name (entry ∷ entries) kept v are h is =
      by (bytes_eq name (string_bytes entry.0)) refl (λ g. taken_right views name entries kept v are.1 g is) h
    where
      by : (b : Bool) → bytes_eq name (string_bytes entry.0) ≡ b → (lookup (goes_by name) entries ≡ Some kept → Right v kept)
          → cond b (Some entry.1) (lookup (goes_by name) entries) ≡ Some kept → Right v kept
      by true e rest g =
          let same : name ≡ string_bytes entry.0 = same_bytes name (string_bytes entry.0) e in
          let it : entry.1 ≡ kept = cc in
          subst (Right v) it (are.0 v (ap (item_of name_of views) (sym same) ∙ is))
      by false e rest g = rest g

  pub found_right : (views : List View) (name : List ℕ) (entries : Entries) (v : View) → AreRightAt Right views entries → item_of name_of views name ≡ Some v
      → (r : Option K) → r ≡ lookup (goes_by name) entries → IfSome r (Right v)
  found_right views name entries v are is None e = tt
  found_right views name entries v are is (Some kept) e = taken_right views name entries kept v are (sym e) is

  -- .. and so is what is left
  pub left_right : (views : List View) (test : String Global → Bool) (entries : Entries) → AreRightAt Right views entries
      → AreRightAt Right views (remove_entry test entries)
  left_right views test [] are = tt
  left_right views test (entry ∷ entries) are = by (test entry.0) (left_right views test entries are.1)
    where
      by : (b : Bool) → AreRightAt Right views (remove_entry test entries)
          → AreRightAt Right views (cond b entries (entry ∷ remove_entry test entries))
      by true rest = are.1
      by false rest = (are.0, rest)

  -- where nothing is kept under a name, views of that name may come and go
  module _ (name : List ℕ) where
    other_views : (views after : List View) → ((n : List ℕ) → bytes_eq name n ≡ false → item_of name_of after n ≡ item_of name_of views n)
        → (entries : Entries) → lookup (goes_by name) entries ≡ None → AreRightAt Right views entries → AreRightAt Right after entries
    other_views views after same [] none are = tt
    other_views views after same (entry ∷ entries) none are =
        by (bytes_eq name (string_bytes entry.0)) refl (λ g. other_views views after same entries g are.1) none
      where
        by : (b : Bool) → bytes_eq name (string_bytes entry.0) ≡ b → (lookup (goes_by name) entries ≡ None → AreRightAt Right after entries)
            → cond b (Some entry.1) (lookup (goes_by name) entries) ≡ None → AreRightAt Right after (entry ∷ entries)
        by true e rest g = absurd (cc)
        by false e rest g = (λ v found. are.0 v (sym (same (string_bytes entry.0) e) ∙ found), rest g)

    one_more : (views : List View) (v : View) (n : List ℕ) → v.name ≡ name → bytes_eq name n ≡ false
        → item_of name_of (views ++ v ∷ []) n ≡ item_of name_of views n
    one_more [] v n called other = ap (λ (m : List ℕ). cond (is_name m n) (Some v) None) called ∙ ap (λ b. cond b (Some v) None) other
    one_more (w ∷ views) v n called other = by (is_name w.name n) (one_more views v n called other)
      where
        by : (b : Bool) → item_of name_of (views ++ v ∷ []) n ≡ item_of name_of views n
            → cond b (Some w) (item_of name_of (views ++ v ∷ []) n) ≡ cond b (Some w) (item_of name_of views n)
        by true h = refl
        by false h = h

    one_less : (views : List View) (n : List ℕ) → bytes_eq name n ≡ false → item_of name_of (others name_of views name) n ≡ item_of name_of views n
    one_less [] n other = refl
    one_less (w ∷ views) n other = by (is_name name w.name) refl (one_less views n other)
      where
        gone : is_name name w.name ≡ true → is_name w.name n ≡ false
        gone e = ap (λ (m : List ℕ). is_name m n) (sym (same_bytes name w.name e)) ∙ other

        by : (b : Bool) → is_name name w.name ≡ b → item_of name_of (others name_of views name) n ≡ item_of name_of views n
            → item_of name_of (cond (not b) (w ∷ others name_of views name) (others name_of views name)) n ≡ item_of name_of (w ∷ views) n
        by true e h = h ∙ sym (ap (λ b. cond b (Some w) (item_of name_of views n)) (gone e))
        by false e h = ap (λ o. cond (is_name w.name n) (Some w) o) h

    right_with : (views after : List View) (v : View) (entries : Entries) → after ≡ views ++ v ∷ [] → v.name ≡ name → lookup (goes_by name) entries ≡ None
        → AreRightAt Right views entries → AreRightAt Right after entries
    right_with views after v entries e called none are =
        other_views views after (λ n other. ap (λ (vs : List View). item_of name_of vs n) e ∙ one_more views v n called other) entries none are

    pub right_without : (views after : List View) (entries : Entries) → after ≡ others name_of views name → lookup (goes_by name) entries ≡ None
        → AreRightAt Right views entries → AreRightAt Right after entries
    right_without views after entries e none are =
        other_views views after (λ n other. ap (λ (vs : List View). item_of name_of vs n) e ∙ one_less views n other) entries none are

    pub right_put_or_not : (r : Result (Unit {0}) Memory) (views after : List View) (v : View) (entries : Entries) → OnOk r (after ≡ views ++ v ∷ [])
        → OnErr r (after ≡ views) → v.name ≡ name → lookup (goes_by name) entries ≡ None → AreRightAt Right views entries → AreRightAt Right after entries
    right_put_or_not (Ok u) views after v entries a b called none are = right_with views after v entries a called none are
    right_put_or_not (Err wanted) views after v entries a b called none are = subst (λ (vs : List View). AreRightAt Right vs entries) (sym b) are

-- what is right for the view of its name, where there is one
pub put_right_at : {K : Type 0} (Right : View → K → Type 0) (views : List View) (name : String Global) (kept : K) (entries : List (String Global × K))
    → AreRightAt Right views entries → IsRightAt Right views (name, kept) → AreRightAt Right views (insert_entry same_key entries name kept)
put_right_at {K} Right views name kept entries are right = by_entries entries are
  where
    here : (other : String Global) → string_bytes name ≡ string_bytes other → IsRightAt Right views (other, kept)
    here other same w found = right w (ap (item_of name_of views) same ∙ found)

    by_entries : (entries : List (String Global × K)) → AreRightAt Right views entries → AreRightAt Right views (insert_entry same_key entries name kept)
    by_entries [] are = (here name refl, tt)
    by_entries (entry ∷ entries) are = by (bytes_eq (string_bytes name) (string_bytes entry.0)) refl (by_entries entries are.1)
      where
        by : (b : Bool) → bytes_eq (string_bytes name) (string_bytes entry.0) ≡ b → AreRightAt Right views (insert_entry same_key entries name kept)
            → AreRightAt Right views (cond b ((entry.0, kept) ∷ entries) (entry ∷ insert_entry same_key entries name kept))
        by true e rest = (here entry.0 (same_bytes (string_bytes name) (string_bytes entry.0) e), are.1)
        by false e rest = (are.0, rest)

-- what is right for the view of a name may be kept under it
pub put_right : {K : Type 0} (Right : View → K → Type 0) (views : List View) (name : String Global) (kept : K) (entries : List (String Global × K)) (v : View)
    → AreRightAt Right views entries → item_of name_of views (string_bytes name) ≡ Some v → Right v kept
    → AreRightAt Right views (insert_entry same_key entries name kept)
put_right Right views name kept entries v are is right =
    put_right_at Right views name kept entries are (λ w found. subst (λ (w : View). Right w kept) (some_one (sym is ∙ found)) right)

-- what is kept of a view stands for its model
pub for_model : (tables : Tables) (v : View) (part : ModelPart) → v.query.model ≡ Some part → (r : Option StandingView) → IfSome r (IsStandingOf tables v)
    → IfSome r (IsStanding tables v.query part)
for_model tables v part is None h = tt
for_model tables v part is (Some kept) h = h part is

-- .. and what stands for its model is kept of it
pub of_view : (tables : Tables) (v : View) (part : ModelPart) → v.query.model ≡ Some part → (kept : StandingView) → IsStanding tables v.query part kept
    → IsStandingOf tables v kept
of_view tables v part is kept stands = λ other model. subst (λ (part : ModelPart). IsStanding tables v.query part kept) (some_one (sym is ∙ model)) stands

pub of_model : (tables : Tables) (v : View) (part : ModelPart) → v.query.model ≡ Some part → (r : Option StandingView) → IfSome r (IsStanding tables v.query part)
    → IfSome r (IsStandingOf tables v)
of_model tables v part is None h = tt
of_model tables v part is (Some kept) h = of_view tables v part is kept h

-- what followed a change stands under its name, where there was memory for it
pub carried_right : (tables : Tables) (views : List View) (name : String Global) (v : View) (part : ModelPart) → item_of name_of views (string_bytes name) ≡ Some v
    → v.query.model ≡ Some part → (r : Result StandingView Memory) (o : Option StandingView) → IfSome o (λ standing. r ≡ Ok standing)
    → IfOk r (IsStanding tables v.query part) → IfSome o (λ now. IsRightAt (IsStandingOf tables) views (name, now))
carried_right tables views name v part at is r None h stands = tt
carried_right tables views name v part at is (Err wanted) (Some kept) h stands = absurd (cc)
carried_right tables views name v part at is (Ok now) (Some kept) h stands =
    let same : now ≡ kept = cc in
    λ w found. subst (λ (w : View). IsStandingOf tables w kept) (some_one (sym at ∙ found))
    (of_view tables v part is kept (subst (IsStanding tables v.query part) same stands))

-- ---- what is kept, taken out from the last on
module _ {K : Type 0} (Right : View → K → Type 0) (views : List View) where
  -- all before the last, and the last
  pub last_right : (entries : List (String Global × K)) (entry : String Global × K) → AreRightAt Right views (entries ++ entry ∷ [])
      → AreRightAt Right views entries × IsRightAt Right views entry
  last_right [] entry are = (tt, are.0)
  last_right (first ∷ entries) entry are = let rest = last_right entries entry are.1 in ((are.0, rest.0), rest.1)

-- what was kept before the last
pub stood_before : (touched : Touched) (name : List ℕ) (now : Tables) (views : List View) (all entries : List (String Global × StandingView))
    (popped : Option (String Global × StandingView)) → all ≡ entries ++ option_to_list popped → StoodAll touched name now views all
    → StoodAll touched name now views entries
stood_before touched name now views all entries None is stood = record {
  before = stood.before;
  change = stood.change;
  standing = subst (AreStandingOf stood.before views) (is ∙ append-nil entries) stood.standing;
}
stood_before touched name now views all entries (Some entry) is stood = record {
  before = stood.before;
  change = stood.change;
  standing = (last_right (IsStandingOf stood.before) views entries entry (subst (AreStandingOf stood.before views) is stood.standing)).0;
}

pub stood_last : (touched : Touched) (name : List ℕ) (now : Tables) (views : List View) (all entries : List (String Global × StandingView))
    (entry : String Global × StandingView) → all ≡ entries ++ entry ∷ [] → StoodAll touched name now views all → StoodAt touched name now views entry
stood_last touched name now views all entries entry is stood = record {
  before = stood.before;
  change = stood.change;
  standing = (last_right (IsStandingOf stood.before) views entries entry (subst (AreStandingOf stood.before views) is stood.standing)).1;
}

-- what is put in, or not for want of memory
pub inserted_or_not : {K B E : Type 0} (Right : View → K → Type 0) (views : List View) (r : Result B E) (name : String Global) (kept : K)
    (entries after : List (String Global × K)) → OnOk r (after ≡ insert_entry same_key entries name kept) → OnErr r (after ≡ entries)
    → AreRightAt Right views entries → IsRightAt Right views (name, kept) → AreRightAt Right views after
inserted_or_not Right views (Ok done) name kept entries after ok err are right =
    subst (AreRightAt Right views) (sym ok) (put_right_at Right views name kept entries are right)
inserted_or_not Right views (Err wanted) name kept entries after ok err are right = subst (AreRightAt Right views) (sym err) are

-- ---- what is kept is passed over, one after another
abbrev Kept : Type 0
Kept = List (String Global × StandingView)

-- with a value in the place of the one at a place
abbrev pub put_at : Kept → ℕ → StandingView → Kept
put_at [] i w = []
put_at (e ∷ es) zero w = (e.0, w) ∷ es
put_at (e ∷ es) (suc i) w = e ∷ put_at es i w

pub put_as_many : (entries : Kept) (n : ℕ) (w : StandingView) → length (put_at entries n w) ≡ length entries
put_as_many [] n w = refl
put_as_many (e ∷ es) zero w = refl
put_as_many (e ∷ es) (suc n) w = ap suc (put_as_many es n w)

one_more_place : (n : ℕ) → suc n ≡ n + 1
one_more_place n = omega arith

module _ (before now : Tables) (views : List View) where
  pub halfway_start : (entries : Kept) → AreStandingOf before views entries → AreHalfway before now views 0 entries
  halfway_start [] are = tt
  halfway_start (entry ∷ entries) are = are

  pub halfway_all : (n : ℕ) (entries : Kept) → length entries ≤ n → AreHalfway before now views n entries → AreStandingOf now views entries
  halfway_all n [] l are = tt
  halfway_all zero (entry ∷ entries) l are = absurd (omega (arith, l))
  halfway_all (suc n) (entry ∷ entries) l are = (are.0, halfway_all n entries (omega (arith, l)) are.1)

  passed_over : (name : String Global) (s w : StandingView) → s ≡ w → IsRightAt (IsStandingOf before) views (name, s)
      → IsRightAt (IsStandingOf now) views (name, record w { fresh = false })
  passed_over name s w e h v found part is =
      let stood : IsStanding before v.query part w = subst (IsStanding before v.query part) e (h v found part is) in
      record { right = stood.right; kept = λ f. absurd (cc) }

  next_passed : (n : ℕ) (entries : Kept) (w : StandingView) → slice_get (values_of entries) n ≡ Some w → AreHalfway before now views n entries
      → AreHalfway before now views (suc n) (put_at entries n (record w { fresh = false }))
  next_passed n [] w e are = tt
  next_passed zero (entry ∷ entries) w e are = (passed_over entry.0 entry.1 w (some_one e) are.0, halfway_start entries are.1)
  next_passed (suc n) (entry ∷ entries) w e are = (are.0, next_passed n entries w e are.1)

  none_behind : (n : ℕ) (entries : Kept) → slice_get (values_of entries) n ≡ None → AreHalfway before now views n entries
      → AreHalfway before now views (suc n) entries
  none_behind n [] e are = tt
  none_behind zero (entry ∷ entries) e are = absurd (cc)
  none_behind (suc n) (entry ∷ entries) e are = (are.0, none_behind n entries e are.1)

  pub halfway_put : (n : ℕ) (entries : Kept) (w : StandingView) → slice_get (values_of entries) n ≡ Some w → AreHalfway before now views n entries
      → AreHalfway before now views (n + 1) (put_at entries n (record w { fresh = false }))
  halfway_put n entries w e are =
      subst (λ k. AreHalfway before now views k (put_at entries n (record w { fresh = false }))) (one_more_place n) (next_passed n entries w e are)

  pub halfway_none : (n : ℕ) (entries : Kept) → slice_get (values_of entries) n ≡ None → AreHalfway before now views n entries
      → AreHalfway before now views (n + 1) entries
  halfway_none n entries e are = subst (λ k. AreHalfway before now views k entries) (one_more_place n) (none_behind n entries e are)
