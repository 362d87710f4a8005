-- What is among the sources that no rule assigns, and among those that rules assign.
use Rattle.std.proofs.Common.{◌≡◌, Bool, true, false, not, ◌||◌, List, [], ◌∷◌, ◌++◌, cond, Ordering, Less, Equal, Greater, refl, sym, ap, subst, ◌∙◌, inl, inr}
use Rattle.std.specs.Prelude.{is_none}
use Rattle.std.specs.BTreeSet.{insert_key}
use Rattle.std.specs.Cmp.{IsTotalOrder, nat_cmp_total, on_total, then_total, unsigned_Decides, unsigned_ties}
use Rattle.std.specs.List.{filter, flat_map, fold}
use Rattle.std.specs.Ordering.{is_eq, match_ordering, nat_cmp, on, ordering_then, then_cmp}
use Rattle.std.proofs.lemmas.Bool.{and_from, and_parts, or_cases, or_left, or_right}
use Rattle.std.proofs.lemmas.List.Folds.{list_any-append}
use Rattle.mq_values.specs.Order.{cmp_key}
use Rattle.mq_values.specs.OrderLaws.{key_total}
use Rattle.mq_values.specs.OrderTells.{same_key}
use Rattle.mq_ir.specs.declared.query.CellName.{CellName}
use Rattle.mq_ir.specs.declared.query.Look.TheVariants.{Measure}
use Rattle.mq_ir.specs.declared.query.PartShape.{PartShape}
use Rattle.mq_ir.specs.Automatic.{rule_at}
use Rattle.mq_ir.specs.Derivations.{assigned_names, cmp_name, derived_sources, given_sources, is_given, is_same_measure, is_source, measures_looked_at, round_of}
use Rattle.mq_ir.specs.EachLaws.{Each, each_ascending, each_kept}
use Rattle.mq_ir.specs.Partitions.{Cells}
use Rattle.mq_ir.specs.Rising.{Rising}
use Rattle.mq_ir.specs.SortLaws.{rising_ascending}
use Rattle.mq_ir.specs.Unfolding.{Model}
use Rattle.mq_change_laws.specs.ReachLaws.{told_alike}
use Rattle.mq_derivation_laws.specs.DerivationLaws.{DerivationHasSources}
use Rattle.mq_derivation_laws.proofs.NameLemmas.{all_from, among_steps, has, has_ascending, has_flat, has_kept, name_itself, same_name_is, swapped, unruled_alike}
use Rattle.mq_derivation_laws.proofs.SourceLemmas.{least_sources, looker_assigned}

-- names that the order finds equal are one
one_name : (a b : CellName) → cmp_name a b ≡ Equal → a ≡ b
one_name a b h = by (cmp_key a.key b.key) refl (nat_cmp a.measure b.measure) refl h
  where
    by : (r : Ordering) → cmp_key a.key b.key ≡ r → (s : Ordering) → nat_cmp a.measure b.measure ≡ s → ordering_then r s ≡ Equal → a ≡ b
    by Less e s f h = cc
    by Greater e s f h = cc
    by Equal e s f h =
        let key : a.key ≡ b.key = same_key a.key b.key e in
        let measure : a.measure ≡ b.measure =
        (unsigned_Decides a.measure b.measure).0 (unsigned_ties a.measure b.measure ∙ ap is_eq (f ∙ h)) in
        λ i. record { key = key i; measure = measure i }

-- ---- names put to a set
once : (a b : Bool) → (a || b) ≡ (a || (a || b))
once true b = refl
once false b = refl

moved : (a b c : Bool) → (b || (a || c)) ≡ ((a || b) || c)
moved true true c = refl
moved true false c = refl
moved false b c = refl

has_with : (q k : CellName) (names : List CellName) → has (insert_key cmp_name names k) q ≡ (is_same_measure q k || has names q)
has_with q k [] = refl
has_with q k (x ∷ xs) = by (cmp_name k x) refl (has_with q k xs)
  where
    by : (r : Ordering) → cmp_name k x ≡ r → has (insert_key cmp_name xs k) q ≡ (is_same_measure q k || has xs q)
        → has (match_ordering r (k ∷ x ∷ xs) (x ∷ xs) (x ∷ insert_key cmp_name xs k)) q
        ≡ (is_same_measure q k || (is_same_measure q x || has xs q))
    by Less e h = refl
    by Equal e h = once (is_same_measure q x) (has xs q) ∙ ap (λ y. is_same_measure q y || (is_same_measure q x || has xs q)) (sym (one_name k x e))
    by Greater e h = ap (λ b. is_same_measure q x || b) h ∙ swapped (is_same_measure q k) (is_same_measure q x) (has xs q)

has_folded : (q : CellName) (xs names : List CellName) → has (fold (insert_key cmp_name) names xs) q ≡ (has xs q || has names q)
has_folded q [] names = refl
has_folded q (x ∷ xs) names =
    has_folded q xs (insert_key cmp_name names x)
    ∙ ap (λ b. has xs q || b) (has_with q x names)
    ∙ moved (is_same_measure q x) (has xs q) (has names q)

module _ (P : CellName → Type 0) where
  each_with : (k : CellName) (names : List CellName) → P k → Each P names → Each P (insert_key cmp_name names k)
  each_with k [] p a = (p, tt)
  each_with k (x ∷ xs) p a = by (cmp_name k x) (each_with k xs p a.1)
    where
      by : (r : Ordering) → Each P (insert_key cmp_name xs k)
          → Each P (match_ordering r (k ∷ x ∷ xs) (x ∷ xs) (x ∷ insert_key cmp_name xs k))
      by Less h = (p, a)
      by Equal h = a
      by Greater h = (a.0, h)

  each_folded : (xs names : List CellName) → Each P xs → Each P names → Each P (fold (insert_key cmp_name) names xs)
  each_folded [] names a b = b
  each_folded (x ∷ xs) names a b = each_folded xs (insert_key cmp_name names x) a.1 (each_with x names a.0 b)

-- what a test keeps passes it
each_passes : {X : Type 0} (p : X → Bool) (xs : List X) → Each (λ x. p x ≡ true) (filter p xs)
each_passes p [] = tt
each_passes {X} p (x ∷ xs) = by (p x) refl (each_passes p xs)
  where
    by : (b : Bool) → p x ≡ b → Each (λ x. p x ≡ true) (filter p xs) → Each (λ x. p x ≡ true) (cond b (x ∷ filter p xs) (filter p xs))
    by true e rest = (e, rest)
    by false e rest = rest

-- what each of these names has, one that is among them has
each_at : (P : CellName → Type 0) (m : CellName) (xs : List CellName) → Each P xs → has xs m ≡ true → P m
each_at P m [] a h = cc
each_at P m (x ∷ xs) a h =
    elim (or_cases (is_same_measure m x) (has xs m) h) [
      | inl e ↦ subst P (sym (same_name_is m x e)) a.0
      | inr l ↦ each_at P m xs a.1 l
    ]

each_both : {X : Type 0} (P Q : X → Type 0) (xs : List X) → Each P xs → Each Q xs → Each (λ x. P x × Q x) xs
each_both P Q [] a b = tt
each_both P Q (x ∷ xs) a b = ((a.0, b.0), each_both P Q xs a.1 b.1)

each_more : (x : CellName) (all xs : List CellName) → Each (λ c. has all c ≡ true) xs → Each (λ c. has (x ∷ all) c ≡ true) xs
each_more x all [] a = tt
each_more x all (y ∷ ys) a = (or_right (is_same_measure y x) (has all y) a.0, each_more x all ys a.1)

each_there : (xs : List CellName) → Each (λ c. has xs c ≡ true) xs
each_there [] = tt
each_there (x ∷ xs) = (or_left (is_same_measure x x) (has xs x) (name_itself x), each_more x xs xs (each_there xs))

module _ (model : Model) (shape : PartShape) (target : CellName) where
  abbrev given_of : List CellName
  given_of = target ∷ flat_map (measures_looked_at model shape) (assigned_names shape)

  abbrev sources : List CellName
  sources = filter (is_source model shape target) (assigned_names shape)

  -- the derived sources go by this order
  abbrev pub cmp_derived : CellName → CellName → Ordering
  cmp_derived = then_cmp (on (round_of model shape) nat_cmp) cmp_name

  pub derived_total : IsTotalOrder cmp_derived
  derived_total =
      then_total (on_total (round_of model shape) nat_cmp_total)
      (then_total (on_total (λ (c : CellName). c.key) key_total) (on_total (λ (c : CellName). c.measure) nat_cmp_total))

  pub derived_rise : Rising cmp_derived (derived_sources model shape target)
  derived_rise = rising_ascending derived_total sources

  -- each of them is an assigned source, and each of the given ones is given
  pub derived_assigned : Each (λ c. (is_source model shape target c ≡ true) × (has (assigned_names shape) c ≡ true))
      (derived_sources model shape target)
  derived_assigned =
      each_ascending (λ (c : CellName). (is_source model shape target c ≡ true) × (has (assigned_names shape) c ≡ true)) cmp_derived sources
      (each_both (λ (c : CellName). is_source model shape target c ≡ true) (λ c. has (assigned_names shape) c ≡ true) sources
      (each_passes (is_source model shape target) (assigned_names shape))
      (each_kept (λ (c : CellName). has (assigned_names shape) c ≡ true) (is_source model shape target) (assigned_names shape)
      (each_there (assigned_names shape))))

  pub given_pass : Each (λ c. is_given model shape target c ≡ true) (given_sources model shape target)
  given_pass =
      each_folded (λ (c : CellName). is_given model shape target c ≡ true) (filter (is_given model shape target) given_of) []
      (each_passes (is_given model shape target) given_of) tt

  -- what is looked at, and the target, is all that can be a source
  source_looked : (m : CellName) → is_source model shape target m ≡ true → has given_of m ≡ true
  source_looked =
      (least_sources model shape target).1 (has given_of) (
        or_left (is_same_measure target target) (has (flat_map (measures_looked_at model shape) (assigned_names shape)) target)
            (name_itself target),
        λ c h. all_from (has given_of) (measures_looked_at model shape c) (looked c),
      )
    where
      looked : (c m : CellName) → has (measures_looked_at model shape c) m ≡ true → has given_of m ≡ true
      looked c m h =
          or_right (is_same_measure m target) (has (flat_map (measures_looked_at model shape) (assigned_names shape)) m)
          (has_flat (measures_looked_at model shape) m c (assigned_names shape) h (looker_assigned model shape c m h))

  -- a source is among the given ones or the derived ones
  pub source_there : (m : CellName) → is_source model shape target m ≡ true
      → has (given_sources model shape target ++ derived_sources model shape target) m ≡ true
  source_there m s =
      list_any-append (is_same_measure m) (given_sources model shape target) (derived_sources model shape target)
      ∙ by (has (assigned_names shape) m) refl
    where
      by : (b : Bool) → has (assigned_names shape) m ≡ b
          → (has (given_sources model shape target) m || has (derived_sources model shape target) m) ≡ true
      by true e =
          or_right (has (given_sources model shape target) m) (has (derived_sources model shape target) m)
          (has_ascending cmp_derived m sources ∙ has_kept (is_source model shape target) m (assigned_names shape) s e)
      by false e =
          or_left (has (given_sources model shape target) m) (has (derived_sources model shape target) m)
          (has_folded m (filter (is_given model shape target) given_of) []
          ∙ or_left (has (filter (is_given model shape target) given_of) m) false
          (has_kept (is_given model shape target) m given_of
          (and_from (is_none (rule_at shape (Measure m))) (is_source model shape target m) (unruled_alike shape m ∙ ap not e) s)
          (source_looked m s)))

  -- and nothing else is
  there_source : (m : CellName) → has (given_sources model shape target ++ derived_sources model shape target) m ≡ true
      → is_source model shape target m ≡ true
  there_source m h =
      elim (or_cases (has (given_sources model shape target) m) (has (derived_sources model shape target) m)
      (sym (list_any-append (is_same_measure m) (given_sources model shape target) (derived_sources model shape target)) ∙ h)) [
        | inl g ↦ (and_parts (is_none (rule_at shape (Measure m))) (is_source model shape target m)
            (each_at (λ (c : CellName). is_given model shape target c ≡ true) m (given_sources model shape target) given_pass g)).1
        | inr d ↦ (each_at (λ (c : CellName). (is_source model shape target c ≡ true) × (has (assigned_names shape) c ≡ true)) m
            (derived_sources model shape target) derived_assigned d).0
      ]

  pub has_sources : (input : Cells) (c : CellName) → DerivationHasSources model shape input target c
  has_sources input c =
      among_steps model shape input c (given_sources model shape target ++ derived_sources model shape target)
      ∙ told_alike (has (given_sources model shape target ++ derived_sources model shape target) c) (is_source model shape target c)
      (there_source c) (source_there c)
