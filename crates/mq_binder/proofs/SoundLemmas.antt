-- What is asked of a bound expression where it stands: how that of its parts goes together.
use Rattle.std.specs.Prelude.{◌≡◌, List, [], ◌∷◌, ◌++◌, Bool, true, false, not, ◌&&◌, ◌||◌, Option, Some, None, flat_map, refl, if◌then◌else◌}
use Rattle.std.specs.List.{list_all, list_any}
use Rattle.std.specs.Option.{option_and_then, option_map}
use Rattle.std.proofs.Common.{sym, ap, ◌∙◌}
use Rattle.std.proofs.lemmas.List.Folds.{list_all-append}
use Rattle.mq_ir.specs.declared.expression.Expr.{Expr}
use Rattle.mq_ir.specs.declared.expression.Test.{Test}
use Rattle.mq_ir.specs.FitsExpression.{Scope, expression_fits, is_inner, test_fits}
use Rattle.mq_ir.specs.Looks.{Leaves, leaves_of}
use Rattle.mq_bind_expr.specs.Dimensions.{names_dimension}
use Rattle.mq_bind_expr.specs.PlaceLaws.{tests_all}
use Rattle.mq_bind_expr.specs.PlaceTests.{is_free, negated_test, test_of}
use Rattle.mq_binder.proofs.FitsLemmas.{flat_fit, not_fits}
use Rattle.mq_binder.proofs.FitStepLemmas.{Each, both, just_is, left_of, right_of}

-- no two of these
pub true_is_false : {P : Type 0} → true ≡ false → P
true_is_false h = absurd cc

pub clash : {P : Type 0} (b : Bool) → b ≡ false → b ≡ true → P
clash b h k = true_is_false (sym k ∙ h)

pub no_test : {A P : Type 0} (o : Option A) (x : A) → o ≡ None → o ≡ Some x → P
no_test None x h k = absurd cc
no_test (Some y) x h k = absurd cc

-- what gave a value
pub mapped : {A B : Type 0} (f : A → B) (o : Option A) (y : B) → option_map f o ≡ Some y → (x : A) × (o ≡ Some x) × (f x ≡ y)
mapped f None y h = absurd cc
mapped f (Some x) y h = (x, refl, just_is (f x) y h)

pub chained : {A B : Type 0} (f : A → Option B) (o : Option A) (y : B) → option_and_then f o ≡ Some y → (x : A) × (o ≡ Some x) × (f x ≡ Some y)
chained f None y h = absurd cc
chained f (Some x) y h = (x, refl, h)

pub chosen : {A : Type 0} (b : Bool) (x y : A) → (if b then Some x else None) ≡ Some y → (b ≡ true) × (x ≡ y)
chosen true x y h = (refl, just_is x y h)
chosen false x y h = absurd cc

pub is_not : (b : Bool) → not b ≡ true → b ≡ false
is_not true h = absurd cc
is_not false h = refl

-- The test holds, but where a condition of a place (`c`) names its dimension; and the leaves may stand inside a leaf, where that is asked (`i`).
abbrev pub Sound : Bool → Bool → Bool → Bool → Leaves → Type 0
Sound c i names fits leaves = ((c && names) ≡ false → fits ≡ true) × (i ≡ true → list_all is_inner leaves ≡ true)

pub as_sound : (c i n m a b : Bool) (ls ms : Leaves) → m ≡ n → b ≡ a → ms ≡ ls → Sound c i n a ls → Sound c i m b ms
as_sound c i n m a b ls ms f g k s = (λ h. g ∙ s.0 (ap (λ x. c && x) (sym f) ∙ h), λ h. ap (list_all is_inner) k ∙ s.1 h)

names_left : (c n m : Bool) → (c && (n || m)) ≡ false → (c && n) ≡ false
names_left true true m h = h
names_left true false m h = refl
names_left false n m h = refl

names_right : (c n m : Bool) → (c && (n || m)) ≡ false → (c && m) ≡ false
names_right true true m h = true_is_false h
names_right true false m h = h
names_right false n m h = refl

pub join : (c i n m a b : Bool) (ls ms : Leaves) → Sound c i n a ls → Sound c i m b ms → Sound c i (n || m) (a && b) (ls ++ ms)
join c i n m a b ls ms s t = (
  λ h. both a b (s.0 (names_left c n m h)) (t.0 (names_right c n m h)),
  λ h. list_all-append is_inner ls ms ∙ both (list_all is_inner ls) (list_all is_inner ms) (s.1 h) (t.1 h),
)

-- with a test that asks nothing of names and leaves
pub also : (c i n a b : Bool) (ls : Leaves) → Sound c i n a ls → b ≡ true → Sound c i n (a && b) ls
also c i n a b ls s h = (λ k. both a b (s.0 k) h, s.1)

pub all_sound : {A : Type 0} (c i : Bool) (n f : A → Bool) (g : A → Leaves) (xs : List A) → Each (λ (x : A). Sound c i (n x) (f x) (g x)) xs → Sound c i (list_any n xs) (list_all f xs) (flat_map g xs)
all_sound c i n f g [] h = (λ k. refl, λ k. refl)
all_sound c i n f g (x ∷ xs) h = join c i (n x) (list_any n xs) (f x) (list_all f xs) (g x) (flat_map g xs) h.0 (all_sound c i n f g xs h.1)

-- where it may stand inside a leaf, the test that it makes of a dimension fits
abbrev pub TestFits : Scope → Bool → Expr → Type 0
TestFits s i x = i ≡ true → (t : Test) → test_of x ≡ Some t → test_fits s t ≡ true

abbrev pub SoundExpr : Scope → Bool → Bool → Expr → Type 0
SoundExpr s c i x = Sound c i (names_dimension x) (expression_fits s x) (leaves_of x)

pub record Fine (s : Scope) (c i : Bool) (x : Expr) : Type 0 where
  pub sound : SoundExpr s c i x
  pub tests : TestFits s i x

pub untested : (s : Scope) (i : Bool) (x : Expr) → test_of x ≡ None → TestFits s i x
untested s i x h k t g = no_test (test_of x) t h g

-- an operand that does not name the dimension
pub free_fits : (s : Scope) (c i : Bool) (x : Expr) → Fine s c i x → i ≡ true → is_free x ≡ true → flat_fit s x ≡ true
free_fits s c i x f k h =
    let n : (c && names_dimension x) ≡ false = ap (λ b. c && b) (is_not (names_dimension x) h) ∙ and_false c in
    both (expression_fits s x) (list_all is_inner (leaves_of x)) (f.sound.0 n) (f.sound.1 k)
  where
    and_false : (c : Bool) → (c && false) ≡ false
    and_false true = refl
    and_false false = refl

-- where no condition of a place stands around
pub fits_of : (s : Scope) (c i : Bool) (x : Expr) → Fine s c i x → c ≡ false → expression_fits s x ≡ true
fits_of s c i x f h = f.sound.0 (ap (λ b. b && names_dimension x) h)

pub flat_of : (s : Scope) (c i : Bool) (x : Expr) → Fine s c i x → c ≡ false → i ≡ true → flat_fit s x ≡ true
flat_of s c i x f h k = both (expression_fits s x) (list_all is_inner (leaves_of x)) (fits_of s c i x f h) (f.sound.1 k)

pub negated_fits : (s : Scope) (negated : Bool) (t u : Test) → negated_test negated t ≡ u → test_fits s t ≡ true → test_fits s u ≡ true
negated_fits s true t u h f = ap (test_fits s) (sym h) ∙ not_fits s t ∙ f
negated_fits s false t u h f = ap (test_fits s) (sym h) ∙ f

pub all_tests_fit : (s : Scope) (c i : Bool) (xs : List Expr) (ts : List Test) → Each (Fine s c i) xs → i ≡ true → tests_all xs ≡ Some ts → list_all (test_fits s) ts ≡ true
all_tests_fit s c i [] ts f k h = ap (list_all (test_fits s)) (sym (just_is [] ts h))
all_tests_fit s c i (x ∷ xs) ts f k h =
    let a = chained (λ t. option_map (λ (ts : List Test). t ∷ ts) (tests_all xs)) (test_of x) ts h in
    let b = mapped (λ (ts : List Test). a.0 ∷ ts) (tests_all xs) ts a.2 in
    ap (list_all (test_fits s)) (sym b.2) ∙ both (test_fits s a.0) (list_all (test_fits s) b.0) (f.0.tests k a.0 a.1) (all_tests_fit s c i xs b.0 f.1 k b.1)

pub all_free_fit : (s : Scope) (c i : Bool) (xs : List Expr) → Each (Fine s c i) xs → i ≡ true → list_all is_free xs ≡ true → list_all (flat_fit s) xs ≡ true
all_free_fit s c i [] f k h = refl
all_free_fit s c i (x ∷ xs) f k h =
    both (flat_fit s x) (list_all (flat_fit s) xs) (free_fits s c i x f.0 k (left_of (is_free x) (list_all is_free xs) h))
    (all_free_fit s c i xs f.1 k (right_of (is_free x) (list_all is_free xs) h))
