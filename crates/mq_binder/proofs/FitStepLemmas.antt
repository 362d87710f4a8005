-- Steps that gave a value: what each of them gave, and what was asked on the way.
use Rattle.std.proofs.Common.{◌≡◌, ℕ, suc, ◌+◌, ◌≤◌, List, [], ◌∷◌, ◌++◌, length, Bool, true, false, not, ◌&&◌, Option, Some, None, Result, Ok, Err, refl, sym, ap, ◌∙◌, arith}
use Rattle.std.specs.Prelude.{nat_lt, if◌then◌else◌}
use Rattle.std.specs.List.{list_all}
use Rattle.std.specs.Option.{ok_or}
use Rattle.std.proofs.lemmas.Bool.Decides.{nat_tests}
use Rattle.mq_values.specs.declared.faults.Refused.{Refused}
use Rattle.mq_ir.specs.Results.{◌>>=◌, each}
use Rattle.mq_bind_expr.specs.CellNodes.{unless_misuse}
use Rattle.mq_bind_scopes.specs.Refusals.{refused_where}
use Rattle.mq_bind_expr.specs.Steps.{each_behind, each_from}

pub record Went {A B : Type 0} (r : Result A Refused) (f : A → Result B Refused) (y : B) : Type 0 where
  pub value : A
  pub first : r ≡ Ok value
  pub after : f value ≡ Ok y

pub went : {A B : Type 0} (r : Result A Refused) (f : A → Result B Refused) (y : B) → (r >>= f) ≡ Ok y → Went r f y
went (Ok x) f y h = record { value = x; first = refl; after = h }
went (Err e) f y h = absurd cc

pub record Passed {A : Type 0} (test : Bool) (next : Result A Refused) (x : A) : Type 0 where
  pub holds_not : test ≡ false
  pub after : next ≡ Ok x

pub passed : {A : Type 0} (test : Bool) (refusal : Refused) (next : Result A Refused) (x : A) → refused_where test refusal next ≡ Ok x → Passed test next x
passed true refusal next x h = absurd cc
passed false refusal next x h = record { holds_not = refl; after = h }

pub unmisused : {A : Type 0} (number : Option ℕ) (next : Result A Refused) (x : A) → unless_misuse number next ≡ Ok x → (number ≡ None) × (next ≡ Ok x)
unmisused None next x h = (refl, h)
unmisused (Some n) next x h = absurd cc

-- neither of two misuses
pub neither : (a b : Bool) (m n : ℕ) → (if a then Some m else if b then Some n else None) ≡ None → (a ≡ false) × (b ≡ false)
neither true b m n h = absurd cc
neither false true m n h = absurd cc
neither false false m n h = (refl, refl)

pub ok_is : {A : Type 0} (x y : A) → ◌≡◌ {A = Result A Refused} (Ok x) (Ok y) → x ≡ y
ok_is x y h = cc

head_is : {A : Type 0} (x y : A) (xs ys : List A) → (x ∷ xs) ≡ (y ∷ ys) → x ≡ y
head_is x y xs ys h = cc

tail_is : {A : Type 0} (x y : A) (xs ys : List A) → (x ∷ xs) ≡ (y ∷ ys) → xs ≡ ys
tail_is x y xs ys h = cc

not_nil : {A P : Type 0} (x : A) (xs : List A) → (x ∷ xs) ≡ [] → P
not_nil x xs h = absurd cc

nothing : {A P : Type 0} (x : A) (xs : List A) → ◌≡◌ {A = Result (List A) Refused} (Ok []) (Ok (x ∷ xs)) → P
nothing x xs h = absurd cc

pub some_is : {A : Type 0} (o : Option A) (e : Refused) (x : A) → ok_or o e ≡ Ok x → o ≡ Some x
some_is None e x h = absurd cc
some_is (Some y) e x h = ap Some (ok_is y x h)

pub just_is : {A : Type 0} (x y : A) → ◌≡◌ {A = Option A} (Some x) (Some y) → x ≡ y
just_is x y h = cc

pub was_not : (b : Bool) → not b ≡ false → b ≡ true
was_not true h = refl
was_not false h = absurd cc

pub both : (a b : Bool) → a ≡ true → b ≡ true → (a && b) ≡ true
both a b h k = ap (λ x. x && b) h ∙ k

pub left_of : (a b : Bool) → (a && b) ≡ true → a ≡ true
left_of true b h = refl
left_of false b h = absurd cc

pub right_of : (a b : Bool) → (a && b) ≡ true → b ≡ true
right_of true b h = h
right_of false b h = absurd cc

-- what holds of each item of a list, and of each with its number
abbrev pub Each : {A : Type 0} → (A → Type 0) → List A → Type 0
Each P [] = Unit {0}
Each P (x ∷ xs) = P x × Each P xs

abbrev pub EachFrom : {A : Type 0} → (ℕ → A → Type 0) → ℕ → List A → Type 0
EachFrom P n [] = Unit {0}
EachFrom P n (x ∷ xs) = P n x × EachFrom P (n + 1) xs

pub each_gives : {A B : Type 0} (f : A → Result B Refused) (Q : A → Type 0) (P : B → Type 0) → ((x : A) → Q x → (y : B) → f x ≡ Ok y → P y)
    → (xs : List A) (ys : List B) → Each Q xs → each f xs ≡ Ok ys → Each P ys
each_gives f Q P step [] [] q h = tt
each_gives f Q P step [] (y ∷ ys) q h = nothing y ys h
each_gives f Q P step (x ∷ xs) [] q h =
    let w = went (f x) (λ y. each f xs >>= (λ ys. Ok (y ∷ ys))) [] h in
    let v = went (each f xs) (λ ys. Ok (w.value ∷ ys)) [] w.after in
    not_nil w.value v.value (ok_is (w.value ∷ v.value) [] v.after)
each_gives f Q P step (x ∷ xs) (z ∷ zs) q h =
    let w = went (f x) (λ y. each f xs >>= (λ ys. Ok (y ∷ ys))) (z ∷ zs) h in
    let v = went (each f xs) (λ ys. Ok (w.value ∷ ys)) (z ∷ zs) w.after in
    let e = ok_is (w.value ∷ v.value) (z ∷ zs) v.after in
    let a : f x ≡ Ok z = w.first ∙ ap Ok (head_is w.value z v.value zs e) in
    let b : each f xs ≡ Ok zs = v.first ∙ ap Ok (tail_is w.value z v.value zs e) in
    (step x q.0 z a, each_gives f Q P step xs zs q.1 b)

pub each_long : {A B : Type 0} (f : A → Result B Refused) (xs : List A) (ys : List B) → each f xs ≡ Ok ys → length ys ≡ length xs
each_long f [] ys h = ap length (sym (ok_is [] ys h))
each_long f (x ∷ xs) ys h =
    let w = went (f x) (λ y. each f xs >>= (λ ys. Ok (y ∷ ys))) ys h in
    let v = went (each f xs) (λ ys. Ok (w.value ∷ ys)) ys w.after in
    let n = each_long f xs v.value v.first in
    ap length (sym (ok_is (w.value ∷ v.value) ys v.after)) ∙ ap suc n

pub from_gives : {A B : Type 0} (f : ℕ → A → Result B Refused) (Q : A → Type 0) (P : ℕ → B → Type 0) → ((n : ℕ) (x : A) → Q x → (y : B) → f n x ≡ Ok y → P n y)
    → (n : ℕ) (xs : List A) (ys : List B) → Each Q xs → each_from f n xs ≡ Ok ys → EachFrom P n ys
from_gives f Q P step n [] [] q h = tt
from_gives f Q P step n [] (y ∷ ys) q h = nothing y ys h
from_gives f Q P step n (x ∷ xs) [] q h =
    let w = went (f n x) (λ y. each_from f (n + 1) xs >>= (λ ys. Ok (y ∷ ys))) [] h in
    let v = went (each_from f (n + 1) xs) (λ ys. Ok (w.value ∷ ys)) [] w.after in
    not_nil w.value v.value (ok_is (w.value ∷ v.value) [] v.after)
from_gives f Q P step n (x ∷ xs) (z ∷ zs) q h =
    let w = went (f n x) (λ y. each_from f (n + 1) xs >>= (λ ys. Ok (y ∷ ys))) (z ∷ zs) h in
    let v = went (each_from f (n + 1) xs) (λ ys. Ok (w.value ∷ ys)) (z ∷ zs) w.after in
    let e = ok_is (w.value ∷ v.value) (z ∷ zs) v.after in
    let a : f n x ≡ Ok z = w.first ∙ ap Ok (head_is w.value z v.value zs e) in
    let b : each_from f (n + 1) xs ≡ Ok zs = v.first ∙ ap Ok (tail_is w.value z v.value zs e) in
    (step n x q.0 z a, from_gives f Q P step (n + 1) xs zs q.1 b)

pub from_long : {A B : Type 0} (f : ℕ → A → Result B Refused) (n : ℕ) (xs : List A) (ys : List B) → each_from f n xs ≡ Ok ys → length ys ≡ length xs
from_long f n [] ys h = ap length (sym (ok_is [] ys h))
from_long f n (x ∷ xs) ys h =
    let w = went (f n x) (λ y. each_from f (n + 1) xs >>= (λ ys. Ok (y ∷ ys))) ys h in
    let v = went (each_from f (n + 1) xs) (λ ys. Ok (w.value ∷ ys)) ys w.after in
    let m = from_long f (n + 1) xs v.value v.first in
    ap length (sym (ok_is (w.value ∷ v.value) ys v.after)) ∙ ap suc m

-- where each holds below a number, and no more items stand there, each holds
pub all_below : {A : Type 0} (P : A → Type 0) (total n : ℕ) (xs : List A) → n + length xs ≤ total → EachFrom (λ m x. nat_lt m total ≡ true → P x) n xs → Each P xs
all_below P total n [] h e = tt
all_below P total n (x ∷ xs) h e =
    let lt : nat_lt n total ≡ true = grind (arith, nat_tests) in
    (e.0 lt, all_below P total (n + 1) xs (omega (arith, h)) e.1)

pub behind_gives : {A B K : Type 0} (f : List K → A → Result B Refused) (key : B → K) (Q : A → Type 0) (P : B → Type 0) → ((earlier : List K) (x : A) → Q x → (y : B) → f earlier x ≡ Ok y → P y)
    → (earlier : List K) (xs : List A) (ys : List B) → Each Q xs → each_behind f key earlier xs ≡ Ok ys → Each P ys
behind_gives f key Q P step earlier [] [] q h = tt
behind_gives f key Q P step earlier [] (y ∷ ys) q h = nothing y ys h
behind_gives f key Q P step earlier (x ∷ xs) [] q h =
    let w = went (f earlier x) (λ y. each_behind f key (earlier ++ key y ∷ []) xs >>= (λ ys. Ok (y ∷ ys))) [] h in
    let v = went (each_behind f key (earlier ++ key w.value ∷ []) xs) (λ ys. Ok (w.value ∷ ys)) [] w.after in
    not_nil w.value v.value (ok_is (w.value ∷ v.value) [] v.after)
behind_gives f key Q P step earlier (x ∷ xs) (z ∷ zs) q h =
    let w = went (f earlier x) (λ y. each_behind f key (earlier ++ key y ∷ []) xs >>= (λ ys. Ok (y ∷ ys))) (z ∷ zs) h in
    let v = went (each_behind f key (earlier ++ key w.value ∷ []) xs) (λ ys. Ok (w.value ∷ ys)) (z ∷ zs) w.after in
    let e = ok_is (w.value ∷ v.value) (z ∷ zs) v.after in
    let a : f earlier x ≡ Ok z = w.first ∙ ap Ok (head_is w.value z v.value zs e) in
    let b : each_behind f key (earlier ++ key w.value ∷ []) xs ≡ Ok zs = v.first ∙ ap Ok (tail_is w.value z v.value zs e) in
    (step earlier x q.0 z a, behind_gives f key Q P step (earlier ++ key w.value ∷ []) xs zs q.1 b)

-- what holds of each item, told by a test of each
pub each_all : {A : Type 0} (test : A → Bool) (xs : List A) → list_all test xs ≡ true → Each (λ (x : A). test x ≡ true) xs
each_all test [] h = tt
each_all test (x ∷ xs) h = (left_of (test x) (list_all test xs) h, each_all test xs (right_of (test x) (list_all test xs) h))

pub all_each : {A : Type 0} (test : A → Bool) (xs : List A) → Each (λ (x : A). test x ≡ true) xs → list_all test xs ≡ true
all_each test [] e = refl
all_each test (x ∷ xs) e = both (test x) (list_all test xs) e.0 (all_each test xs e.1)
