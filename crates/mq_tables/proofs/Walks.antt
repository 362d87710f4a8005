-- A loop that takes steps of which each may fail, one for each item of a list.
use Rattle.std.proofs.Common.{◌≡◌, ℕ, zero, suc, ◌+◌, ◌<◌, ◌≤◌, List, [], ◌∷◌, ◌++◌, drop, length, get_or, Result, Ok, Err, Some, None, refl, sym, ap, ◌∙◌, append_assoc, arith, add-one, drop-cons}
use Rattle.std.proofs.lemmas.List.{append-nil, drop_all}
use Rattle.std.proofs.lemmas.Option.{get_or_from_slice_get, slice_get_within}
use Rattle.std.specs.Prelude.{slice_get}
use Rattle.std.specs.List.{enumerate_from, zip}
use Rattle.mq_values.specs.Answers.{Gives}
use Rattle.mq_values.specs.declared.memory.Fail.{Fail}
use Rattle.mq_values.specs.declared.memory.Fail.TheVariants as fail
use Rattle.mq_ir.specs.Results.{◌>>=◌, each}

-- where each fault of the inner call is the outer one's
pub exit : {T U E : Type 0} (inner : Result T E) (outer : Result U E) (e : Fail E) → Gives {T = T} (Err e) inner → ((fault : E) → inner ≡ Err fault → outer ≡ Err fault) → Gives {T = U} (Err e) outer
exit inner outer (fail.Cause fault) h f = f fault h
exit inner outer fail.Memory h f = tt

-- the items before `rest` gave ys
abbrev pub IsLeft : {A B E : Type 0} → (A → Result B E) → List A → List A → List B → Type 0
IsLeft f all rest ys = each f all ≡ (each f rest >>= (λ zs. Ok (ys ++ zs)))

started : {B E : Type 0} (r : Result (List B) E) → r ≡ (r >>= (λ zs. Ok zs))
started (Ok ys) = refl
started (Err fault) = refl

moved : {B E : Type 0} (r : Result (List B) E) (ys : List B) (y : B) → ((r >>= (λ zs. Ok (y ∷ zs))) >>= (λ zs. Ok (ys ++ zs))) ≡ (r >>= (λ zs. Ok ((ys ++ y ∷ []) ++ zs)))
moved (Ok zs) ys y = ap Ok (sym (append_assoc ys (y ∷ []) zs))
moved (Err fault) ys y = refl

pub next_left : {A B E : Type 0} (f : A → Result B E) (all before rest : List A) (ys : List B) (x : A) (y : B) → before ≡ x ∷ rest → f x ≡ Ok y → IsLeft f all before ys → IsLeft f all rest (ys ++ y ∷ [])
next_left f all before rest ys x y e g w =
    w
    ∙ ap (λ r. each f r >>= (λ zs. Ok (ys ++ zs))) e
    ∙ ap (λ o. (o >>= (λ y. each f rest >>= (λ ys. Ok (y ∷ ys)))) >>= (λ zs. Ok (ys ++ zs))) g
    ∙ moved (each f rest) ys y

pub none_left : {A B E : Type 0} (f : A → Result B E) (all rest : List A) (ys : List B) → rest ≡ [] → IsLeft f all rest ys → each f all ≡ Ok ys
none_left f all rest ys e w = w ∙ ap (λ r. each f r >>= (λ zs. Ok (ys ++ zs))) e ∙ ap Ok (append-nil ys)

pub fault_left : {A B E : Type 0} (f : A → Result B E) (all before rest : List A) (ys : List B) (x : A) (fault : E) → before ≡ x ∷ rest → f x ≡ Err fault → IsLeft f all before ys → each f all ≡ Err fault
fault_left f all before rest ys x fault e g w =
    w
    ∙ ap (λ r. each f r >>= (λ zs. Ok (ys ++ zs))) e
    ∙ ap (λ o. (o >>= (λ y. each f rest >>= (λ ys. Ok (y ∷ ys)))) >>= (λ zs. Ok (ys ++ zs))) g

-- a loop over a list goes on at its item number i
pub next_item : {A : Type 0} (xs : List A) (i : ℕ) (x : A) → i < length xs → x ≡ get_or xs i x → drop i xs ≡ x ∷ drop (i + 1) xs
next_item xs i x h e = drop-cons xs i x h ∙ (λ j. sym e j ∷ drop (sym (add-one i) j) xs)

-- the first i items gave ys
pub record Walked {A B E : Type 0} (f : A → Result B E) (xs : List A) (i : ℕ) (ys : List B) : Type 0 where
  pub is : IsLeft f xs (drop i xs) ys

pub walk_start : {A B E : Type 0} (f : A → Result B E) (xs : List A) (ys : List B) → ys ≡ [] → Walked f xs 0 ys
walk_start f xs ys e = record { is = started (each f xs) ∙ ap (λ l. each f xs >>= (λ zs. Ok (l ++ zs))) (sym e) }

pub walk_next : {A B E : Type 0} (f : A → Result B E) (xs : List A) (i : ℕ) (ys after : List B) (x : A) (y : B) → i < length xs → x ≡ get_or xs i x → f x ≡ Ok y → after ≡ ys ++ y ∷ [] → Walked f xs i ys → Walked f xs (i + 1) after
walk_next f xs i ys after x y h e g a w = record {
  is = next_left f xs (drop i xs) (drop (i + 1) xs) ys x y (next_item xs i x h e) g w.is ∙ ap (λ l. each f (drop (i + 1) xs) >>= (λ zs. Ok (l ++ zs))) (sym a);
}

pub walk_end : {A B E : Type 0} (f : A → Result B E) (xs : List A) (i : ℕ) (ys : List B) → length xs ≤ i → Walked f xs i ys → each f xs ≡ Ok ys
walk_end f xs i ys h w = none_left f xs (drop i xs) ys (drop_all i xs h) w.is

pub walk_fault : {A B E : Type 0} (f : A → Result B E) (xs : List A) (i : ℕ) (ys : List B) (x : A) (fault : E) → i < length xs → x ≡ get_or xs i x → f x ≡ Err fault → Walked f xs i ys → each f xs ≡ Err fault
walk_fault f xs i ys x fault h e g w = fault_left f xs (drop i xs) (drop (i + 1) xs) ys x fault (next_item xs i x h e) g w.is

-- the same where the items are numbered from 1 on
pub record Numbered {A B E : Type 0} (f : ℕ × A → Result B E) (xs : List A) (i : ℕ) (ys : List B) : Type 0 where
  pub is : IsLeft f (enumerate_from 1 xs) (enumerate_from (i + 1) (drop i xs)) ys

next_numbered : {A : Type 0} (xs : List A) (i : ℕ) (x : A) → i < length xs → x ≡ get_or xs i x
    → enumerate_from (i + 1) (drop i xs) ≡ (i + 1, x) ∷ enumerate_from (i + 1 + 1) (drop (i + 1) xs)
next_numbered xs i x h e = ap (enumerate_from (i + 1)) (next_item xs i x h e)

pub number_start : {A B E : Type 0} (f : ℕ × A → Result B E) (xs : List A) (ys : List B) → ys ≡ [] → Numbered f xs 0 ys
number_start f xs ys e = record { is = started (each f (enumerate_from 1 xs)) ∙ ap (λ l. each f (enumerate_from 1 xs) >>= (λ zs. Ok (l ++ zs))) (sym e) }

pub number_next : {A B E : Type 0} (f : ℕ × A → Result B E) (xs : List A) (i : ℕ) (ys after : List B) (x : A) (y : B) → i < length xs → x ≡ get_or xs i x → f (i + 1, x) ≡ Ok y → after ≡ ys ++ y ∷ [] → Numbered f xs i ys → Numbered f xs (i + 1) after
number_next {A = A} f xs i ys after x y h e g a w =
    let rest : List (ℕ × A) = enumerate_from (i + 1 + 1) (drop (i + 1) xs) in
    record {
      is =
          next_left f (enumerate_from 1 xs) (enumerate_from (i + 1) (drop i xs)) rest ys (i + 1, x) y (next_numbered xs i x h e) g w.is
          ∙ ap (λ l. each f rest >>= (λ zs. Ok (l ++ zs))) (sym a);
    }

pub number_end : {A B E : Type 0} (f : ℕ × A → Result B E) (xs : List A) (i : ℕ) (ys : List B) → length xs ≤ i → Numbered f xs i ys → each f (enumerate_from 1 xs) ≡ Ok ys
number_end f xs i ys h w = none_left f (enumerate_from 1 xs) (enumerate_from (i + 1) (drop i xs)) ys (ap (enumerate_from (i + 1)) (drop_all i xs h)) w.is

pub number_fault : {A B E : Type 0} (f : ℕ × A → Result B E) (xs : List A) (i : ℕ) (ys : List B) (x : A) (fault : E) → i < length xs → x ≡ get_or xs i x → f (i + 1, x) ≡ Err fault → Numbered f xs i ys → each f (enumerate_from 1 xs) ≡ Err fault
number_fault f xs i ys x fault h e g w =
    fault_left f (enumerate_from 1 xs) (enumerate_from (i + 1) (drop i xs)) (enumerate_from (i + 1 + 1) (drop (i + 1) xs)) ys (i + 1, x) fault (next_numbered xs i x h e) g w.is

-- what stands at a place
at_place : {A : Type 0} (xs : List A) (i : ℕ) (x : A) → slice_get xs i ≡ Some x → drop i xs ≡ x ∷ drop (i + 1) xs
at_place xs i x e = next_item xs i x (slice_get_within xs i x e) (sym (get_or_from_slice_get xs i x x e))

past_place : {A : Type 0} (xs : List A) (i : ℕ) → slice_get xs i ≡ None → drop i xs ≡ []
past_place [] i e = drop_all i [] (omega arith)
past_place (x ∷ xs) zero e = absurd (cc)
past_place (x ∷ xs) (suc i) e = past_place xs i e

pub past_default : {A : Type 0} (xs : List A) (i : ℕ) (d : A) → slice_get xs i ≡ None → get_or xs i d ≡ d
past_default [] i d e = refl
past_default (x ∷ xs) zero d e = absurd (cc)
past_default (x ∷ xs) (suc i) d e = past_default xs i d e

zip_none : {A B : Type 0} (xs : List A) → ◌≡◌ {A = List (A × B)} (zip xs []) []
zip_none [] = refl
zip_none (x ∷ xs) = refl

-- the same over two lists side by side
pub record Paired {A C B E : Type 0} (f : A × C → Result B E) (cs : List A) (xs : List C) (i : ℕ) (ys : List B) : Type 0 where
  pub is : IsLeft f (zip cs xs) (zip (drop i cs) (drop i xs)) ys

next_pair : {A C : Type 0} (cs : List A) (xs : List C) (i : ℕ) (c : A) (x : C) → slice_get cs i ≡ Some c → i < length xs → x ≡ get_or xs i x
    → zip (drop i cs) (drop i xs) ≡ (c, x) ∷ zip (drop (i + 1) cs) (drop (i + 1) xs)
next_pair cs xs i c x s h e = ap (λ l. zip l (drop i xs)) (at_place cs i c s) ∙ ap (zip (c ∷ drop (i + 1) cs)) (next_item xs i x h e)

pub pair_next : {A C B E : Type 0} (f : A × C → Result B E) (cs : List A) (xs : List C) (i : ℕ) (ys after : List B) (c : A) (x : C) (y : B) → slice_get cs i ≡ Some c → i < length xs → x ≡ get_or xs i x → f (c, x) ≡ Ok y → after ≡ ys ++ y ∷ [] → Paired f cs xs i ys → Paired f cs xs (i + 1) after
pair_next f cs xs i ys after c x y s h e g a w = record {
  is =
      next_left f (zip cs xs) (zip (drop i cs) (drop i xs)) (zip (drop (i + 1) cs) (drop (i + 1) xs)) ys (c, x) y (next_pair cs xs i c x s h e) g w.is
      ∙ ap (λ l. each f (zip (drop (i + 1) cs) (drop (i + 1) xs)) >>= (λ zs. Ok (l ++ zs))) (sym a);
}

pub pair_fault : {A C B E : Type 0} (f : A × C → Result B E) (cs : List A) (xs : List C) (i : ℕ) (ys : List B) (c : A) (x : C) (fault : E) → slice_get cs i ≡ Some c → i < length xs → x ≡ get_or xs i x → f (c, x) ≡ Err fault → Paired f cs xs i ys → each f (zip cs xs) ≡ Err fault
pair_fault f cs xs i ys c x fault s h e g w =
    fault_left f (zip cs xs) (zip (drop i cs) (drop i xs)) (zip (drop (i + 1) cs) (drop (i + 1) xs)) ys (c, x) fault (next_pair cs xs i c x s h e) g w.is

-- the second list ends, or the first one does
pub pair_end : {A C B E : Type 0} (f : A × C → Result B E) (cs : List A) (xs : List C) (i : ℕ) (ys : List B) → length xs ≤ i → Paired f cs xs i ys → each f (zip cs xs) ≡ Ok ys
pair_end f cs xs i ys h w =
    none_left f (zip cs xs) (zip (drop i cs) (drop i xs)) ys (ap (zip (drop i cs)) (drop_all i xs h) ∙ zip_none (drop i cs)) w.is

pub pair_cut : {A C B E : Type 0} (f : A × C → Result B E) (cs : List A) (xs : List C) (i : ℕ) (ys : List B) → slice_get cs i ≡ None → Paired f cs xs i ys → each f (zip cs xs) ≡ Ok ys
pair_cut f cs xs i ys h w = none_left f (zip cs xs) (zip (drop i cs) (drop i xs)) ys (ap (λ l. zip l (drop i xs)) (past_place cs i h)) w.is
