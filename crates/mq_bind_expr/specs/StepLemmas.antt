-- Loops that take a step for each item of a list, of which each may fail.
use Rattle.std.proofs.Common.{◌≡◌, ℕ, ◌+◌, ◌<◌, ◌≤◌, List, [], ◌∷◌, ◌++◌, drop, length, get_or, Result, Ok, Err, refl, sym, ap, ◌∙◌, append_assoc, add-one, drop-cons}
use Rattle.std.proofs.lemmas.List.{append-nil, drop_all}
use Rattle.mq_values.specs.Answers.{Gives}
use Rattle.mq_values.specs.declared.faults.Refused.{Refused}
use Rattle.mq_values.specs.declared.memory.Fail.{Fail}
use Rattle.mq_values.specs.declared.memory.Fail.TheVariants as fail
use Rattle.mq_ir.specs.Results.{◌>>=◌, each}
use Rattle.mq_bind_expr.specs.Steps.{each_behind}

-- where each fault of the inner call is the outer one's
pub fault_is_last : {T U E : Type 0} (inner : Result T E) (outer : Result U E) (e : Fail E) → Gives {T = T} (Err e) inner → ((fault : E) → inner ≡ Err fault → outer ≡ Err fault) → Gives {T = U} (Err e) outer
fault_is_last inner outer (fail.Cause fault) h f = f fault h
fault_is_last inner outer fail.Memory h f = tt

-- a loop over a list goes on at its item number i
pub next_item : {A : Type 0} (xs : List A) (i : ℕ) (x : A) → i < length xs → x ≡ get_or xs i x → drop i xs ≡ x ∷ drop (i + 1) xs
next_item xs i x h e = drop-cons xs i x h ∙ (λ j. sym e j ∷ drop (sym (add-one i) j) xs)

pub started : {B E : Type 0} (r : Result (List B) E) → r ≡ (r >>= (λ zs. Ok zs))
started (Ok ys) = refl
started (Err fault) = refl

moved : {B E : Type 0} (r : Result (List B) E) (ys : List B) (y : B) → ((r >>= (λ zs. Ok (y ∷ zs))) >>= (λ zs. Ok (ys ++ zs))) ≡ (r >>= (λ zs. Ok ((ys ++ y ∷ []) ++ zs)))
moved (Ok zs) ys y = ap Ok (sym (append_assoc ys (y ∷ []) zs))
moved (Err fault) ys y = refl

-- what comes of the next step
pub after_ok : {B E : Type 0} (all step : Result (List B) E) (first : Result B E) (rest : B → Result (List B) E) (ys : List B) (y : B)
    → all ≡ (step >>= (λ zs. Ok (ys ++ zs))) → step ≡ (first >>= (λ y. rest y >>= (λ zs. Ok (y ∷ zs)))) → first ≡ Ok y
    → all ≡ (rest y >>= (λ zs. Ok ((ys ++ y ∷ []) ++ zs)))
after_ok all step first rest ys y a s g =
    a ∙ ap (λ r. r >>= (λ zs. Ok (ys ++ zs))) (s ∙ ap (λ o. o >>= (λ y. rest y >>= (λ zs. Ok (y ∷ zs)))) g) ∙ moved (rest y) ys y

pub after_fault : {B E : Type 0} (all step : Result (List B) E) (first : Result B E) (rest : B → Result (List B) E) (ys : List B) (fault : E)
    → all ≡ (step >>= (λ zs. Ok (ys ++ zs))) → step ≡ (first >>= (λ y. rest y >>= (λ zs. Ok (y ∷ zs)))) → first ≡ Err fault → all ≡ Err fault
after_fault all step first rest ys fault a s g =
    a ∙ ap (λ r. r >>= (λ zs. Ok (ys ++ zs))) (s ∙ ap (λ o. o >>= (λ y. rest y >>= (λ zs. Ok (y ∷ zs)))) g)

-- `each`: the first i items gave ys
pub record Walked {A B E : Type 0} (f : A → Result B E) (xs : List A) (i : ℕ) (ys : List B) : Type 0 where
  pub is : each f xs ≡ (each f (drop i xs) >>= (λ zs. Ok (ys ++ zs)))

pub walk_start : {A B E : Type 0} (f : A → Result B E) (xs : List A) → Walked f xs 0 []
walk_start f xs = record { is = started (each f xs) }

pub walk_next : {A B E : Type 0} (f : A → Result B E) (xs : List A) (i : ℕ) (ys : List B) (x : A) (y : B) → i < length xs → x ≡ get_or xs i x → f x ≡ Ok y → Walked f xs i ys → Walked f xs (i + 1) (ys ++ y ∷ [])
walk_next f xs i ys x y h e g w = record {
  is = after_ok (each f xs) (each f (drop i xs)) (f x) (λ y. each f (drop (i + 1) xs)) ys y w.is (ap (each f) (next_item xs i x h e)) g;
}

pub walk_end : {A B E : Type 0} (f : A → Result B E) (xs : List A) (i : ℕ) (ys : List B) → length xs ≤ i → Walked f xs i ys → each f xs ≡ Ok ys
walk_end f xs i ys h w = w.is ∙ ap (λ r. each f r >>= (λ zs. Ok (ys ++ zs))) (drop_all i xs h) ∙ ap Ok (append-nil ys)

walk_fault : {A B E : Type 0} (f : A → Result B E) (xs : List A) (i : ℕ) (ys : List B) (x : A) (fault : E) → i < length xs → x ≡ get_or xs i x → f x ≡ Err fault → Walked f xs i ys → each f xs ≡ Err fault
walk_fault f xs i ys x fault h e g w =
    after_fault (each f xs) (each f (drop i xs)) (f x) (λ y. each f (drop (i + 1) xs)) ys fault w.is (ap (each f) (next_item xs i x h e)) g

-- the answer of a step that gave none is the loop's
pub walk_exit : {A B E : Type 0} (f : A → Result B E) (xs : List A) (i : ℕ) (ys : List B) (x : A) (e : Fail E) → i < length xs → x ≡ get_or xs i x → Walked f xs i ys → Gives {T = B} (Err e) (f x) → Gives {T = List B} (Err e) (each f xs)
walk_exit f xs i ys x e h at w g = fault_is_last (f x) (each f xs) e g (λ fault is. walk_fault f xs i ys x fault h at is w)

-- `each_behind`: the first i items gave ys, and what is known by then are these names
pub record Behind {A B K : Type 0} (f : List K → A → Result B Refused) (key : B → K) (earlier : List K) (xs : List A) (i : ℕ) (ys : List B) (names : List K) : Type 0 where
  pub is : each_behind f key earlier xs ≡ (each_behind f key names (drop i xs) >>= (λ zs. Ok (ys ++ zs)))

pub behind_start : {A B K : Type 0} (f : List K → A → Result B Refused) (key : B → K) (earlier : List K) (xs : List A) → Behind f key earlier xs 0 [] earlier
behind_start f key earlier xs = record { is = started (each_behind f key earlier xs) }

pub behind_next : {A B K : Type 0} (f : List K → A → Result B Refused) (key : B → K) (earlier : List K) (xs : List A) (i : ℕ) (ys : List B) (names : List K) (x : A) (y : B) → i < length xs → x ≡ get_or xs i x → f names x ≡ Ok y → Behind f key earlier xs i ys names → Behind f key earlier xs (i + 1) (ys ++ y ∷ []) (names ++ key y ∷ [])
behind_next f key earlier xs i ys names x y h e g w = record {
  is =
      after_ok (each_behind f key earlier xs) (each_behind f key names (drop i xs)) (f names x) (λ y. each_behind f key (names ++ key y ∷ []) (drop (i + 1) xs)) ys y w.is
      (ap (each_behind f key names) (next_item xs i x h e)) g;
}

pub behind_end : {A B K : Type 0} (f : List K → A → Result B Refused) (key : B → K) (earlier : List K) (xs : List A) (i : ℕ) (ys : List B) (names : List K) → length xs ≤ i → Behind f key earlier xs i ys names → each_behind f key earlier xs ≡ Ok ys
behind_end f key earlier xs i ys names h w =
    w.is ∙ ap (λ r. each_behind f key names r >>= (λ zs. Ok (ys ++ zs))) (drop_all i xs h) ∙ ap Ok (append-nil ys)

pub behind_exit : {A B K : Type 0} (f : List K → A → Result B Refused) (key : B → K) (earlier : List K) (xs : List A) (i : ℕ) (ys : List B) (names : List K) (x : A) (e : Fail Refused) → i < length xs → x ≡ get_or xs i x → Behind f key earlier xs i ys names → Gives {T = B} (Err e) (f names x) → Gives {T = List B} (Err e) (each_behind f key earlier xs)
behind_exit f key earlier xs i ys names x e h at w g =
    fault_is_last (f names x) (each_behind f key earlier xs) e g
    (λ fault is.
    after_fault (each_behind f key earlier xs) (each_behind f key names (drop i xs)) (f names x) (λ y. each_behind f key (names ++ key y ∷ []) (drop (i + 1) xs)) ys fault w.is
    (ap (each_behind f key names) (next_item xs i x h at)) is)
