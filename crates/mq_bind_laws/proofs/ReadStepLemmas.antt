-- Steps give what they gave, or what they gave reads a table.
use Rattle.std.proofs.Common.{◌≡◌, ◌⊎◌, inl, inr, ℕ, ◌+◌, List, [], ◌∷◌, ◌++◌, Bool, true, false, ◌||◌, Result, Ok, Err, refl, sym, ap, ◌∙◌, subst}
use Rattle.std.specs.List.{flat_map, list_any}
use Rattle.mq_values.specs.declared.faults.Refused.{Refused}
use Rattle.mq_ir.specs.Results.{◌>>=◌, each_in_turn}
use Rattle.mq_ir.specs.Tables.{is_name}
use Rattle.mq_bind_scopes.specs.Names.{Name}
use Rattle.mq_bind_scopes.specs.Refusals.{refused_where}
use Rattle.mq_bind_expr.specs.Steps.{each_behind, each_with, each_with_from}

-- this name is among these
abbrev pub Reads : Name → List Name → Type 0
Reads name names = list_any (is_name name) names ≡ true

-- What the first gives the second gives too, or it reads the table of this name.
abbrev pub KeptOrReads : {A : Type 0} → Name → (A → List Name) → Result A Refused → Result A Refused → Type 0
KeptOrReads {A} name reads r s = (y : A) → r ≡ Ok y → (s ≡ Ok y) ⊎ Reads name (reads y)

-- What it gives reads the table.
abbrev pub GivesReader : {A : Type 0} → Name → (A → List Name) → Result A Refused → Type 0
GivesReader {A} name reads r = (y : A) → r ≡ Ok y → Reads name (reads y)

ok_is : {A : Type 0} (x y : A) → ◌≡◌ {A = Result A Refused} (Ok x) (Ok y) → x ≡ y
ok_is x y h = cc

-- what is read by what was gathered beside a result
abbrev pub gathered : (C S : Type 0) → (S → List Name) → C × S → List Name
gathered C S reads y = reads y.1

abbrev put : {B S : Type 0} → B × S → List B × S → List B × S
put y ys = (y.0 ∷ ys.0, ys.1)

or_true : (b : Bool) → (b || true) ≡ true
or_true true = refl
or_true false = refl

module _ (name : Name) where
  pub reads_left : (xs ys : List Name) → Reads name xs → Reads name (xs ++ ys)
  reads_left [] ys h = absurd (let n : false ≡ true = h in cc)
  reads_left (x ∷ xs) ys h = by (is_name name x) h (reads_left xs ys)
    where
      by : (b : Bool) → (b || list_any (is_name name) xs) ≡ true → (list_any (is_name name) xs ≡ true → list_any (is_name name) (xs ++ ys) ≡ true) → (b || list_any (is_name name) (xs ++ ys)) ≡ true
      by true g rest = refl
      by false g rest = rest g

  pub reads_right : (xs ys : List Name) → Reads name ys → Reads name (xs ++ ys)
  reads_right [] ys h = h
  reads_right (x ∷ xs) ys h = ap (λ b. is_name name x || b) (reads_right xs ys h) ∙ or_true (is_name name x)

  -- ---- single steps
  pub gives_ok : {A : Type 0} (reads : A → List Name) (x : A) → Reads name (reads x) → GivesReader name reads (Ok x)
  gives_ok reads x d y h = subst (λ z. Reads name (reads z)) (ok_is x y h) d

  pub gives_then : {A B : Type 0} (reads : B → List Name) (r : Result A Refused) (f : A → Result B Refused) → ((x : A) → GivesReader name reads (f x)) → GivesReader name reads (r >>= f)
  gives_then reads (Ok x) f rest y h = rest x y h
  gives_then reads (Err e) f rest y h = absurd cc

  pub gives_on : {A B : Type 0} (first : A → List Name) (reads : B → List Name) (r : Result A Refused) (f : A → Result B Refused) → GivesReader name first r → ((x : A) → Reads name (first x) → GivesReader name reads (f x)) → GivesReader name reads (r >>= f)
  gives_on first reads (Ok x) f here rest y h = rest x (here x refl) y h
  gives_on first reads (Err e) f here rest y h = absurd cc

  pub gives_behind : {A : Type 0} (reads : A → List Name) (test : Bool) (refusal : Refused) (r : Result A Refused) → GivesReader name reads r → GivesReader name reads (refused_where test refusal r)
  gives_behind reads true refusal r here y h = absurd cc
  gives_behind reads false refusal r here y h = here y h

  pub kept_same : {A : Type 0} (reads : A → List Name) (r : Result A Refused) → KeptOrReads name reads r r
  kept_same reads r y h = inl h

  pub kept_reader : {A : Type 0} (reads : A → List Name) (r s : Result A Refused) → GivesReader name reads r → KeptOrReads name reads r s
  kept_reader reads r s here y h = inr (here y h)

  pub kept_behind : {A : Type 0} (reads : A → List Name) (test : Bool) (refusal : Refused) (r s : Result A Refused) → KeptOrReads name reads r s → KeptOrReads name reads (refused_where test refusal r) (refused_where test refusal s)
  kept_behind reads true refusal r s kept y h = absurd cc
  kept_behind reads false refusal r s kept y h = kept y h

  pub kept_rest : {A B : Type 0} (reads : B → List Name) (r : Result A Refused) (f g : A → Result B Refused) → ((x : A) → KeptOrReads name reads (f x) (g x)) → KeptOrReads name reads (r >>= f) (r >>= g)
  kept_rest reads (Ok x) f g kept y h = kept x y h
  kept_rest reads (Err e) f g kept y h = absurd cc

  pub kept_then : {A B : Type 0} (first : A → List Name) (reads : B → List Name) (r s : Result A Refused) (f g : A → Result B Refused)
      → KeptOrReads name first r s → ((x : A) → KeptOrReads name reads (f x) (g x)) → ((x : A) → Reads name (first x) → GivesReader name reads (f x))
      → KeptOrReads name reads (r >>= f) (s >>= g)
  kept_then {A} {B} first reads (Ok x) s f g kept rest on y h = by (kept x refl)
    where
      by : (s ≡ Ok x) ⊎ Reads name (first x) → ((s >>= g) ≡ Ok y) ⊎ Reads name (reads y)
      by (inl e) = subst (λ (o : Result A Refused). ((o >>= g) ≡ Ok y) ⊎ Reads name (reads y)) (sym e) (rest x y h)
      by (inr d) = inr (on x d y h)
  kept_then first reads (Err e) s f g kept rest on y h = absurd cc

  pub kept_first : {A B : Type 0} (first : A → List Name) (reads : B → List Name) (r s : Result A Refused) (f : A → Result B Refused)
      → KeptOrReads name first r s → ((x : A) → Reads name (first x) → GivesReader name reads (f x)) → KeptOrReads name reads (r >>= f) (s >>= f)
  kept_first first reads r s f kept on = kept_then first reads r s f f kept (λ x. kept_same reads (f x)) on

  -- ---- a state after a step for each item
  module _ {A S : Type 0} (reads : S → List Name) (f g : A → S → Result S Refused) (kept : (x : A) (s : S) → KeptOrReads name reads (f x s) (g x s)) (on : (x : A) (s : S) → Reads name (reads s) → GivesReader name reads (f x s)) where
    pub turns_read : (xs : List A) (s : S) → Reads name (reads s) → GivesReader name reads (each_in_turn f xs s)
    turns_read [] s d = gives_ok reads s d
    turns_read (x ∷ xs) s d = gives_on reads reads (f x s) (each_in_turn f xs) (on x s d) (turns_read xs)

    pub turns_kept : (xs : List A) (s : S) → KeptOrReads name reads (each_in_turn f xs s) (each_in_turn g xs s)
    turns_kept [] s = kept_same reads (Ok s)
    turns_kept (x ∷ xs) s = kept_then reads reads (f x s) (g x s) (each_in_turn f xs) (each_in_turn g xs) (kept x s) (turns_kept xs) (turns_read xs)

  -- ---- items with what is gathered on the way, and so with their numbers
  module _ {A B S : Type 0} (reads : S → List Name) where
    module _ (f g : S → A → Result (B × S) Refused) (kept : (s : S) (x : A) → KeptOrReads name (gathered B S reads) (f s x) (g s x)) (on : (s : S) (x : A) → Reads name (reads s) → GivesReader name (gathered B S reads) (f s x)) where
      pub with_read : (xs : List A) (s : S) → Reads name (reads s) → GivesReader name (gathered (List B) S reads) (each_with f s xs)
      with_read [] s d = gives_ok (gathered (List B) S reads) ([], s) d
      with_read (x ∷ xs) s d =
          gives_on (gathered B S reads) (gathered (List B) S reads) (f s x) _ (on s x d)
          (λ y e. gives_on (gathered (List B) S reads) (gathered (List B) S reads) (each_with f y.1 xs) _ (with_read xs y.1 e) (λ ys h. gives_ok (gathered (List B) S reads) (put y ys) h))

      pub with_kept : (xs : List A) (s : S) → KeptOrReads name (gathered (List B) S reads) (each_with f s xs) (each_with g s xs)
      with_kept [] s = kept_same (gathered (List B) S reads) (Ok ([], s))
      with_kept (x ∷ xs) s =
          kept_then (gathered B S reads) (gathered (List B) S reads) (f s x) (g s x) _ _ (kept s x)
          (λ y. kept_first (gathered (List B) S reads) (gathered (List B) S reads) (each_with f y.1 xs) (each_with g y.1 xs) _ (with_kept xs y.1) (λ ys h. gives_ok (gathered (List B) S reads) (put y ys) h))
          (λ y e. gives_on (gathered (List B) S reads) (gathered (List B) S reads) (each_with f y.1 xs) _ (with_read xs y.1 e) (λ ys h. gives_ok (gathered (List B) S reads) (put y ys) h))

    module _ (f g : ℕ → S → A → Result (B × S) Refused) (kept : (n : ℕ) (s : S) (x : A) → KeptOrReads name (gathered B S reads) (f n s x) (g n s x)) (on : (n : ℕ) (s : S) (x : A) → Reads name (reads s) → GivesReader name (gathered B S reads) (f n s x)) where
      pub numbered_read : (xs : List A) (n : ℕ) (s : S) → Reads name (reads s) → GivesReader name (gathered (List B) S reads) (each_with_from f n s xs)
      numbered_read [] n s d = gives_ok (gathered (List B) S reads) ([], s) d
      numbered_read (x ∷ xs) n s d =
          gives_on (gathered B S reads) (gathered (List B) S reads) (f n s x) _ (on n s x d)
          (λ y e. gives_on (gathered (List B) S reads) (gathered (List B) S reads) (each_with_from f (n + 1) y.1 xs) _ (numbered_read xs (n + 1) y.1 e) (λ ys h. gives_ok (gathered (List B) S reads) (put y ys) h))

      pub numbered_kept : (xs : List A) (n : ℕ) (s : S) → KeptOrReads name (gathered (List B) S reads) (each_with_from f n s xs) (each_with_from g n s xs)
      numbered_kept [] n s = kept_same (gathered (List B) S reads) (Ok ([], s))
      numbered_kept (x ∷ xs) n s =
          kept_then (gathered B S reads) (gathered (List B) S reads) (f n s x) (g n s x) _ _ (kept n s x)
          (λ y. kept_first (gathered (List B) S reads) (gathered (List B) S reads) (each_with_from f (n + 1) y.1 xs) (each_with_from g (n + 1) y.1 xs) _ (numbered_kept xs (n + 1) y.1) (λ ys h. gives_ok (gathered (List B) S reads) (put y ys) h))
          (λ y e. gives_on (gathered (List B) S reads) (gathered (List B) S reads) (each_with_from f (n + 1) y.1 xs) _ (numbered_read xs (n + 1) y.1 e) (λ ys h. gives_ok (gathered (List B) S reads) (put y ys) h))

  -- ---- items behind what those before them are known by
  module _ {A B K : Type 0} (reads : B → List Name) (f g : List K → A → Result B Refused) (key : B → K) (kept : (earlier : List K) (x : A) → KeptOrReads name reads (f earlier x) (g earlier x)) where
    pub behind_kept : (xs : List A) (earlier : List K) → KeptOrReads name (flat_map reads) (each_behind f key earlier xs) (each_behind g key earlier xs)
    behind_kept [] earlier = kept_same (flat_map reads) (Ok [])
    behind_kept (x ∷ xs) earlier =
        kept_then reads (flat_map reads) (f earlier x) (g earlier x) _ _ (kept earlier x)
        (λ y. kept_first (flat_map reads) (flat_map reads) (each_behind f key (earlier ++ key y ∷ []) xs) (each_behind g key (earlier ++ key y ∷ []) xs) _ (behind_kept xs (earlier ++ key y ∷ []))
        (λ ys h. gives_ok (flat_map reads) (y ∷ ys) (reads_right (reads y) (flat_map reads ys) h)))
        (λ y d. gives_then (flat_map reads) (each_behind f key (earlier ++ key y ∷ []) xs) _ (λ ys. gives_ok (flat_map reads) (y ∷ ys) (reads_left (reads y) (flat_map reads ys) d)))
