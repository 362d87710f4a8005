-- What is levelled stays so; when nothing more is levelled; circles.
use Rattle.std.proofs.Common.{◌≡◌, ℕ, suc, zero, ◌+◌, ◌<◌, ◌≤◌, ◌⊎◌, Bool, true, false, cond, ◌&&◌, ◌||◌, List, [], ◌∷◌, length, get_or, eqb, zero-add, ◌-◌, refl, sym, ap, subst, ◌∙◌, inl, inr, arith}
use Rattle.std.specs.List.{All, Contains, list_all, list_any}
use Rattle.std.proofs.lemmas.Bool.{eq-eqb, eqb-true, false≢true}
use Rattle.std.proofs.lemmas.List.Elements.{All-cons, All-head, All-nil, All-tail}
use Rattle.std.proofs.lemmas.List.FromFn.{get_or-range_with_len, length-range_with_len}
use Rattle.mq_levels.specs.Levels.{ReadsNodes, levelled, nodes, reads_of}

pub and_left : (a b : Bool) → (a && b) ≡ true → a ≡ true
and_left true b h = refl
and_left false b h = h

pub and_right : (a b : Bool) → (a && b) ≡ true → b ≡ true
and_right true b h = h
and_right false b h = absurd (false≢true h)

pub both : (a b : Bool) → a ≡ true → b ≡ true → (a && b) ≡ true
both true b h k = k
both false b h k = h

-- a test that holds wherever another one does
pub all_weaker : {X : Type 0} (p q : X → Bool) → ((x : X) → p x ≡ true → q x ≡ true) → (xs : List X) → list_all p xs ≡ true → list_all q xs ≡ true
all_weaker p q h [] k = refl
all_weaker p q h (x ∷ xs) k =
    both (q x) (list_all q xs) (h x (and_left (p x) (list_all p xs) k)) (all_weaker p q h xs (and_right (p x) (list_all p xs) k))

-- two tests that agree on what is in the list
pub all_agree : (p q : ℕ → Bool) (n : ℕ) → ((x : ℕ) → x < n → p x ≡ q x) → (xs : List ℕ) → All (λ x. x < n) xs → list_all p xs ≡ list_all q xs
all_agree p q n h [] k = refl
all_agree p q n h (x ∷ xs) k =
    λ i. h x (All-head (λ x. x < n) x xs k) i && all_agree p q n h xs (All-tail (λ x. x < n) x xs k) i

-- the reads of a node are nodes
pub reads_within : (reads : List (List ℕ)) → ReadsNodes reads → (node : ℕ) → node < length reads → All (λ read. read < length reads) (reads_of reads node)
reads_within reads h node l = h node [] l

-- one round on
pub stays_once : (reads : List (List ℕ)) (n node : ℕ) → levelled reads n node ≡ true → levelled reads (suc n) node ≡ true
stays_once reads zero node h = absurd (false≢true h)
stays_once reads (suc n) node h = all_weaker (levelled reads n) (levelled reads (suc n)) (stays_once reads n) (reads_of reads node) h

moved : (reads : List (List ℕ)) (node m n : ℕ) → m ≡ n → levelled reads m node ≡ true → levelled reads n node ≡ true
moved reads node m n e h = ap (λ k. levelled reads k node) (sym e) ∙ h

stays_by : (reads : List (List ℕ)) (k n node : ℕ) → levelled reads n node ≡ true → levelled reads (k + n) node ≡ true
stays_by reads zero n node h = moved reads node n (0 + n) (omega arith) h
stays_by reads (suc k) n node h = moved reads node (suc (k + n)) (suc k + n) (omega arith) (stays_once reads (k + n) node (stays_by reads k n node h))

pub stays : (reads : List (List ℕ)) (n later node : ℕ) → n ≤ later → levelled reads n node ≡ true → levelled reads later node ≡ true
stays reads n later node l h = moved reads node ((later - n) + n) later (omega arith) (stays_by reads (later - n) n node h)

not_true : (b : Bool) → (b ≡ true → ⊥) → b ≡ false
not_true true h = absurd (h refl)
not_true false h = refl

-- what is not levelled was not levelled before
pub not_before : (reads : List (List ℕ)) (n later node : ℕ) → n ≤ later → levelled reads later node ≡ false → levelled reads n node ≡ false
not_before reads n later node l h = not_true (levelled reads n node) (λ e. false≢true (sym h ∙ stays reads n later node l e))

-- nothing more is levelled in a further round
abbrev pub AreLast : List (List ℕ) → ℕ → Type 0
AreLast reads n = (node : ℕ) → node < length reads → levelled reads (suc n) node ≡ levelled reads n node

pub last_stays : (reads : List (List ℕ)) → ReadsNodes reads → (n : ℕ) → AreLast reads n → AreLast reads (suc n)
last_stays reads h n last node l = all_agree (levelled reads (suc n)) (levelled reads n) (length reads) last (reads_of reads node) (reads_within reads h node l)

same_by : (reads : List (List ℕ)) → ReadsNodes reads → (k n : ℕ) → AreLast reads n → (node : ℕ) → node < length reads → levelled reads (k + n) node ≡ levelled reads n node
same_by reads h zero n last node l = ap (λ m. levelled reads m node) (omega arith)
same_by reads h (suc k) n last node l =
    ap (λ m. levelled reads m node) (let e : suc k + n ≡ k + suc n = omega arith in e)
    ∙ same_by reads h k (suc n) (last_stays reads h n last) node l
    ∙ last node l

pub same_later : (reads : List (List ℕ)) → ReadsNodes reads → (n : ℕ) → AreLast reads n → (later node : ℕ) → n ≤ later → node < length reads → levelled reads later node ≡ levelled reads n node
same_later reads h n last later node m l =
    ap (λ k. levelled reads k node) (let e : later ≡ (later - n) + n = omega arith in e) ∙ same_by reads h (later - n) n last node l

-- how many of a list pass a test
abbrev passing : (ℕ → Bool) → List ℕ → ℕ
passing p [] = 0
passing p (x ∷ xs) = cond (p x) (1 + passing p xs) (passing p xs)

more_or_less : (b c : Bool) (m n : ℕ) → (b ≡ true → c ≡ true) → m ≤ n → cond b (1 + m) m ≤ cond c (1 + n) n
more_or_less true true m n h l = omega arith
more_or_less true false m n h l = absurd (false≢true (h refl))
more_or_less false true m n h l = omega arith
more_or_less false false m n h l = l

passing_most : (p : ℕ → Bool) (xs : List ℕ) → passing p xs ≤ length xs
passing_most p [] = omega arith
passing_most p (x ∷ xs) = by (p x) (passing_most p xs)
  where
    by : (b : Bool) → passing p xs ≤ length xs → cond b (1 + passing p xs) (passing p xs) ≤ suc (length xs)
    by true l = omega arith
    by false l = omega arith

passing_less : (p q : ℕ → Bool) → ((x : ℕ) → p x ≡ true → q x ≡ true) → (xs : List ℕ) → passing p xs ≤ passing q xs
passing_less p q h [] = omega arith
passing_less p q h (x ∷ xs) = more_or_less (p x) (q x) (passing p xs) (passing q xs) (h x) (passing_less p q h xs)

-- a weaker test passes the same ones, or more of them
same_or_more : (p q : ℕ → Bool) → ((x : ℕ) → p x ≡ true → q x ≡ true) → (xs : List ℕ) → All (λ x. q x ≡ p x) xs ⊎ (passing p xs < passing q xs)
same_or_more p q h [] = inl (All-nil (λ x. q x ≡ p x))
same_or_more p q h (x ∷ xs) = by (p x) (q x) refl refl (same_or_more p q h xs) (passing_less p q h xs)
  where
    by : (b c : Bool) → p x ≡ b → q x ≡ c → All (λ x. q x ≡ p x) xs ⊎ (passing p xs < passing q xs) → passing p xs ≤ passing q xs → All (λ x. q x ≡ p x) (x ∷ xs) ⊎ (cond b (1 + passing p xs) (passing p xs) < cond c (1 + passing q xs) (passing q xs))
    by true true e f (inl a) m = inl (All-cons (λ x. q x ≡ p x) x xs (f ∙ sym e) a)
    by true true e f (inr l) m = inr (omega arith)
    by true false e f r m = absurd (false≢true (sym f ∙ h x e))
    by false true e f r m = inr (omega arith)
    by false false e f (inl a) m = inl (All-cons (λ x. q x ≡ p x) x xs (f ∙ sym e) a)
    by false false e f (inr l) m = inr l

last_by : (reads : List (List ℕ)) (n : ℕ) → All (λ node. levelled reads (suc n) node ≡ levelled reads n node) (nodes reads) → AreLast reads n
last_by reads n a node l =
    let within : node < length (nodes reads) = omega (arith, length-range_with_len 0 (length reads)) in
    let same : get_or (nodes reads) node 0 ≡ node = get_or-range_with_len 0 (length reads) node 0 l ∙ zero-add node in
    subst (λ x. levelled reads (suc n) x ≡ levelled reads n x) same (a node 0 within)

-- Either nothing more is levelled in a further round, or each round so far has levelled one.
last_or_many : (reads : List (List ℕ)) → ReadsNodes reads → (n : ℕ) → AreLast reads n ⊎ (n < passing (levelled reads (suc n)) (nodes reads))
last_or_many reads h zero = by (same_or_more (levelled reads 0) (levelled reads 1) (stays_once reads 0) (nodes reads))
  where
    by : All (λ node. levelled reads 1 node ≡ levelled reads 0 node) (nodes reads) ⊎ (passing (levelled reads 0) (nodes reads) < passing (levelled reads 1) (nodes reads)) → AreLast reads 0 ⊎ (0 < passing (levelled reads 1) (nodes reads))
    by (inl a) = inl (last_by reads 0 a)
    by (inr l) = inr (omega arith)
last_or_many reads h (suc n) = by (last_or_many reads h n) (same_or_more (levelled reads (suc n)) (levelled reads (suc (suc n))) (stays_once reads (suc n)) (nodes reads))
  where
    by : AreLast reads n ⊎ (n < passing (levelled reads (suc n)) (nodes reads)) → All (λ node. levelled reads (suc (suc n)) node ≡ levelled reads (suc n) node) (nodes reads) ⊎ (passing (levelled reads (suc n)) (nodes reads) < passing (levelled reads (suc (suc n))) (nodes reads)) → AreLast reads (suc n) ⊎ (suc n < passing (levelled reads (suc (suc n))) (nodes reads))
    by (inl last) r = inl (last_stays reads h n last)
    by (inr l) (inl a) = inl (last_by reads (suc n) a)
    by (inr l) (inr m) = inr (omega arith)

-- as many rounds as nodes are enough
pub last_at_length : (reads : List (List ℕ)) → ReadsNodes reads → AreLast reads (length reads)
last_at_length reads h = by (last_or_many reads h (length reads))
  where
    by : AreLast reads (length reads) ⊎ (length reads < passing (levelled reads (suc (length reads))) (nodes reads)) → AreLast reads (length reads)
    by (inl last) = last
    by (inr l) = absurd (omega (arith, passing_most (levelled reads (suc (length reads))) (nodes reads), length-range_with_len 0 (length reads)))

none_of_any : (p c : ℕ → Bool) → ((x : ℕ) → c x ≡ true → p x ≡ false) → (xs : List ℕ) → list_any c xs ≡ true → list_all p xs ≡ false
none_of_any p c h [] k = absurd (false≢true k)
none_of_any p c h (x ∷ xs) k = by (c x) refl k (none_of_any p c h xs)
  where
    none : (b : Bool) → b ≡ false → (b && list_all p xs) ≡ false
    none true e = absurd (false≢true (sym e))
    none false e = refl

    other : (b : Bool) → list_all p xs ≡ false → (b && list_all p xs) ≡ false
    other true e = e
    other false e = refl

    by : (b : Bool) → c x ≡ b → (b || list_any c xs) ≡ true → (list_any c xs ≡ true → list_all p xs ≡ false) → (p x && list_all p xs) ≡ false
    by true e k r = none (p x) (h x e)
    by false e k r = other (p x) (r k)

pub circle_never : (reads : List (List ℕ)) (circle : ℕ → Bool) → ((node : ℕ) → circle node ≡ true → list_any circle (reads_of reads node) ≡ true) → (n node : ℕ) → circle node ≡ true → levelled reads n node ≡ false
circle_never reads circle h zero node k = refl
circle_never reads circle h (suc n) node k = none_of_any (levelled reads n) circle (circle_never reads circle h n) (reads_of reads node) (h node k)

any_there : (c : ℕ → Bool) (xs : List ℕ) (x : ℕ) → c x ≡ true → Contains xs x → list_any c xs ≡ true
any_there c [] x e (k, l, is) = absurd (omega arith)
any_there c (y ∷ ys) x e (zero, l, is) = first (c y) (ap c is ∙ e)
  where
    first : (b : Bool) → b ≡ true → (b || list_any c ys) ≡ true
    first true h = refl
    first false h = absurd (false≢true h)
any_there c (y ∷ ys) x e (suc k, l, is) = behind (c y) (any_there c ys x e (k, omega arith, is))
  where
    behind : (b : Bool) → list_any c ys ≡ true → (b || list_any c ys) ≡ true
    behind true h = refl
    behind false h = h

pub itself_never : (reads : List (List ℕ)) (node : ℕ) → Contains (reads_of reads node) node → (n : ℕ) → levelled reads n node ≡ false
itself_never reads node k n = circle_never reads (λ x. eqb x node) around n node (eq-eqb node node refl)
  where
    around : (x : ℕ) → eqb x node ≡ true → list_any (λ y. eqb y node) (reads_of reads x) ≡ true
    around x e = subst (λ x. list_any (λ y. eqb y node) (reads_of reads x) ≡ true) (sym (eqb-true x node e)) (any_there (λ y. eqb y node) (reads_of reads node) node (eq-eqb node node refl) k)
