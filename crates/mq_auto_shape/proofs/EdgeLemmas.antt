-- The places of assignments, and which of them an assignment looks at.
use Rattle.std.proofs.Common.{◌≡◌, ℕ, zero, suc, ◌+◌, ◌<◌, Bool, true, false, ◌&&◌, ◌==◌, cond, List, [], ◌∷◌, ◌++◌, drop, length, get_or, map, Option, Some, None, slice_get, refl, sym, ap, subst, arith, ◌∙◌, eqb}
use Rattle.std.specs.Prelude.{slice_index_or}
use Rattle.std.specs.Cmp.{eq_by_cmp_equiv, nat_eq_equiv}
use Rattle.std.specs.List.{All, cons_option, filter_map, find, position_from}
use Rattle.std.specs.Ordering.{is_eq}
use Rattle.std.specs.declared.cmp.Ordering.{Ordering}
use Rattle.std.specs.declared.cmp.Ordering.TheVariants.{Less, Equal, Greater}
use Rattle.std.proofs.lemmas.Bool.{and_parts, eqb-true}
use Rattle.std.proofs.lemmas.List.Elements.{All-cons, All-head, All-nil, All-tail}
use Rattle.mq_values.specs.Order.{cmp_key}
use Rattle.mq_values.specs.OrderLaws.{key_total}
use Rattle.mq_values.specs.OrderTells.{same_key}
use Rattle.mq_ir.specs.declared.query.CellName.{CellName}
use Rattle.mq_ir.specs.declared.query.Look.{Look}
use Rattle.mq_ir.specs.declared.query.Look.TheVariants.{Measure, Presence}
use Rattle.mq_ir.specs.declared.query.PartShape.{PartShape}
use Rattle.mq_ir.specs.Automatic.{node_of}
use Rattle.mq_ir.specs.Keys.{Tuple, is_same}
use Rattle.mq_ir.specs.Shape.{Assignment, assigns}
use Rattle.mq_ir.specs.Unfolding.{Model}
use Rattle.mq_levels.specs.Levels.{ReadsNodes}
use Rattle.mq_auto_shape.specs.Numbers.{NumberDiffers, Numbered, number_at}
use Rattle.mq_auto_shape.specs.Edges.{PlacesAre, looks_by, number_looked, place_looked, reads_of}
use Rattle.mq_ir.specs.StepLaws.{next_item}
use Rattle.mq_auto_shape.proofs.StepLemmas.{item_before}

-- ---- lists read at a place
pub all_at : {X : Type 0} (P : X → Type 0) (xs : List X) → All P xs → (p : ℕ) (a : X) → slice_get xs p ≡ Some a → P a
all_at P [] all p a h = absurd (cc)
all_at P (x ∷ xs) all zero a h = let e : x ≡ a = cc in subst P e (All-head P x xs all)
all_at P (x ∷ xs) all (suc p) a h = all_at P xs (All-tail P x xs all) p a h

pub record There {X : Type 0} (xs : List X) (p : ℕ) : Type 0 where
  pub item : X
  pub is : slice_get xs p ≡ Some item

pub there : {X : Type 0} (xs : List X) (p : ℕ) → p < length xs → There xs p
there [] p h = absurd (omega (arith, h))
there (x ∷ xs) zero h = record { item = x; is = refl }
there (x ∷ xs) (suc p) h = let t = there xs p (omega (arith, h)) in record { item = t.item; is = t.is }

pub mapped_at : {A B : Type 0} (f : A → List B) (xs : List A) (p : ℕ) (a : A) → slice_get xs p ≡ Some a → slice_index_or (map f xs) p [] ≡ f a
mapped_at f [] p a h = absurd (cc)
mapped_at f (x ∷ xs) zero a h = let e : x ≡ a = cc in ap f e
mapped_at f (x ∷ xs) (suc p) a h = mapped_at f xs p a h

pub length_map : {A B : Type 0} (f : A → B) (xs : List A) → length (map f xs) ≡ length xs
length_map f [] = refl
length_map f (x ∷ xs) = ap suc (length_map f xs)

-- ---- the first place at which a test passes
pub record Hit {X : Type 0} (test : X → Bool) (i : ℕ) (xs : List X) (q : ℕ) : Type 0 where
  pub item : X
  pub off : ℕ
  pub is : q ≡ i + off
  pub found : find test xs ≡ Some item
  pub at : slice_get xs off ≡ Some item
  pub passes : test item ≡ true
  pub below : off < length xs

pub hit : {X : Type 0} (test : X → Bool) (i : ℕ) (xs : List X) (q : ℕ) → position_from test i xs ≡ Some q → Hit test i xs q
hit test i [] q h = absurd (cc)
hit {X} test i (x ∷ xs) q h = by (test x) refl h (λ g. hit test (i + 1) xs q g)
  where
    by : (b : Bool) → test x ≡ b → cond b (Some i) (position_from test (i + 1) xs) ≡ Some q
        → (position_from test (i + 1) xs ≡ Some q → Hit test (i + 1) xs q) → Hit test i (x ∷ xs) q
    by true e g rest =
        let is : i ≡ q = cc in
        record { item = x; off = 0; is = omega (arith, is); found = ap (λ b. cond b (Some x) (find test xs)) e; at = refl; passes = e; below = omega arith }
    by false e g rest =
        let later = rest g in
        record {
          item = later.item;
          off = suc later.off;
          is = omega (arith, later.is);
          found = ap (λ b. cond b (Some x) (find test xs)) e ∙ later.found;
          at = later.at;
          passes = later.passes;
          below = omega (arith, later.below);
        }

pub missed : {X : Type 0} (test : X → Bool) (i : ℕ) (xs : List X) → position_from test i xs ≡ None → find test xs ≡ None
missed test i [] h = refl
missed test i (x ∷ xs) h = by (test x) h (λ g. missed test (i + 1) xs g)
  where
    by : (b : Bool) → cond b (Some i) (position_from test (i + 1) xs) ≡ None → (position_from test (i + 1) xs ≡ None → find test xs ≡ None)
        → cond b (Some x) (find test xs) ≡ None
    by true g rest = absurd (cc)
    by false g rest = rest g

-- ---- numbers that are places
both_ways : (x y : Tuple × ℕ) → (is_same x.0 y.0 && (x.1 == y.1)) ≡ (is_same y.0 x.0 && (y.1 == x.1))
both_ways x y = λ i. (eq_by_cmp_equiv key_total).symm x.0 y.0 i && nat_eq_equiv.symm x.1 y.1 i

pub places_next : (before after : Numbered) (assigned : List Assignment) (n at : ℕ) (x : Assignment) → n + 1 ≡ at → n < length assigned → x ≡ get_or assigned n x
    → ((key : Tuple) (m : ℕ) → number_at before key m ≡ position_from (assigns m key) at (drop at assigned))
    → NumberDiffers before after x.0 x.1 (Some n)
    → (key : Tuple) (m : ℕ) → number_at after key m ≡ position_from (assigns m key) n (drop n assigned)
places_next before after assigned n at x e lt is h g key m =
    g key m
    ∙ (λ i. cond (both_ways (x.0, x.1) (key, m) i) (Some n) (h key m i))
    ∙ ap (λ k. cond (assigns m key x) (Some n) (position_from (assigns m key) k (drop at assigned))) (sym e)
    ∙ sym (ap (position_from (assigns m key) n) (item_before assigned n at x e lt is))

-- ---- looks
same_looked : (numbers : Numbered) (assigned : List Assignment) → PlacesAre numbers assigned → (look : Look) → number_looked numbers look ≡ place_looked assigned look
same_looked numbers assigned h (Measure c) = h c.key c.measure
same_looked numbers assigned h (Presence key) = refl

pub looked : (numbers : Numbered) (assigned : List Assignment) → PlacesAre numbers assigned → (looks : List Look)
    → filter_map (number_looked numbers) looks ≡ filter_map (place_looked assigned) looks
looked numbers assigned h looks = λ i. filter_map (λ look. same_looked numbers assigned h look i) looks

equal_is : (o : Ordering) → is_eq o ≡ true → o ≡ Equal
equal_is Less h = cc
equal_is Equal h = refl
equal_is Greater h = cc

-- the measure that an assignment is of is one node
pub same_node : (c : CellName) (a : Assignment) → assigns c.measure c.key a ≡ true → Measure c ≡ node_of a
same_node c a h =
    let both = and_parts (is_same c.key a.0) (eqb c.measure a.1) h in
    let key : c.key ≡ a.0 = same_key c.key a.0 (equal_is (cmp_key c.key a.0) both.0) in
    let measure : c.measure ≡ a.1 = eqb-true c.measure a.1 both.1 in
    λ i. Measure (record { key = key i; measure = measure i })

-- each place that is looked at is one of an assignment
place_below : (assigned : List Assignment) (look : Look) (q : ℕ) → place_looked assigned look ≡ Some q → q < length assigned
place_below assigned (Measure c) q h = let it = hit (assigns c.measure c.key) 0 assigned q h in omega (arith, it.is, it.below)
place_below assigned (Presence key) q h = absurd (cc)

all_below : (assigned : List Assignment) (looks : List Look) → All (λ read. read < length assigned) (filter_map (place_looked assigned) looks)
all_below assigned [] = All-nil (λ read. read < length assigned)
all_below assigned (look ∷ looks) = by (place_looked assigned look) refl (all_below assigned looks)
  where
    by : (o : Option ℕ) → place_looked assigned look ≡ o → All (λ read. read < length assigned) (filter_map (place_looked assigned) looks)
        → All (λ read. read < length assigned) (cons_option o (filter_map (place_looked assigned) looks))
    by None e rest = rest
    by (Some q) e rest = All-cons (λ read. read < length assigned) q (filter_map (place_looked assigned) looks) (place_below assigned look q e) rest

module _ (model : Model) (shape : PartShape) where
  each_below : (xs : List Assignment) → All (λ list. All (λ read. read < length shape.assigned) list) (map (reads_of model shape) xs)
  each_below [] = All-nil (λ list. All (λ read. read < length shape.assigned) list)
  each_below (a ∷ xs) =
      All-cons (λ list. All (λ read. read < length shape.assigned) list) (reads_of model shape a) (map (reads_of model shape) xs) (all_below shape.assigned (looks_by model shape a)) (each_below xs)

  pub reads_nodes : (reads : List (List ℕ)) → reads ≡ map (reads_of model shape) shape.assigned → ReadsNodes reads
  reads_nodes reads e =
      subst ReadsNodes (sym e)
      (subst (λ n. All (λ list. All (λ read. read < n) list) (map (reads_of model shape) shape.assigned)) (sym (length_map (reads_of model shape) shape.assigned)) (each_below shape.assigned))

-- ---- lists that grow by what is found of one item after another
pushed : {V : Type 0} (items : V → List ℕ) (lists : List V) (v : V) (rest : List (List ℕ)) → map items (lists ++ v ∷ []) ++ rest ≡ map items lists ++ items v ∷ rest
pushed items [] v rest = refl
pushed items (x ∷ lists) v rest = ap (λ l. items x ∷ l) (pushed items lists v rest)

pub reads_more : {A V : Type 0} (f : A → List ℕ) (items : V → List ℕ) (xs : List A) (lists : List V) (v : V) (i : ℕ) (x : A) (all : List (List ℕ))
    → i < length xs → x ≡ get_or xs i x → items v ≡ f x → map items lists ++ map f (drop i xs) ≡ all → map items (lists ++ v ∷ []) ++ map f (drop (i + 1) xs) ≡ all
reads_more f items xs lists v i x all lt is h w =
    pushed items lists v (map f (drop (i + 1) xs)) ∙ (λ j. map items lists ++ h j ∷ map f (drop (i + 1) xs))
    ∙ sym (ap (λ l. map items lists ++ map f l) (next_item xs i x lt is)) ∙ w
