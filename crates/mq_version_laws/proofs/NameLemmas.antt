-- Names of versions, and items that are found by them.
use Rattle.std.proofs.Common.{◌≡◌, Bool, true, false, ◌&&◌, ◌||◌, List, [], ◌∷◌, cond, map, Some, refl, sym, ap, ◌∙◌, eqb}
use Rattle.std.specs.List.{find, list_any}
use Rattle.std.proofs.lemmas.Bool.{and_from, and_parts, or_parts, eqb-true, eq-eqb}
use Rattle.mq_ir.specs.EachLaws.{Each}
use Rattle.mq_ir.specs.Keys.{is_same}
use Rattle.mq_ir.specs.VersionLooks.{VersionName, VersionNode, Made, Given, There, is_same_name, is_same_node}
use Rattle.mq_change_laws.specs.KeyLaws.{same_itself}
use Rattle.mq_change_laws.specs.ReachLaws.{told_alike}
use Rattle.mq_change_laws.specs.SoundLaws.{same_is}

pub name_is : (a b : VersionName) → is_same_name a b ≡ true → a ≡ b
name_is a b h =
    let first = and_parts (eqb a.number b.number && eqb a.place b.place) (is_same a.key b.key) h in
    let both = and_parts (eqb a.number b.number) (eqb a.place b.place) first.0 in
    let number : a.number ≡ b.number = eqb-true a.number b.number both.0 in
    let place : a.place ≡ b.place = eqb-true a.place b.place both.1 in
    let key : a.key ≡ b.key = same_is a.key b.key first.1 in
    λ i. record { number = number i; place = place i; key = key i }

pub name_itself : (a : VersionName) → is_same_name a a ≡ true
name_itself a =
    and_from (eqb a.number a.number && eqb a.place a.place) (is_same a.key a.key)
    (and_from (eqb a.number a.number) (eqb a.place a.place) (eq-eqb a.number a.number refl) (eq-eqb a.place a.place refl)) (same_itself a.key)

pub name_turned : (a b : VersionName) → is_same_name a b ≡ is_same_name b a
name_turned a b = told_alike (is_same_name a b) (is_same_name b a) (over a b) (over b a)
  where
    over : (a b : VersionName) → is_same_name a b ≡ true → is_same_name b a ≡ true
    over a b h = ap (λ n. is_same_name b n) (name_is a b h) ∙ name_itself b

pub node_is : (a b : VersionNode) → is_same_node a b ≡ true → a ≡ b
node_is (Made a) (Made b) h = ap Made (name_is a b h)
node_is (Given a) (Given b) h =
    let both = and_parts (is_same a.key b.key) (eqb a.measure b.measure) h in
    let key : a.key ≡ b.key = same_is a.key b.key both.0 in
    let measure : a.measure ≡ b.measure = eqb-true a.measure b.measure both.1 in
    λ i. Given (record { key = key i; measure = measure i })
node_is (There a) (There b) h = ap There (same_is a b h)
node_is (Made a) (Given b) h = cc
node_is (Made a) (There b) h = cc
node_is (Given a) (Made b) h = cc
node_is (Given a) (There b) h = cc
node_is (There a) (Made b) h = cc
node_is (There a) (Given b) h = cc

pub node_itself : (a : VersionNode) → is_same_node a a ≡ true
node_itself (Made a) = name_itself a
node_itself (Given a) = and_from (is_same a.key a.key) (eqb a.measure a.measure) (same_itself a.key) (eq-eqb a.measure a.measure refl)
node_itself (There a) = same_itself a

-- ---- items that have names, each its own
module _ {A : Type 0} (name : A → VersionName) where
  abbrev pub has_name : VersionName → A → Bool
  has_name n x = is_same_name n (name x)

  abbrev pub Once : List A → Type 0
  Once [] = Unit {0}
  Once (x ∷ xs) = (list_any (has_name (name x)) xs ≡ false) × Once xs

  -- it is found by its name
  abbrev pub Own : List A → A → Type 0
  Own all x = find (has_name (name x)) all ≡ Some x

  own_later : (x : A) (all xs : List A) → list_any (has_name (name x)) xs ≡ false → Each (Own all) xs → Each (Own (x ∷ all)) xs
  own_later x all [] h a = tt
  own_later x all (y ∷ ys) h a =
      let both = or_parts (has_name (name x) y) (list_any (has_name (name x)) ys) h in
      (ap (λ b. cond b (Some x) (find (has_name (name y)) all)) (name_turned (name y) (name x) ∙ both.0) ∙ a.0, own_later x all ys both.1 a.1)

  pub own_names : (xs : List A) → Once xs → Each (Own xs) xs
  own_names [] o = tt
  own_names (x ∷ xs) o =
      (ap (λ b. cond b (Some x) (find (has_name (name x)) xs)) (name_itself (name x)), own_later x xs xs o.0 (own_names xs o.1))

any_named : {A : Type 0} (name : A → VersionName) (n : VersionName) (xs : List A)
    → list_any (has_name name n) xs ≡ list_any (is_same_name n) (map name xs)
any_named name n [] = refl
any_named name n (x ∷ xs) = ap (λ b. is_same_name n (name x) || b) (any_named name n xs)

-- items that have the same names one by one
pub once_by : {A B : Type 0} (name : A → VersionName) (other : B → VersionName) (xs : List A) (ys : List B) → map name xs ≡ map other ys
    → Once name xs → Once other ys
once_by name other xs [] h o = tt
once_by name other [] (y ∷ ys) h o = cc
once_by name other (x ∷ xs) (y ∷ ys) h o =
    let first : name x ≡ other y = cc in
    let rest : map name xs ≡ map other ys = cc in
    (any_named other (other y) ys ∙ sym (λ i. list_any (is_same_name (first i)) (rest i)) ∙ sym (any_named name (name x) xs) ∙ o.0, once_by name other xs ys rest o.1)
