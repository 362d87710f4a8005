-- What was seen at looks is what stands there.
use Rattle.std.proofs.Common.{◌≡◌, ℕ, zero, suc, ◌<◌, List, [], ◌∷◌, Bool, true, false, ◌&&◌, ◌||◌, ◌==◌, eqb, cond, length, get_or, refl, sym, ap, ◌∙◌, arith}
use Rattle.std.specs.Ordering.{is_eq}
use Rattle.std.specs.Cmp.{first_so, second_so, unsigned_Decides}
use Rattle.std.specs.declared.cmp.Ordering.{Ordering}
use Rattle.std.specs.declared.cmp.Ordering.TheVariants.{Less, Equal, Greater}
use Rattle.mq_values.specs.Order.{cmp_key}
use Rattle.mq_values.specs.OrderTells.{key_itself, same_key}
use Rattle.mq_values.specs.declared.value.Value.{Value}
use Rattle.mq_ir.specs.declared.query.CellName.{CellName}
use Rattle.mq_ir.specs.declared.query.Look.{Look}
use Rattle.mq_ir.specs.declared.query.Look.TheVariants.{Measure, Presence}
use Rattle.mq_ir.specs.ReadLaws.{AgreeAt}
use Rattle.mq_ir.specs.Slots.{Slots, done_value}
use Rattle.mq_cells.specs.Stores.{is_named}
use Rattle.mq_refs.specs.Sightings.{AreSteady, is_looked_at, seen_at, value_seen}
use Rattle.mq_refs.specs.declared.sighting.Sighting.{Sighting}

pub equal_is : (r : Ordering) → is_eq r ≡ true → r ≡ Equal
equal_is Less h = cc
equal_is Equal h = refl
equal_is Greater h = cc

-- what has the same name is the same measure
pub same_name : (a b : CellName) → is_named a b ≡ true → a ≡ b
same_name a b h =
    let k : a.key ≡ b.key = same_key a.key b.key (equal_is (cmp_key a.key b.key) (first_so (is_eq (cmp_key a.key b.key)) (eqb a.measure b.measure) h)) in
    let m : a.measure ≡ b.measure = (unsigned_Decides a.measure b.measure).0 (second_so (is_eq (cmp_key a.key b.key)) (eqb a.measure b.measure) h) in
    λ i. record { key = k i; measure = m i }

named_itself : (c : CellName) → is_named c c ≡ true
named_itself c =
    ap (λ r. is_eq r && (c.measure == c.measure)) (key_itself c.key) ∙ (unsigned_Decides c.measure c.measure).1 refl

second_holds : (a b : Bool) → b ≡ true → (a || b) ≡ true
second_holds true b h = refl
second_holds false b h = h

module _ (slots : Slots) where
  abbrev value_there : CellName → Value
  value_there c = done_value (slots c)

  -- what is seen at a measure that is looked at
  tells : (looks : List Look) (c : CellName) → is_looked_at looks c ≡ true → value_seen (seen_at slots looks) c ≡ value_there c
  tells [] c h = cc
  tells (Measure d ∷ looks) c h = by (is_named d c) refl (tells looks c)
    where
      by : (b : Bool) → is_named d c ≡ b → (is_looked_at looks c ≡ true → value_seen (seen_at slots looks) c ≡ value_there c) →
          cond b (value_there d) (value_seen (seen_at slots looks) c) ≡ value_there c
      by true e rest = ap value_there (same_name d c e)
      by false e rest = rest (sym (ap (λ b. b || is_looked_at looks c) e) ∙ h)
  tells (Presence key ∷ looks) c h = tells looks c h

  -- over looks that are among all looks
  agree_among : (all looks : List Look) → ((c : CellName) → is_looked_at looks c ≡ true → is_looked_at all c ≡ true) → AgreeAt (value_seen (seen_at slots all)) value_there looks
  agree_among all [] h = tt
  agree_among all (Measure c ∷ looks) h = (
    tells all c (h c (ap (λ b. b || is_looked_at looks c) (named_itself c))),
    agree_among all looks (λ d l. h d (second_holds (is_named c d) (is_looked_at looks d) l)),
  )
  agree_among all (Presence key ∷ looks) h = agree_among all looks h

  pub agree_at : (looks : List Look) → AgreeAt (value_seen (seen_at slots looks)) value_there looks
  agree_at looks = agree_among looks looks (λ c h. h)

  -- each sighting is of a look, and of what stands there
  each_is : (looks : List Look) (k : ℕ) (d : Sighting) → k < length (seen_at slots looks) →
      (is_looked_at looks (get_or (seen_at slots looks) k d).name ≡ true) × ((get_or (seen_at slots looks) k d).value ≡ value_there (get_or (seen_at slots looks) k d).name)
  each_is [] k d l = absurd (omega arith)
  each_is (Measure c ∷ looks) zero d l = (ap (λ b. b || is_looked_at looks c) (named_itself c), refl)
  each_is (Measure c ∷ looks) (suc k) d l =
      let rest = each_is looks k d (omega arith) in
      (second_holds (is_named c (get_or (seen_at slots looks) k d).name) (is_looked_at looks (get_or (seen_at slots looks) k d).name) rest.0, rest.1)
  each_is (Presence key ∷ looks) k d l = each_is looks k d l

  pub steady_at : (looks : List Look) → AreSteady (seen_at slots looks)
  steady_at looks k d l =
      let one = each_is looks k d l in
      tells looks (get_or (seen_at slots looks) k d).name one.0 ∙ sym one.1

-- a sighting that has the name of a measure has what was seen there
pub seen_there : (seen : List Sighting) (k : ℕ) (d : Sighting) (c : CellName) → AreSteady seen → k < length seen → is_named (get_or seen k d).name c ≡ true → (get_or seen k d).value ≡ value_seen seen c
seen_there seen k d c steady l named = sym (steady k d l) ∙ ap (value_seen seen) (same_name (get_or seen k d).name c named)
