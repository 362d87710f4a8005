-- A resolved look tells the look that it was.
use Rattle.std.proofs.Common.{◌≡◌, ◌-◌, Bool, true, false, List, [], ◌∷◌, cond, map, Some, slice_get, refl, sym, ap, ◌∙◌, eqb}
use Rattle.std.specs.List.{find}
use Rattle.std.specs.Option.{option_map_or}
use Rattle.std.proofs.lemmas.Bool.{and_parts, eqb-true}
use Rattle.mq_ir.specs.declared.query.CellName.{CellName}
use Rattle.mq_ir.specs.declared.query.Look.{Look}
use Rattle.mq_ir.specs.declared.query.Look.TheVariants.{Measure, Presence}
use Rattle.mq_ir.specs.declared.query.Rule.{Rule}
use Rattle.mq_ir.specs.EachLaws.{Each}
use Rattle.mq_ir.specs.Keys.{is_same}
use Rattle.mq_ir.specs.Unfolding.{Model}
use Rattle.mq_ir.specs.VersionLooks.{VersionNode, Made, Given, There, is_version_of, name_of, resolved}
use Rattle.mq_ir.specs.Versions.{Version}
use Rattle.mq_change_laws.specs.SoundLaws.{same_is}

-- a version is by the rule of its number
abbrev pub IsRuled : Model → Version → Type 0
IsRuled model v = slice_get model.part.rules (v.number - 1) ≡ Some v.rule

-- what was looked at: a version assigns the measure of its rule
abbrev looked_at : Model → VersionNode → Look
looked_at model (Made name) =
    Measure (record { key = name.key; measure = option_map_or (λ (rule : Rule). rule.measure) (slice_get model.part.rules (name.number - 1)) 0 })
looked_at model (Given c) = Measure c
looked_at model (There key) = Presence key

module _ (model : Model) where
  found_back : (c : CellName) (earlier : List Version) → Each (IsRuled model) earlier
      → looked_at model (option_map_or (λ v. Made (name_of v)) (find (is_version_of c) earlier) (Given c)) ≡ Measure c
  found_back c [] a = refl
  found_back c (v ∷ vs) a = by (is_version_of c v) refl (found_back c vs a.1)
    where
      by : (b : Bool) → is_version_of c v ≡ b
          → looked_at model (option_map_or (λ v. Made (name_of v)) (find (is_version_of c) vs) (Given c)) ≡ Measure c
          → looked_at model (option_map_or (λ v. Made (name_of v)) (cond b (Some v) (find (is_version_of c) vs)) (Given c)) ≡ Measure c
      by true e rest =
          let both = and_parts (is_same c.key v.key) (eqb c.measure v.rule.measure) e in
          let key : v.key ≡ c.key = sym (same_is c.key v.key both.0) in
          let measure : option_map_or (λ (rule : Rule). rule.measure) (slice_get model.part.rules (v.number - 1)) 0 ≡ c.measure =
          ap (λ o. option_map_or (λ (rule : Rule). rule.measure) o 0) a.0 ∙ sym (eqb-true c.measure v.rule.measure both.1) in
          λ i. Measure (record { key = key i; measure = measure i })
      by false e rest = rest

  looked_back : (earlier : List Version) → Each (IsRuled model) earlier → (look : Look) → looked_at model (resolved earlier look) ≡ look
  looked_back earlier a (Measure c) = found_back c earlier a
  looked_back earlier a (Presence key) = refl

  looks_back : (earlier : List Version) → Each (IsRuled model) earlier → (looks : List Look)
      → map (looked_at model) (map (resolved earlier) looks) ≡ looks
  looks_back earlier a [] = refl
  looks_back earlier a (look ∷ looks) = λ i. looked_back earlier a look i ∷ looks_back earlier a looks i

  -- the same resolved looks were the same looks
  pub same_before : (earlier others : List Version) → Each (IsRuled model) earlier → Each (IsRuled model) others → (looks more : List Look)
      → map (resolved earlier) looks ≡ map (resolved others) more → looks ≡ more
  same_before earlier others a b looks more h = sym (looks_back earlier a looks) ∙ ap (map (looked_at model)) h ∙ looks_back others b more
