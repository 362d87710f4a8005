-- What a change reaches of the versions is closed, and the least of what is.
use Rattle.std.proofs.Common.{◌≡◌, ℕ, Bool, true, false, not, ◌||◌, List, [], ◌∷◌, length, map, Option, Some, None, refl, sym, ap, subst, ◌∙◌, inl, inr}
use Rattle.std.specs.Cmp.Lexicographic.{pointwise}
use Rattle.std.specs.List.{find}
use Rattle.std.specs.Map.{keys_of}
use Rattle.std.specs.Option.{option_map}
use Rattle.std.proofs.lemmas.Bool.{and_from, or_cases, or_left, or_right}
use Rattle.std.proofs.lemmas.List.{length-map}
use Rattle.mq_ir.specs.CountLaws.{AgreeOn, Covers, affected_closed}
use Rattle.mq_ir.specs.Keys.{Tuple}
use Rattle.mq_ir.specs.Partitions.{Cells}
use Rattle.mq_ir.specs.RoundLaws.{affected_least, seeds_affected, some_look_within}
use Rattle.mq_ir.specs.Rounds.{affected, some_look}
use Rattle.mq_ir.specs.Unfolding.{Model}
use Rattle.mq_ir.specs.VersionLooks.{VersionLink, VersionName, VersionNode, Made, Given, There, is_link_of, is_same_name, is_same_node, links_from, looks_at_node, name_of, resolved_looks, version_links}
use Rattle.mq_ir.specs.VersionSeeds.{is_version_affected, is_version_seed, looks_differ}
use Rattle.mq_ir.specs.Versions.{Version, versions}
use Rattle.mq_change_laws.specs.ReachLaws.{told_alike}
use Rattle.mq_version_laws.specs.AffectedVersionLaws.{AffectedByLooks, AffectedIsLeast, IsClosed, SameKeysSeedNone}
use Rattle.mq_version_laws.proofs.NameLemmas.{name_is, node_itself}

abbrev pub made : Version → VersionNode
made v = Made (name_of v)

-- ---- the versions are all the nodes that have looks
module _ (p q : VersionNode → Bool) (name : VersionName) where
  agree_linked : (earlier vs : List Version) → AgreeOn p q (map made vs) → (link : VersionLink)
      → find (is_link_of name) (links_from earlier vs) ≡ Some link → p (Made name) ≡ q (Made name)
  agree_linked earlier [] agree link h = cc
  agree_linked earlier (v ∷ vs) agree link h = by (is_same_name name (name_of v)) refl (agree_linked (v ∷ earlier) vs agree.1 link)
    where
      by : (b : Bool) → is_same_name name (name_of v) ≡ b
          → (find (is_link_of name) (links_from (v ∷ earlier) vs) ≡ Some link → p (Made name) ≡ q (Made name))
          → p (Made name) ≡ q (Made name)
      by true e rest = let is : Made name ≡ made v = ap Made (name_is name (name_of v) e) in ap p is ∙ agree.0 ∙ sym (ap q is)
      by false e rest = rest (rw e at h)

module _ (model : Model) (keys : List Tuple) where
  covered : (p q : VersionNode → Bool) → AgreeOn p q (map made (versions model keys))
      → ((t : VersionNode) → looks_at_node model keys t ≡ None → p t ≡ q t)
      → (name : VersionName) (o : Option VersionLink) → find (is_link_of name) (version_links model keys) ≡ o
      → p (Made name) ≡ q (Made name)
  covered p q agree elsewhere name None e = elsewhere (Made name) (ap (option_map (resolved_looks model)) e)
  covered p q agree elsewhere name (Some link) e = agree_linked p q name [] (versions model keys) agree link e

  covers : Covers (looks_at_node model keys) (map made (versions model keys))
  covers p q agree elsewhere (Made name) = covered p q agree elsewhere name (find (is_link_of name) (version_links model keys)) refl
  covers p q agree elsewhere (Given c) = elsewhere (Given c) refl
  covers p q agree elsewhere (There key) = elsewhere (There key) refl

module _ (model : Model) (old new : Cells) where
  abbrev looks : VersionNode → Option (List VersionNode)
  looks = looks_at_node model (keys_of new)

  abbrev seed : VersionNode → Bool
  seed = is_version_seed model old new

  abbrev reached : VersionNode → Bool
  reached = is_version_affected model old new

  abbrev count : ℕ
  count = length (versions model (keys_of new))

  closed : IsClosed model new reached
  closed node h =
      let same : length (map made (versions model (keys_of new))) ≡ count = length-map (versions model (keys_of new)) made in
      subst (λ n. affected looks seed n node ≡ true) same
      (affected_closed looks (map made (versions model (keys_of new))) (covers model (keys_of new)) seed node
      (subst (λ n. some_look (affected looks seed n) (looks node) ≡ true) (sym same) h))

  pub least : (held : VersionNode → Bool) → AffectedIsLeast model old new held
  least held begins follows = affected_least looks seed held begins follows count

  -- a seed, or what looks at what is affected
  abbrev held : VersionNode → Bool
  held t = seed t || some_look reached (looks t)

  within : (t : VersionNode) → held t ≡ true → reached t ≡ true
  within t h = elim (or_cases (seed t) (some_look reached (looks t)) h) [ inl s ↦ seeds_affected looks seed count t s | inr l ↦ closed t l ]

  pub by_looks : (node : VersionNode) → AffectedByLooks model old new node
  by_looks node =
      told_alike (reached node) (held node)
      (least held (λ t s. or_left (seed t) (some_look reached (looks t)) s)
      (λ t h. or_right (seed t) (some_look reached (looks t)) (some_look_within held reached within (looks t) h)) node)
      (within node)

-- ---- the same keys
nodes_themselves : (nodes : List VersionNode) → pointwise is_same_node nodes nodes ≡ true
nodes_themselves [] = refl
nodes_themselves (x ∷ xs) = and_from (is_same_node x x) (pointwise is_same_node xs xs) (node_itself x) (nodes_themselves xs)

no_difference : (o : Option (List VersionNode)) → looks_differ o o ≡ false
no_difference None = refl
no_difference (Some nodes) = ap not (nodes_themselves nodes)

pub same_keys : (model : Model) (old new : Cells) (name : VersionName) → SameKeysSeedNone model old new name
same_keys model old new name h =
    ap (λ ks. looks_differ (looks_at_node model ks (Made name)) (looks_at_node model (keys_of new) (Made name))) h
    ∙ no_difference (looks_at_node model (keys_of new) (Made name))
