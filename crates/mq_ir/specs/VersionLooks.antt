-- What the versions of cell measures look at: at one another, and at the input.
use Rattle.std.specs.Prelude.{ℕ, List, [], ◌∷◌, map, Bool, false, ◌&&◌, ◌==◌, Option, None}
use Rattle.std.specs.List.{find}
use Rattle.std.specs.Option.{option_map, option_map_or}
use Rattle.mq_ir.specs.declared.query.CellName.{CellName}
use Rattle.mq_ir.specs.declared.query.Look.{Look}
use Rattle.mq_ir.specs.declared.query.Look.TheVariants.{Measure, Presence}
use Rattle.mq_ir.specs.Keys.{Tuple, is_same}
use Rattle.mq_ir.specs.Looks.{looks_of}
use Rattle.mq_ir.specs.Reads.{Site}
use Rattle.mq_ir.specs.Unfolding.{Model}
use Rattle.mq_ir.specs.Versions.{Version, versions}

-- a version goes by its rule's number, its place, and its cell
pub record VersionName : Type 0 where
  pub number : ℕ
  pub place : ℕ
  pub key : Tuple

abbrev pub name_of : Version → VersionName
name_of v = record { number = v.number; place = v.place; key = v.key }

abbrev pub is_same_name : VersionName → VersionName → Bool
is_same_name a b = (a.number == b.number) && (a.place == b.place) && is_same a.key b.key

-- whether it assigns this cell measure
abbrev pub is_version_of : CellName → Version → Bool
is_version_of c v = is_same c.key v.key && (c.measure == v.rule.measure)

-- what a version may look at: a version, a measure of a cell of the input, or whether a cell is in the input
pub data VersionNode : Type 0 where
  Made : VersionName → VersionNode
  Given : CellName → VersionNode
  There : Tuple → VersionNode

abbrev pub is_same_node : VersionNode → VersionNode → Bool
is_same_node (Made a) (Made b) = is_same_name a b
is_same_node (Given a) (Given b) = is_same a.key b.key && (a.measure == b.measure)
is_same_node (There a) (There b) = is_same a b
is_same_node _ _ = false

-- A look, resolved: the last version of that cell measure among the earlier ones, or the input where there is none. The
-- earlier versions stand with the latest first. Presence is of the input.
abbrev pub resolved : List Version → Look → VersionNode
resolved earlier (Measure c) = option_map_or (λ v. Made (name_of v)) (find (is_version_of c) earlier) (Given c)
resolved earlier (Presence key) = There key

abbrev pub version_site : Model → Version → Site
version_site model v = record { model = model; target = v.key; turn = 0; set = v.set }

-- the looks of a version, over the cells that are there when it is assigned
abbrev pub version_looks : Model → Version → List Look
version_looks model v = looks_of (version_site model v) v.rule.right

-- a version, with those before it, the latest first
pub record VersionLink : Type 0 where
  pub version : Version
  pub earlier : List Version

abbrev pub links_from : List Version → List Version → List VersionLink
links_from earlier [] = []
links_from earlier (v ∷ vs) = record { version = v; earlier = earlier } ∷ links_from (v ∷ earlier) vs

abbrev pub version_links : Model → List Tuple → List VersionLink
version_links model keys = links_from [] (versions model keys)

abbrev pub resolved_looks : Model → VersionLink → List VersionNode
resolved_looks model link = map (resolved link.earlier) (version_looks model link.version)

abbrev pub is_link_of : VersionName → VersionLink → Bool
is_link_of name link = is_same_name name (name_of link.version)

abbrev pub looks_among : Model → List VersionLink → VersionNode → Option (List VersionNode)
looks_among model links (Made name) = option_map (resolved_looks model) (find (is_link_of name) links)
looks_among model links (Given c) = None
looks_among model links (There key) = None

-- the resolved looks of a node over an input with these keys; only what is one of the versions has any
abbrev pub looks_at_node : Model → List Tuple → VersionNode → Option (List VersionNode)
looks_at_node model keys = looks_among model (version_links model keys)
