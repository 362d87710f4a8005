-- Nodes that look at nodes: which can be worked out, what their values are, and what a change reaches. All of it
-- goes by rounds, and is generic in the nodes and in their values.
use Rattle.std.specs.Prelude.{ℕ, zero, suc, Bool, true, false, ◌||◌, List, Option, Some, None, is_none}
use Rattle.std.specs.List.{list_all, list_any}

-- a test of each look of a node, and of some look; None is a node that is not assigned, and such a one passes
abbrev pub every_look : {N : Type 0} → (N → Bool) → Option (List N) → Bool
every_look test None = true
every_look test (Some looks) = list_all test looks

abbrev pub some_look : {N : Type 0} → (N → Bool) → Option (List N) → Bool
some_look test None = false
some_look test (Some looks) = list_any test looks

-- levelled within n rounds: each of its looks was levelled in an earlier one; what is not assigned is levelled from the start
abbrev pub levelled : {N : Type 0} → (N → Option (List N)) → ℕ → N → Bool
levelled looks_of zero node = is_none (looks_of node)
levelled looks_of (suc n) node = every_look (levelled looks_of n) (looks_of node)

-- The looks of each assigned node, its value out of a map of the values of nodes, what it has before the first round,
-- and the value of a node that is not assigned.
pub record System (N V : Type 0) : Type 0 where
  pub looks_of : N → Option (List N)
  pub step : N → (N → V) → V
  pub unknown : V
  pub input : N → V

-- the value of a node that is assigned, else its input
abbrev pub where_assigned : {N V : Type 0} → Option (List N) → V → V → V
where_assigned None found given = given
where_assigned (Some looks) found given = found

-- the value of a node after n rounds
abbrev pub value : {N V : Type 0} → System N V → ℕ → N → V
value s zero node = where_assigned (s.looks_of node) s.unknown (s.input node)
value s (suc n) node = where_assigned (s.looks_of node) (s.step node (value s n)) (s.input node)

-- what a change reaches within n rounds: the seeds, and what looks at a node that it reached a round earlier
abbrev pub affected : {N : Type 0} → (N → Option (List N)) → (N → Bool) → ℕ → N → Bool
affected looks_of seeds zero node = seeds node
affected looks_of seeds (suc n) node = seeds node || some_look (affected looks_of seeds n) (looks_of node)
