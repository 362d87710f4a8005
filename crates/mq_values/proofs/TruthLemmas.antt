-- Conditions of three values, one after another.
use Rattle.std.proofs.Common.{◌≡◌, true, false, Some, None, refl}
use Rattle.mq_values.specs.Truth.{Truth, both, either}

pub either_joins : (a b c : Truth) → either (either a b) c ≡ either a (either b c)
either_joins (Some true) b c = refl
either_joins (Some false) b c = refl
either_joins None (Some true) c = refl
either_joins None (Some false) c = refl
either_joins None None (Some true) = refl
either_joins None None (Some false) = refl
either_joins None None None = refl

pub either_ends : (a : Truth) → either a (Some false) ≡ a
either_ends (Some true) = refl
either_ends (Some false) = refl
either_ends None = refl

pub both_joins : (a b c : Truth) → both (both a b) c ≡ both a (both b c)
both_joins (Some false) b c = refl
both_joins (Some true) b c = refl
both_joins None (Some false) c = refl
both_joins None (Some true) c = refl
both_joins None None (Some false) = refl
both_joins None None (Some true) = refl
both_joins None None None = refl

pub both_ends : (a : Truth) → both a (Some true) ≡ a
both_ends (Some true) = refl
both_ends (Some false) = refl
both_ends None = refl

pub ruleset truth_laws = (either_joins, either_ends, both_joins, both_ends)
