-- The options of a list: which of them clash, and whether NAV is ignored.
use Rattle.std.specs.Prelude.{List, length, filter, Bool, true, false, ◌||◌, nat_lt, if◌then◌else◌, Result}
use Rattle.std.specs.List.{list_any}
use Rattle.mq_values.specs.declared.faults.Refused.{Refused}
use Rattle.mq_ast.specs.declared.queries.Opt.{Opt}
use Rattle.mq_ast.specs.declared.queries.Opt.TheVariants as opt
use Rattle.mq_bind_scopes.specs.declared.misuse_numbers.TheConstants.{MISUSE_OF_OPTIONS}
use Rattle.mq_bind_scopes.specs.Refusals.{misuse, refused_where}

-- IGNORE NAV and KEEP NAV in one list, or one option twice
abbrev pub is_nav : Opt → Bool
is_nav opt.UniqueDimension = false
is_nav _ = true

abbrev pub is_unique : Opt → Bool
is_unique opt.UniqueDimension = true
is_unique _ = false

abbrev pub is_ignore : Opt → Bool
is_ignore opt.IgnoreNav = true
is_ignore _ = false

abbrev pub options_clash : List Opt → Bool
options_clash opts = nat_lt 1 (length (filter is_nav opts)) || nat_lt 1 (length (filter is_unique opts))

abbrev pub options_checked : {A : Type 0} → List Opt → Result A Refused → Result A Refused
options_checked opts next = refused_where (options_clash opts) (misuse MISUSE_OF_OPTIONS) next

-- whether NAV is ignored: by the own option, else by the one around it
abbrev pub ignores_nav : List Opt → Bool → Bool
ignores_nav opts around = if list_any is_nav opts then list_any is_ignore opts else around
