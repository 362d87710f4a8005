-- What stands before the rules of a model: the main options, how many rules there are, and ITERATE.
use Rattle.std.specs.Prelude.{ℕ, pos, negsuc, length, ◌&&◌, nat_lt, nat_le, Option, Some, None, is_some, Result, Ok, Err, if◌then◌else◌}
use Rattle.mq_values.specs.Number.{Number}
use Rattle.mq_values.specs.declared.faults.Refused.{Refused}
use Rattle.mq_values.specs.declared.limits.TheConstants.{MAX_RULES, MAX_TURNS}
use Rattle.mq_ast.specs.declared.queries.ModelTree.{ModelTree}
use Rattle.mq_ir.specs.declared.limit_numbers.TheConstants.{LIMIT_OF_RULES, LIMIT_OF_TURNS}
use Rattle.mq_ir.specs.Results.{◌>>=◌}
use Rattle.mq_bind_scopes.specs.declared.misuse_numbers.TheConstants.{MISUSE_OF_ITERATE}
use Rattle.mq_bind_scopes.specs.Options.{options_checked}
use Rattle.mq_bind_scopes.specs.Refusals.{limit, misuse, refused_where}

-- the number of ITERATE is a whole number from 1 on
abbrev pub turns_of : Number → Option ℕ
turns_of n = elim n.mant [ pos turns ↦ if nat_lt 0 turns && nat_le turns MAX_TURNS then Some turns else None | negsuc k ↦ None ]

abbrev pub turns_bound : Option Number → Result (Option ℕ) Refused
turns_bound None = Ok None
turns_bound (Some n) = elim (turns_of n) [ Some turns ↦ Ok (Some turns) | None ↦ Err (limit LIMIT_OF_TURNS) ]

-- the main options, the number of rules, that of ITERATE, and ITERATE with AUTOMATIC ORDER
abbrev pub head_bound : ModelTree → Result (Option ℕ) Refused
head_bound m =
    options_checked m.main_opts (
    refused_where (nat_lt MAX_RULES (length m.rules)) (limit LIMIT_OF_RULES) (
    turns_bound m.iterate >>= (λ turns. refused_where (m.auto && is_some turns) (misuse MISUSE_OF_ITERATE) (Ok turns))))
