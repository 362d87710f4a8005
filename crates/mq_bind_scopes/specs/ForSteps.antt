-- FOR .. FROM: the kinds of its start, stop and step against the dimension that it stands for.
use Rattle.std.specs.Prelude.{Bool, false, not, ◌&&◌, Option, Some, None}
use Rattle.mq_bind_scopes.specs.declared.kinds.ExprKind.{ExprKind}
use Rattle.mq_bind_scopes.specs.declared.kinds.ExprKind.TheVariants as kind
use Rattle.mq_bind_scopes.specs.Kinds.{is_condition_kind, is_day_count, is_index}

-- all three are values
abbrev pub are_values : ExprKind → ExprKind → ExprKind → Bool
are_values start stop step = not (is_condition_kind start) && not (is_condition_kind stop) && not (is_condition_kind step)

abbrev pub bounds_fit : ExprKind → ExprKind → ExprKind → Bool
bounds_fit dim start stop = is_index dim start && is_index dim stop

-- FOR .. FROM wants a dimension of numbers, or one of dates, which it goes through by a number of days
abbrev pub steps_fit : Option ExprKind → ExprKind → ExprKind → ExprKind → Bool
steps_fit None start stop step = are_values start stop step
steps_fit (Some (kind.Number s)) start stop step = bounds_fit (kind.Number s) start stop && is_index (kind.Number s) step
steps_fit (Some kind.Date) start stop step = bounds_fit kind.Date start stop && is_day_count step
steps_fit (Some _) start stop step = false
