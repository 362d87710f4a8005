-- The kinds of expressions, and how they go together.
use Rattle.std.specs.Prelude.{ℕ, max, Bool, true, false, not, nat_le, ◌==◌, if◌then◌else◌, List, [], ◌∷◌, Option, Some, None, Result, Ok, Err}
use Rattle.mq_values.specs.declared.faults.Refused.{Refused}
use Rattle.mq_values.specs.declared.value.Kind.{Kind}
use Rattle.mq_values.specs.declared.value.Kind.TheVariants as column
use Rattle.mq_values.specs.declared.value.Value.{Value}
use Rattle.mq_values.specs.declared.value.Value.TheVariants as value
use Rattle.mq_ir.specs.Results.{◌>>=◌}
use Rattle.mq_bind_scopes.specs.declared.kinds.ExprKind.{ExprKind}
use Rattle.mq_bind_scopes.specs.declared.kinds.ExprKind.TheVariants as kind
use Rattle.mq_bind_scopes.specs.Refusals.{kind_mismatch}

-- a kind, or an offence
abbrev pub Judged : Type 0
Judged = Result ExprKind Refused

-- an operand that an operator does not take
abbrev pub mismatch : {A : Type 0} → Result A Refused
mismatch = Err kind_mismatch

-- the kind of a literal, and that of a column
abbrev pub value_kind : Value → ExprKind
value_kind (value.Num n) = kind.Number n.scale
value_kind (value.Text t) = kind.Text
value_kind (value.Date d) = kind.Date
value_kind value.Null = kind.Null

abbrev pub of_column : Kind → ExprKind
of_column column.Int = kind.Number 0
of_column (column.Decimal s) = kind.Number s
of_column column.Text = kind.Text
of_column column.Date = kind.Date

-- the kind of a column that holds such values; NULL and a condition have none
abbrev pub column_kind : ExprKind → Option Kind
column_kind (kind.Number s) = Some (if s == 0 then column.Int else column.Decimal s)
column_kind kind.Text = Some column.Text
column_kind kind.Date = Some column.Date
column_kind kind.Null = None
column_kind kind.Condition = None

abbrev pub is_condition_kind : ExprKind → Bool
is_condition_kind kind.Condition = true
is_condition_kind _ = false

abbrev pub is_null_kind : ExprKind → Bool
is_null_kind kind.Null = true
is_null_kind _ = false

-- the scale of a number; that of NULL is that of an INT where an operator takes it
abbrev pub number_scale : ExprKind → Result ℕ Refused
number_scale (kind.Number s) = Ok s
number_scale _ = mismatch

abbrev pub operand_scale : ExprKind → Result ℕ Refused
operand_scale kind.Null = Ok 0
operand_scale k = number_scale k

-- a number of days, which is whole; NULL stands for one too
abbrev pub is_day_count : ExprKind → Bool
is_day_count (kind.Number s) = s == 0
is_day_count kind.Null = true
is_day_count _ = false

-- numbers with numbers, texts with texts, dates with dates, and NULL with each: the larger scale
abbrev pub wider : ExprKind → ExprKind → Judged
wider (kind.Number s) (kind.Number t) = Ok (kind.Number (max s t))
wider (kind.Number s) kind.Null = Ok (kind.Number s)
wider kind.Text kind.Text = Ok kind.Text
wider kind.Text kind.Null = Ok kind.Text
wider kind.Date kind.Date = Ok kind.Date
wider kind.Date kind.Null = Ok kind.Date
wider kind.Null (kind.Number t) = Ok (kind.Number t)
wider kind.Null kind.Text = Ok kind.Text
wider kind.Null kind.Date = Ok kind.Date
wider kind.Null kind.Null = Ok kind.Null
wider _ _ = mismatch

-- the one kind that all of these go into, where there is one; it is NULL where all are
abbrev pub common_from : ExprKind → List ExprKind → Judged
common_from k [] = Ok k
common_from k (l ∷ ls) = wider k l >>= (λ m. common_from m ls)

abbrev pub common : List ExprKind → Judged
common = common_from kind.Null

-- a value that a column or measure of the first kind takes; it is converted
abbrev pub is_assignable : ExprKind → ExprKind → Bool
is_assignable (kind.Number s) (kind.Number t) = true
is_assignable kind.Text kind.Text = true
is_assignable kind.Date kind.Date = true
is_assignable (kind.Number s) kind.Null = true
is_assignable kind.Text kind.Null = true
is_assignable kind.Date kind.Null = true
is_assignable _ _ = false

-- a value that names one of a dimension of the first kind: no digit is lost
abbrev pub is_index : ExprKind → ExprKind → Bool
is_index (kind.Number s) (kind.Number t) = nat_le t s
is_index k l = is_assignable k l
