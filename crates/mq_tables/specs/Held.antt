-- What holds of tables at all times.
use Rattle.std.specs.Prelude.{◌≡◌, true, false, [], ◌∷◌}
use Rattle.std.specs.List.{list_all, list_any}
use Rattle.mq_ir.specs.FitsStatement.{is_row_of}
use Rattle.mq_ir.specs.Tables.{Table, Tables, is_name}

-- no two tables have one name
abbrev pub HaveOwnNames : Tables → Type 0
HaveOwnNames [] = Unit {0}
HaveOwnNames (t ∷ ts) = (list_any (λ (u : Table). is_name t.name u.name) ts ≡ false) × HaveOwnNames ts

-- each row is a row of its table
abbrev pub RowsFit : Tables → Type 0
RowsFit [] = Unit {0}
RowsFit (t ∷ ts) = (list_all (is_row_of t.schema) t.rows ≡ true) × RowsFit ts
