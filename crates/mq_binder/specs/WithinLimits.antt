-- Catalogs whose columns have no more digits behind the point than a number may have, and whose models name each measure.
use Rattle.std.specs.Prelude.{Bool, true, length, ◌==◌}
use Rattle.std.specs.List.{list_all}
use Rattle.std.specs.Option.{option_map_or}
use Rattle.mq_ir.specs.declared.catalog.Catalog.{Catalog}
use Rattle.mq_ir.specs.declared.catalog.TableEntry.{TableEntry}
use Rattle.mq_ir.specs.declared.catalog.View.{View}
use Rattle.mq_ir.specs.declared.query.ModelPart.{ModelPart}
use Rattle.mq_ir.specs.declared.statement.Column.{Column}
use Rattle.mq_bind_scopes.specs.Kinds.{of_column}
use Rattle.mq_binder.specs.Literals.{is_within}

abbrev pub column_is_within : Column → Bool
column_is_within c = is_within (of_column c.kind)

abbrev pub table_is_within : TableEntry → Bool
table_is_within t = list_all column_is_within t.schema.cols

abbrev pub columns_within : Catalog → Bool
columns_within catalog = list_all table_is_within catalog.tables

-- a model has a name for each measure
abbrev pub names_measures : ModelPart → Bool
names_measures part = length part.names == length part.measures

abbrev pub view_names_measures : View → Bool
view_names_measures view = option_map_or names_measures view.query.model true

abbrev pub measures_named : Catalog → Bool
measures_named catalog = list_all view_names_measures catalog.views
