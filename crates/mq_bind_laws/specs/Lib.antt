pub mod BoundViews
pub mod ColumnsWithin
pub mod DroppedTables
pub mod FurtherTable
pub mod RefusedStatements
pub mod StatementsBetween
