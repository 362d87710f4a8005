-- What is kept of a view, by its query.
use Rattle.std.specs.Prelude.{◌≡◌, Some}
use Rattle.mq_ir.specs.declared.query.BoundQuery.{BoundQuery}
use Rattle.mq_ir.specs.declared.query.ModelPart.{ModelPart}
use Rattle.mq_ir.specs.Tables.{Tables}
use Rattle.mq_kept.specs.declared.standing.StandingView.{StandingView}
use Rattle.mq_kept.specs.Standing.{IsStanding}

-- what is kept of a view of this query stands over these tables
abbrev pub IsKeptOf : Tables → BoundQuery → StandingView → Type 0
IsKeptOf tables q standing = (part : ModelPart) → q.model ≡ Some part → IsStanding tables q part standing
