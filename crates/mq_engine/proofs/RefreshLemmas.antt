-- A partition is still kept exactly where its new input has a shape.
use Rattle.std.proofs.Common.{◌≡◌, Result, Ok, Err, refl}
use Rattle.std.specs.Prelude.{IfSome}
use Rattle.std.specs.Result.{result_ok}
use Rattle.mq_auto.specs.declared.verdict.Verdict.{Verdict}
use Rattle.mq_auto.specs.declared.verdict.Verdict.TheVariants.{Done, Broken}
use Rattle.mq_auto.specs.Meaning.{IfDone, judged}
use Rattle.mq_ir.specs.declared.query.PartShape.{PartShape}
use Rattle.mq_ir.specs.Keys.{Tuple}
use Rattle.mq_ir.specs.Placed.{Placed}
use Rattle.mq_engine.specs.Refreshed.{kept_of}

pub kept_judged : (key : Tuple) (r : Result PartShape Placed) → kept_of (judged key r) ≡ result_ok r
kept_judged key (Ok shape) = refl
kept_judged key (Err fault) = refl

-- what holds of the shape that was found holds of the shape that is kept
pub kept_holds : (v : Verdict) (P : PartShape → Type 0) → IfDone v P → IfSome (kept_of v) P
kept_holds (Done shape) P h = h
kept_holds (Broken fault) P h = h
