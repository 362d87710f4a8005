-- The rows of a model, once its references, its FOR subqueries and its partitions are there.
use Rattle.std.proofs.Common.{◌≡◌, List, [], Result, Ok, sym, ap, subst, ◌∙◌}
use Rattle.std.specs.List.{enumerate_from}
use Rattle.mq_values.specs.Answers.{Gives}
use Rattle.mq_values.specs.declared.faults.QueryFault.{QueryFault}
use Rattle.mq_values.specs.declared.memory.Fail.{Fail}
use Rattle.mq_ir.specs.declared.query.ModelPart.{ModelPart}
use Rattle.mq_ir.specs.declared.query.PartInput.{PartInput}
use Rattle.mq_ir.specs.Answer.{list_rows, model_rows}
use Rattle.mq_ir.specs.Partitions.{Cells, Tuple, partitions}
use Rattle.mq_ir.specs.Placed.{at_partition}
use Rattle.mq_ir.specs.References.{reference_over}
use Rattle.mq_ir.specs.Results.{◌>>=◌, each, marked}
use Rattle.mq_ir.specs.Tables.{Tables}
use Rattle.mq_ir.specs.Unfolding.{Model}
use Rattle.mq_answers.specs.Models.{gathered_rows}

module _ (tables : Tables) (part : ModelPart) (items : List Tuple) where
  abbrev model_with : List Cells → List (List Tuple) → Model
  model_with refs lists = record { part = part; lists = lists; refs = refs }

  abbrev rows_with : Result (List Cells) QueryFault → Result (List (List Tuple)) QueryFault → Result (List Tuple) QueryFault
  rows_with refs lists = (refs >>= (λ refs. lists >>= (λ lists. Ok (model_with refs lists)))) >>= (λ model. gathered_rows model (partitions part items))

  pub rows_gathered : (refs : List Cells) (lists : List (List Tuple)) (inputs : List PartInput) (result : Result (List Tuple) (Fail QueryFault))
      → marked (at_partition []) (each (reference_over tables) part.refs) ≡ Ok refs → each (list_rows tables part) (enumerate_from 0 part.lists) ≡ Ok lists
      → inputs ≡ partitions part items → Gives result (gathered_rows (model_with refs lists) inputs) → Gives result (model_rows tables items part)
  rows_gathered refs lists inputs result e f h g =
      subst (Gives result)
      (ap (gathered_rows (model_with refs lists)) h
      ∙ sym (ap (λ r. rows_with r (each (list_rows tables part) (enumerate_from 0 part.lists))) e ∙ ap (rows_with (Ok refs)) f))
      g
