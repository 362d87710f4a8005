-- The summary of a generated script, written whole or a front of it.
use Rattle.std.proofs.Common.{◌≡◌, ℕ, List, Bool, if◌then◌else◌, Option, sym, ap, ◌∙◌, subst}
use Rattle.std.specs.Io.KnownBytes.{Appends}
use Rattle.mq_io.specs.Progress.{AppendsFront}
use Rattle.mq_lexer.specs.Statements.{statements}
use Rattle.mq_lexer.specs.Tokens.{tokens}
use Rattle.mq_ir.specs.Lines.{Line}
use Rattle.mq_generate.specs.Script.{script_of}
use Rattle.mq_tool.specs.declared.generated.Summary.{Summary}
use Rattle.mq_tool.specs.declared.statuses.TheConstants.{DONE, FLAWED}
use Rattle.mq_tool.specs.Script.{IsOutput, status_of}
use Rattle.mq_tool.specs.Loads.{no_files}
use Rattle.mq_tool.specs.Summary.{IsSummaryOf, summary_text}
use Rattle.mq_tool.proofs.ReadLemmas.{one_printed}

module _ (number size : ℕ) (s : Summary) (before after : Option (List ℕ)) (is : IsSummaryOf (script_of number size) s) where
  -- the summary was written
  pub summary_done : (flaw : Bool) → s.flaw ≡ flaw → Appends before after s.text.items
      → (lines : List Line) × IsOutput no_files (script_of number size) lines × Appends before after (summary_text number size lines)
      × ((if flaw then FLAWED else DONE) ≡ status_of lines)
  summary_done flaw f a = (is.0, is.1, subst (Appends before after) is.2 a, ap (λ b. if b then FLAWED else DONE) (sym f ∙ is.3))

  -- or a front of it, whichever lines the script has
  pub summary_front : AppendsFront before after s.text.items → (lines : List Line) → IsOutput no_files (script_of number size) lines
      → AppendsFront before after (summary_text number size lines)
  summary_front front lines out =
      let same : lines ≡ is.0 = one_printed no_files (statements (tokens (script_of number size))) lines is.0 out is.1 in
      subst (AppendsFront before after) (is.2 ∙ ap (summary_text number size) (sym same)) front
