-- The run of a generated script, of which a summary is written.
use Rattle.std.specs.Prelude.{◌≡◌, ℕ, List, length}
use Rattle.std.specs.List.{list_any}
use Rattle.mq_lexer.specs.Statements.{statements}
use Rattle.mq_lexer.specs.Tokens as lexer
use Rattle.mq_ir.specs.Lines.{Line, is_flaw, text_of}
use Rattle.mq_generate.specs.Script.{script_of}
use Rattle.mq_generate.specs.Summary.{summary_of}
use Rattle.mq_tool.specs.declared.generated.Summary.{Summary}
use Rattle.mq_tool.specs.Loads.{no_files}
use Rattle.mq_tool.specs.Script.{IsOutput}

-- the summary of these lines, the output of the script that a number and a size generate
abbrev pub summary_text : ℕ → ℕ → List Line → List ℕ
summary_text number size lines = summary_of (length (statements (lexer.tokens (script_of number size)))) (text_of lines)

-- the summary of the lines of a script, and whether one of them is a flaw
abbrev pub IsSummaryOf : List ℕ → Summary → Type 0
IsSummaryOf text s =
    (lines : List Line) × IsOutput no_files text lines
    × (s.text.items ≡ summary_of (length (statements (lexer.tokens text))) (text_of lines)) × (s.flaw ≡ list_any is_flaw lines)
