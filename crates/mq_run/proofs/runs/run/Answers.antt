use Rattle.std.proofs.Common.{◌≡◌, ℕ, List, Some, sym, ap, ◌∙◌}
use Rattle.std.specs.Io.KnownBytes.{Appends}
use Rattle.mq_io.specs.Progress.{AppendsFront}
use Rattle.mq_ir.specs.Lines.{Line}
use Rattle.mq_generate.specs.Script.{script_of}
use Rattle.mq_tool.specs.Script.{IsOutput, status_of}
use Rattle.mq_tool.specs.Loads.{no_files}
use Rattle.mq_tool.specs.Summary.{summary_text}
use Rattle.mq_run.proofs.CommandLemmas.{same_script}
use Rattle.mq_run.proofs.runs.run.Goals as goal

pub returns-in-Some-Generated-clause-summary : goal.returns-in-Some-Generated-clause-summary
returns-in-Some-Generated-clause-summary g c =
    let before = g.K.Sink.taken c.args.out.now in
    let after = g.K.Sink.taken c.run_generated.new.out in
    let P : ℕ → ℕ → Type 0 = λ number size. (lines : List Line) × IsOutput no_files (script_of number size) lines
    × Appends before after (summary_text number size lines) × (c.run_generated.result ≡ status_of lines) in
    λ number size asked whole. same_script P c.in-Some-Generated.number c.in-Some-Generated.size number size
    (sym (ap Some c.in-Some-Generated.field-0-is) ∙ (sym c.in-Some-Generated.is ∙ c.command_of.ensures.exact ∙ asked)) (c.run_generated.ensures.done whole)

pub returns-in-Some-Generated-clause-summary_cut_short : goal.returns-in-Some-Generated-clause-summary_cut_short
returns-in-Some-Generated-clause-summary_cut_short g c =
    let before = g.K.Sink.taken c.args.out.now in
    let after = g.K.Sink.taken c.run_generated.new.out in
    let P : ℕ → ℕ → Type 0 = λ number size. (lines : List Line) → IsOutput no_files (script_of number size) lines
    → AppendsFront before after (summary_text number size lines) in
    λ number size asked short. same_script P c.in-Some-Generated.number c.in-Some-Generated.size number size
    (sym (ap Some c.in-Some-Generated.field-0-is) ∙ (sym c.in-Some-Generated.is ∙ c.command_of.ensures.exact ∙ asked)) (c.run_generated.ensures.cut_short short)
