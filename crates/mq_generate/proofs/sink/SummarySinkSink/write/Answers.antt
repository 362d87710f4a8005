use Rattle.std.proofs.Common.{arith, sym, ap, ◌∙◌, length-append}
use Rattle.std.specs.Prelude.{[], length, count_by, option_map}
use Rattle.mq_generate.specs.Notes.{text_of}
use Rattle.mq_generate.specs.Summary.{ended_lines, is_error, is_fault, last_row, open_line}
use Rattle.mq_generate.proofs.KeptLemmas.{begun_after, counted_sum, few_sum, row_after}
use Rattle.mq_generate.proofs.sink.SummarySinkSink.write.Goals as goal

pub overflow_add-self : goal.overflow_add-self
overflow_add-self c =
    let few = few_sum is_error c.self.inside.told.bytes c.args.piece.now c.self.inside.begun.items c.deref.result.now c.self.inside.errors c.note_lines-notes.result.errors
    c.self.invariant.begun c.deref.ensures.value c.self.invariant.errors c.note_lines-notes.ensures.errors in
    omega (arith, few)

pub overflow_add-self-2 : goal.overflow_add-self-2
overflow_add-self-2 c =
    let few = few_sum is_fault c.self.inside.told.bytes c.args.piece.now c.self.inside.begun.items c.deref.result.now c.self.inside.faults c.note_lines-notes.result.faults
    c.self.invariant.begun c.deref.ensures.value c.self.invariant.faults c.note_lines-notes.ensures.faults in
    omega (arith, few)

pub invariant_of-self : goal.invariant_of-self
invariant_of-self c =
    let all = c.self.inside.told.bytes in
    let piece = c.args.piece.now in
    let front = c.deref.result.now in
    let told = sym c.and-self-inside.ensures in
    record {
      errors = counted_sum is_error all piece c.self.inside.begun.items front c.self.inside.errors c.note_lines-notes.result.errors
          c.self.invariant.begun c.deref.ensures.value c.self.invariant.errors c.note_lines-notes.ensures.errors ∙ ap (λ l. count_by is_error (ended_lines [] l)) told;
      faults = counted_sum is_fault all piece c.self.inside.begun.items front c.self.inside.faults c.note_lines-notes.result.faults
          c.self.invariant.begun c.deref.ensures.value c.self.invariant.faults c.note_lines-notes.ensures.faults ∙ ap (λ l. count_by is_fault (ended_lines [] l)) told;
      size = omega (arith, ap length told, length-append all piece);
      room = omega arith;
      row = row_after all piece c.self.inside.begun.items front (option_map (λ t. t.items) c.self.inside.row) (option_map (λ t. t.items) c.in_ok-row.row) (option_map (λ t. t.items) c.replace_row.new.row)
          c.self.invariant.begun c.deref.ensures.value c.self.invariant.row
          (c.in_ok-row.ensures ∙ ap (λ f. option_map (text_of f piece) c.note_lines-notes.result.row) (c.deref-2.ensures.value ∙ sym c.deref.ensures.value) ∙ c.note_lines-notes.ensures.row)
          c.replace_row.ensures ∙ ap (λ l. last_row (ended_lines [] l)) told;
      begun = begun_after all piece c.self.inside.begun.items front c.in_ok-self-inside.field-0.items c.self.invariant.begun c.deref.ensures.value
          (c.in_ok-self-inside.ensures ∙ ap (λ f. text_of f piece (record { start = c.note_lines-notes.result.start; end = length piece })) (c.deref-3.ensures.value ∙ sym c.deref.ensures.value) ∙ c.note_lines-notes.ensures.begun)
          ∙ ap (open_line []) told;
    }
