pub mod KeptLemmas
pub mod NotesLemmas
pub mod PieceLemmas
pub mod ScriptLemmas
pub mod SummaryLemmas
pub mod TextLemmas
pub mod WordLemmas
