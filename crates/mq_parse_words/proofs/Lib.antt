pub mod SpellingLemmas
