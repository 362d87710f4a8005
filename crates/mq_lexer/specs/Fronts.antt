-- What a front of a text is: a token, or what separates tokens. A text is the list of its bytes in UTF-8.
use Rattle.std.specs.Prelude.{ℕ, Bool, if◌then◌else◌, List, Some, None}
use Rattle.mq_lexer.specs.declared.sorts.Sort.{Sort}
use Rattle.mq_lexer.specs.declared.sorts.Sort.TheVariants as sort
use Rattle.mq_lexer.specs.declared.sorts.Front.{Front}

abbrev pub Text : Type 0
Text = List ℕ

-- what stands at the front of a text: a token of this sort and length, or so many bytes that separate tokens
abbrev pub a_token : Sort → ℕ → Front
a_token s n = record { sort = Some s; len = n }

abbrev pub a_gap : ℕ → Front
a_gap n = record { sort = None; len = n }

-- a token of this sort where it keeps the limits, else one that is Bad
abbrev pub a_token_if : Bool → Sort → ℕ → Front
a_token_if fits s n = a_token (if fits then s else sort.Bad) n
