-- What comments are, apart from any way to find their end.
use Rattle.std.specs.Prelude.{◌≡◌, ℕ, ◌+◌, ◌<◌, ◌≤◌, true, length, take, slice_index, ◌⊎◌}
use Rattle.std.specs.List.{list_all}
use Rattle.mq_values.specs.Bytes.{LINE_FEED, SLASH, STAR}
use Rattle.mq_lexer.specs.declared.sorts.Sort.TheVariants as sort
use Rattle.mq_lexer.specs.declared.sorts.Front.{Front}
use Rattle.mq_lexer.specs.Fronts.{Text, a_token, a_gap}
use Rattle.mq_lexer.specs.Pieces.{is_not_lf}

-- up to the next LF, or to the end
pub record IsLineComment (z : Text) (f : Front) : Type 0 where
  pub gap : f ≡ a_gap f.len
  pub within : f.len ≤ length z
  pub no_lf : list_all is_not_lf (take f.len z) ≡ true
  pub lf : f.len < length z → slice_index z f.len ≡ LINE_FEED

-- `*/` stands here
abbrev pub ClosesAt : Text → ℕ → Type 0
ClosesAt z k = (slice_index z k ≡ STAR) × (slice_index z (k + 1) ≡ SLASH)

-- up to behind the first `*/` that stands behind the opening
pub record IsClosed (z : Text) (f : Front) : Type 0 where
  pub at : ℕ
  pub behind : 2 ≤ at
  pub closes : ClosesAt z at
  pub first : (j : ℕ) → 2 ≤ j → j < at → ClosesAt z j → ⊥
  pub gap : f ≡ a_gap (at + 2)

-- a Bad token up to the end
pub record IsOpen (z : Text) (f : Front) : Type 0 where
  pub none : (j : ℕ) → 2 ≤ j → ClosesAt z j → ⊥
  pub token : f ≡ a_token sort.Bad (length z)

abbrev pub IsBlockComment : Text → Front → Type 0
IsBlockComment z f = IsClosed z f ⊎ IsOpen z f
