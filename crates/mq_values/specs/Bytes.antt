-- Bytes by their names.
use Rattle.std.specs.Prelude.{ℕ}

abbrev pub TAB : ℕ
TAB = 9

abbrev pub LINE_FEED : ℕ
LINE_FEED = 10

abbrev pub CARRIAGE_RETURN : ℕ
CARRIAGE_RETURN = 13

-- control characters are the bytes below, and DELETE
abbrev pub SPACE : ℕ
SPACE = 32

abbrev pub DELETE : ℕ
DELETE = 127

-- '
abbrev pub QUOTE : ℕ
QUOTE = 39

-- !
abbrev pub EXCLAMATION : ℕ
EXCLAMATION = 33

-- *
abbrev pub STAR : ℕ
STAR = 42

-- -
abbrev pub MINUS : ℕ
MINUS = 45

-- .
abbrev pub POINT : ℕ
POINT = 46

-- /
abbrev pub SLASH : ℕ
SLASH = 47

-- 0, before the other digits
abbrev pub DIGIT_ZERO : ℕ
DIGIT_ZERO = 48

-- <
abbrev pub LESS : ℕ
LESS = 60

-- =
abbrev pub EQUAL : ℕ
EQUAL = 61

-- >
abbrev pub GREATER : ℕ
GREATER = 62

-- _
abbrev pub UNDERSCORE : ℕ
UNDERSCORE = 95

-- |
abbrev pub BAR : ℕ
BAR = 124

-- from here on bytes are no ASCII characters: first those that go on with a character,
abbrev pub BEYOND_ASCII : ℕ
BEYOND_ASCII = 128

-- and then those that begin one
abbrev pub LEADING : ℕ
LEADING = 192
