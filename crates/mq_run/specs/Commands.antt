-- What the words of the command line ask for.
use Rattle.std.specs.Prelude.{◌≡◌, ◌≤◌, ℕ, List, [], ◌∷◌, length, Bool, ◌==◌, ◌&&◌, not, nat_le, codes, if◌then◌else◌, Option, Some, None}
use Rattle.std.specs.Char.{is_ascii_digit}
use Rattle.std.specs.List.{list_all}
use Rattle.std.specs.Option.{option_map}
use Rattle.std.specs.Str.{bytes_eq}
use Rattle.std.specs.Str.Parse.{digits_value}
use Rattle.mq_answers.specs.declared.workers.TheConstants.{MAX_WORKERS}
use Rattle.mq_run.specs.declared.commands.Command.{Command}
use Rattle.mq_run.specs.declared.commands.Command.TheVariants.{Script, Generated}
use Rattle.mq_run.specs.declared.commands.TheConstants.{DECIMAL_BASE, DEFAULT_WORKERS, MAX_DIGITS, MAX_NUMBER, MAX_SIZE}

-- a number is one to ten digits
abbrev pub is_numeral : List ℕ → Bool
is_numeral word = not (length word == 0) && nat_le (length word) MAX_DIGITS && list_all is_ascii_digit word

-- the number that a word writes, where it lies between two others
abbrev pub number_in : ℕ → ℕ → List ℕ → Option ℕ
number_in least most word =
    let number = digits_value DECIMAL_BASE word in
    if is_numeral word && nat_le least number && nat_le number most then Some number else None

abbrev pub generated : List ℕ → Option ℕ → Option Command
generated size None = None
generated size (Some number) = option_map (Generated number) (number_in 1 MAX_SIZE size)

-- no word; `--workers` and a number; or `--generate` and two numbers
abbrev pub command_of : List (List ℕ) → Option Command
command_of [] = Some (Script DEFAULT_WORKERS)
command_of (word ∷ count ∷ []) =
    if bytes_eq word (codes "--workers") then option_map Script (number_in 1 MAX_WORKERS count) else None
command_of (word ∷ number ∷ size ∷ []) =
    if bytes_eq word (codes "--generate") then generated size (number_in 0 MAX_NUMBER number) else None
command_of _ = None

-- the words ask for a run of the script from the source
abbrev pub RunsScript : List (List ℕ) → Type 0
RunsScript words = (workers : ℕ) × (command_of words ≡ Some (Script workers))

-- the number of workers, or the size, lies within its limits
abbrev pub IsInRange : Command → Type 0
IsInRange (Script workers) = (1 ≤ workers) × (workers ≤ MAX_WORKERS)
IsInRange (Generated number size) = (1 ≤ size) × (size ≤ MAX_SIZE)
