-- What the words of the command line ask for.
use Rattle.std.proofs.Common.{◌≡◌, ℕ, ◌<◌, ◌≤◌, ◌^◌, List, [], ◌∷◌, length, Bool, true, false, ◌&&◌, not, Option, Some, None, Err, refl, sym, ap, ◌∙◌, subst, arith}
use Rattle.std.specs.Prelude.{◌==◌, nat_le, if◌then◌else◌}
use Rattle.std.specs.Char.{is_ascii_digit}
use Rattle.std.specs.List.{list_all}
use Rattle.std.specs.Str.{all_ascii_digits}
use Rattle.std.specs.Str.Parse.{ParsesUnsigned, digits_value}
use Rattle.std.proofs.lemmas.Str.Parse.{numerals_by_value, parse_digits, tells_all_ascii_digits}
use Rattle.std.proofs.lemmas.Bool.Decides.{nat_tests}
use Rattle.mq_run.specs.Commands.{is_numeral, number_in}
use Rattle.mq_run.specs.declared.commands.Command.{Command}
use Rattle.mq_run.specs.declared.commands.Command.TheVariants.{Generated}
use Rattle.mq_run.specs.declared.commands.TheConstants.{MAX_DIGITS}

-- a command to generate a script has one number and one size
abbrev pair_of : Option Command → ℕ × ℕ
pair_of (Some (Generated number size)) = (number, size)
pair_of _ = (0, 0)

pub same_script : (P : ℕ → ℕ → Type 0) (a b number size : ℕ) → Some (Generated a b) ≡ Some (Generated number size) → P a b → P number size
same_script P a b number size e p = subst (λ (q : ℕ × ℕ). P q.0 q.1) (ap pair_of e) p

parts : (a b : Bool) → (a && b) ≡ true → (a ≡ true) × (b ≡ true)
parts true b h = (refl, h)
parts false b h = absurd cc

all_digits : (ds : List ℕ) → list_all is_ascii_digit ds ≡ true → all_ascii_digits ds ≡ true
all_digits [] h = refl
all_digits (d ∷ ds) h =
    let p = parts (is_ascii_digit d) (list_all is_ascii_digit ds) h in
    ap (λ b. b && all_ascii_digits ds) p.0 ∙ all_digits ds p.1

some_digit : (ds : List ℕ) → not (length ds == 0) ≡ true → 0 < length ds
some_digit [] h = absurd cc
some_digit (d ∷ ds) h = omega arith

-- a numeral that is no number of 32 bits lies past every limit
module _ {E : Type 0} (least most : ℕ) (word : List ℕ) (e : E) (small : most < 2 ^ 32) (is : is_numeral word ≡ true) (fails : ParsesUnsigned 32 10 word (Err e)) where
  some : not (length word == 0) ≡ true
  some = (parts (not (length word == 0)) (nat_le (length word) MAX_DIGITS) (parts (not (length word == 0) && nat_le (length word) MAX_DIGITS) (list_all is_ascii_digit word) is).0).0

  digits : list_all is_ascii_digit word ≡ true
  digits = (parts (not (length word == 0) && nat_le (length word) MAX_DIGITS) (list_all is_ascii_digit word) is).1

  past : digits_value 10 word < 2 ^ 32 → ⊥
  past less = parse_digits (numerals_by_value (λ ds. all_ascii_digits ds ≡ true) tells_all_ascii_digits) 32 word (Err e) fails (all_digits word digits) (some_digit word some, less)

  above : nat_le (digits_value 10 word) most ≡ false
  above = by (nat_le (digits_value 10 word) most) refl
    where
      by : (b : Bool) → nat_le (digits_value 10 word) most ≡ b → b ≡ false
      by false h = refl
      by true h = let low : digits_value 10 word ≤ most = grind (arith, nat_tests) in absurd (past (omega (arith, low, small)))

  pub out_of_range : None ≡ number_in least most word
  out_of_range =
      let no : (is_numeral word && nat_le least (digits_value 10 word) && nat_le (digits_value 10 word) most) ≡ false =
      ap (λ b. is_numeral word && nat_le least (digits_value 10 word) && b) above ∙ never (is_numeral word && nat_le least (digits_value 10 word)) in
      ap (λ b. if b then Some (digits_value 10 word) else None) (sym no)
    where
      never : (a : Bool) → (a && false) ≡ false
      never true = refl
      never false = refl
