-- The generated script, as a list of statements.
use Rattle.std.specs.Prelude.{ℕ, zero, suc, ◌+◌, ◌*◌, ◌%◌, ◌==◌, List, [], ◌∷◌, ◌++◌, decimal, codes, if◌then◌else◌}
use Rattle.std.specs.List.{concat}
use Rattle.mq_generate.specs.Draws.{draw_of, next_of, start_of, state_after}
use Rattle.mq_generate.specs.Pieces.{amount_text}
use Rattle.mq_generate.specs.declared.script.TheConstants as script

-- what a function gives at 0, 1 and so on below a bound, one after another
unfoldable pub each_below : {A : Type 0} → (ℕ → List A) → ℕ → List A
each_below f zero = []
each_below f (suc n) = each_below f n ++ f n

-- a blank before the first row, a comma before each other
abbrev pub separator : ℕ → List ℕ
separator index = if index == 0 then codes " " else codes ","

-- the row of a product and a year, with an amount drawn from this state on; the years count from 0
abbrev pub row_of : ℕ → ℕ → ℕ → List ℕ
row_of state product year =
    separator year ++ (codes "(" ++ (decimal product ++ (codes "," ++ (decimal (script.FIRST_YEAR + year)
    ++ (codes "," ++ (amount_text (draw_of script.AMOUNTS state) ++ codes ")"))))))

-- the row of a year, behind those of the years before, each with a draw from this state on
abbrev pub year_row : ℕ → ℕ → ℕ → List ℕ
year_row state product year = row_of (state_after year state) product year

-- each statement is one line
abbrev pub line_of : List ℕ → List ℕ
line_of statement = statement ++ codes ";\n"

-- the statement that inserts a product's rows
abbrev pub insert_line : ℕ → ℕ → List ℕ
insert_line state product = line_of (codes "INSERT INTO SALES VALUES" ++ each_below (year_row state product) script.YEARS)

-- the statement of a product, behind those of the products before; they count from 0 here, and from 1 in the script
abbrev pub product_insert : ℕ → ℕ → List (List ℕ)
product_insert state index = insert_line (state_after (script.YEARS * index) state) (index + 1) ∷ []

-- so many products
abbrev pub inserts : ℕ → ℕ → List (List ℕ)
inserts state size = each_below (product_insert state) size

-- the statement that sets an amount: first its product is drawn, then its year, and last the amount
abbrev pub update_line : ℕ → ℕ → List ℕ
update_line state size =
    codes "UPDATE SALES SET AMT = " ++ (amount_text (draw_of script.AMOUNTS (next_of (next_of state)))
    ++ (codes " WHERE PROD = " ++ (decimal (1 + draw_of size state)
    ++ (codes " AND YR = " ++ (decimal (script.FIRST_YEAR + draw_of script.YEARS (next_of state)) ++ codes ";\n")))))

-- after so many changes the view is shown, or isn't
abbrev pub show_at : ℕ → List (List ℕ)
show_at changes = if changes % script.CHANGES_A_SHOW == 0 then line_of script.SHOW.now ∷ [] else []

-- a change behind those before it, which count from 0, and the view where it is due
abbrev pub change_of : ℕ → ℕ → ℕ → List (List ℕ)
change_of state size index = update_line (state_after (script.DRAWS_A_CHANGE * index) state) size ∷ show_at (index + 1)

abbrev pub changes : ℕ → ℕ → List (List ℕ)
changes state size = each_below (change_of state size) script.CHANGES

-- the statements that a number and a size generate, a line each
abbrev pub statements : ℕ → ℕ → List (List ℕ)
statements number size =
    line_of script.CREATE_TABLE.now ∷ (inserts (start_of number) size
    ++ line_of script.CREATE_VIEW.now ∷ changes (state_after (script.YEARS * size) (start_of number)) size)

abbrev pub script_of : ℕ → ℕ → List ℕ
script_of number size = concat (statements number size)
