-- Scripts that grow by a row, a product or a change, and how many statements they have.
use Rattle.std.proofs.Common.{◌≡◌, ℕ, zero, suc, ◌+◌, ◌*◌, ◌/◌, ◌%◌, Bool, true, false, List, [], ◌∷◌, ◌++◌, length, refl, sym, ap, ◌∙◌, arith, add-one, eq-eqb, append_assoc, append-nil, length-append}
use Rattle.std.specs.Prelude.{◌==◌, if◌then◌else◌}
use Rattle.std.specs.List.{concat}
use Rattle.std.proofs.lemmas.List.Folds.{concat-append}
use Rattle.std.proofs.lemmas.Bool.Decides.{nat_tests}
use Rattle.mq_generate.specs.Draws.{next_of, start_of, state_after}
use Rattle.mq_generate.specs.Script.{change_of, changes, each_below, insert_line, inserts, line_of, product_insert, row_of, script_of, show_at, statements, update_line, year_row}
use Rattle.mq_generate.specs.declared.script.TheConstants.{CHANGES, CHANGES_A_SHOW, CREATE_TABLE, CREATE_VIEW, DRAWS_A_CHANGE, OTHER_STATEMENTS, SHOW, YEARS}

each_below-more : {A : Type 0} (f : ℕ → List A) (n : ℕ) → each_below f (n + 1) ≡ each_below f n ++ f n
unfolding each_below
each_below-more f n = rw add-one refl

-- before the first
pub each_below-zero : {A : Type 0} (f : ℕ → List A) → each_below f 0 ≡ []
unfolding each_below
each_below-zero f = refl

pub state_after-zero : (state : ℕ) → state_after 0 state ≡ state
unfolding state_after
state_after-zero state = refl

pub state_after-more : (draws state : ℕ) → state_after (draws + 1) state ≡ next_of (state_after draws state)
unfolding state_after
state_after-more draws state = rw add-one refl

-- draws, and then others
state_after-add : (first more state : ℕ) → state_after (first + more) state ≡ state_after more (state_after first state)
unfolding state_after
state_after-add first zero state = let same : first + 0 ≡ first = omega arith in ap (λ n. state_after n state) same
state_after-add first (suc more) state =
    let next : first + suc more ≡ suc (first + more) = omega arith in
    ap (λ n. state_after n state) next ∙ ap next_of (state_after-add first more state)

-- as many draws each time
pub state_after-times : (each times state : ℕ) → state_after (each * (times + 1)) state ≡ state_after each (state_after (each * times) state)
state_after-times each times state =
    let more : each * (times + 1) ≡ each * times + each = omega arith in
    ap (λ n. state_after n state) more ∙ state_after-add (each * times) each state

pub state_after-none : (each state : ℕ) → state_after (each * 0) state ≡ state
state_after-none each state = let none : each * 0 ≡ 0 = omega arith in ap (λ n. state_after n state) none ∙ state_after-zero state

-- three draws
pub state_after-change : (state : ℕ) → state_after DRAWS_A_CHANGE state ≡ next_of (next_of (next_of state))
unfolding state_after
state_after-change state = refl

-- what stood there, and then more
pub appended_more : (old out new done more all : List ℕ) → out ≡ old ++ done → new ≡ out ++ more → all ≡ done ++ more → new ≡ old ++ all
appended_more old out new done more all p q r =
    q ∙ ap (λ l. l ++ more) p ∙ append_assoc old done more ∙ ap (λ l. old ++ l) (sym r)

-- what stood there, and then two parts
pub appended_two : (old out mid new done first second all : List ℕ) → out ≡ old ++ done → mid ≡ out ++ first → new ≡ mid ++ second → all ≡ done ++ (first ++ second)
    → new ≡ old ++ all
appended_two old out mid new done first second all p q s r =
    appended_more old out new done (first ++ second) all p (s ∙ ap (λ l. l ++ second) q ∙ append_assoc out first second) r

-- one row more
pub rows_more : (state product year now : ℕ) → now ≡ state_after year state
    → each_below (year_row state product) (year + 1) ≡ each_below (year_row state product) year ++ row_of now product year
rows_more state product year now is =
    each_below-more (year_row state product) year ∙ ap (λ s. each_below (year_row state product) year ++ row_of s product year) (sym is)

-- one product more
pub inserts_more : (state index now : ℕ) → now ≡ state_after (YEARS * index) state
    → concat (inserts state (index + 1)) ≡ concat (inserts state index) ++ insert_line now (index + 1)
inserts_more state index now is =
    ap concat (each_below-more (product_insert state) index) ∙ concat-append (inserts state index) (product_insert state index)
    ∙ ap (λ l. concat (inserts state index) ++ l) (append-nil _) ∙ ap (λ s. concat (inserts state index) ++ insert_line s (index + 1)) (sym is)

-- one change more
pub changes_more : (state size index now : ℕ) → now ≡ state_after (DRAWS_A_CHANGE * index) state
    → concat (each_below (change_of state size) (index + 1))
    ≡ concat (each_below (change_of state size) index) ++ (update_line now size ++ concat (show_at (index + 1)))
changes_more state size index now is =
    ap concat (each_below-more (change_of state size) index) ∙ concat-append (each_below (change_of state size) index) (change_of state size index)
    ∙ ap (λ s. concat (each_below (change_of state size) index) ++ (update_line s size ++ concat (show_at (index + 1)))) (sym is)

-- the view is due, or isn't
pub show_due : (changes : ℕ) → changes % CHANGES_A_SHOW ≡ 0 → concat (show_at changes) ≡ line_of SHOW.now
show_due changes due =
    let test : (changes % CHANGES_A_SHOW == 0) ≡ true = eq-eqb (changes % CHANGES_A_SHOW) 0 due in
    ap (λ t. concat (if t then line_of SHOW.now ∷ [] else [])) test ∙ append-nil (line_of SHOW.now)

pub show_not_due : (changes : ℕ) → (changes % CHANGES_A_SHOW ≡ 0 → ⊥) → concat (show_at changes) ≡ []
show_not_due changes other =
    let test : (changes % CHANGES_A_SHOW == 0) ≡ false = grind (arith, nat_tests) in
    ap (λ t. concat (if t then line_of SHOW.now ∷ [] else [])) test

four_parts : (table products view others s₀ s₁ s₂ s₃ s₄ : List ℕ) → s₀ ≡ [] → s₁ ≡ s₀ ++ table → s₂ ≡ s₁ ++ products → s₃ ≡ s₂ ++ view → s₄ ≡ s₃ ++ others
    → s₄ ≡ table ++ (products ++ (view ++ others))
four_parts table products view others s₀ s₁ s₂ s₃ s₄ e₀ e₁ e₂ e₃ e₄ =
    e₄ ∙ ap (λ l. l ++ others) (e₃ ∙ ap (λ l. l ++ view) (e₂ ∙ ap (λ l. l ++ products) (e₁ ∙ ap (λ l. l ++ table) e₀))) ∙ simp append_assoc

-- the whole, from its four parts
pub whole_script : (number size start later : ℕ) (s₀ s₁ s₂ s₃ s₄ : List ℕ) → start ≡ start_of number → later ≡ state_after (YEARS * size) start
    → s₀ ≡ [] → s₁ ≡ s₀ ++ line_of CREATE_TABLE.now → s₂ ≡ s₁ ++ concat (inserts start size) → s₃ ≡ s₂ ++ line_of CREATE_VIEW.now → s₄ ≡ s₃ ++ concat (changes later size)
    → s₄ ≡ script_of number size
whole_script number size start later s₀ s₁ s₂ s₃ s₄ is next e₀ e₁ e₂ e₃ e₄ =
    let state : later ≡ state_after (YEARS * size) (start_of number) = next ∙ ap (state_after (YEARS * size)) is in
    four_parts (line_of CREATE_TABLE.now) (concat (inserts (start_of number) size)) (line_of CREATE_VIEW.now) (concat (changes (state_after (YEARS * size) (start_of number)) size))
    s₀ s₁ s₂ s₃ s₄ e₀ e₁ (e₂ ∙ ap (λ s. s₁ ++ concat (inserts s size)) is) e₃ (e₄ ∙ ap (λ s. s₃ ++ concat (changes s size)) state)
    ∙ ap (λ l. line_of CREATE_TABLE.now ++ l) (sym (concat-append (inserts (start_of number) size) (line_of CREATE_VIEW.now ∷ changes (state_after (YEARS * size) (start_of number)) size)))

length-inserts : (state size : ℕ) → length (inserts state size) ≡ size
unfolding each_below
length-inserts state zero = refl
length-inserts state (suc size) = length-append (inserts state size) (product_insert state size) ∙ ap (λ n. n + 1) (length-inserts state size) ∙ add-one size

-- a view is shown at each multiple
shows_more : (count : ℕ) (due : Bool) → ((count + 1) % CHANGES_A_SHOW == 0) ≡ due
    → suc count + suc count / CHANGES_A_SHOW ≡ count + count / CHANGES_A_SHOW + (1 + length (if due then line_of SHOW.now ∷ [] else []))
shows_more count true e = let multiple : (count + 1) % CHANGES_A_SHOW ≡ 0 = grind (arith, nat_tests, e) in omega arith
shows_more count false e = let other : (count + 1) % CHANGES_A_SHOW ≡ 0 → ⊥ = grind (arith, nat_tests, e) in omega arith

length-changes : (state size count : ℕ) → length (each_below (change_of state size) count) ≡ count + count / CHANGES_A_SHOW
unfolding each_below
length-changes state size zero = refl
length-changes state size (suc count) =
    let more = length-append (each_below (change_of state size) count) (change_of state size count) in
    more ∙ ap (λ n. n + length (change_of state size count)) (length-changes state size count) ∙ sym (shows_more count ((count + 1) % CHANGES_A_SHOW == 0) refl ∙ one_more)
  where
    one_more : count + count / CHANGES_A_SHOW + (1 + length (show_at (count + 1))) ≡ count + count / CHANGES_A_SHOW + length (change_of state size count)
    one_more = omega arith

pub length-statements : (number size : ℕ) → length (statements number size) ≡ size + OTHER_STATEMENTS
length-statements number size =
    let state : ℕ = state_after (YEARS * size) (start_of number) in
    let all : length (changes state size) ≡ CHANGES + CHANGES / CHANGES_A_SHOW = length-changes state size CHANGES in
    omega (arith, all, length-inserts (start_of number) size, length-append (inserts (start_of number) size) (line_of CREATE_VIEW.now ∷ changes state size))
