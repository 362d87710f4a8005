-- A comparison, scenario by scenario.
use Rattle.std.proofs.Common.{◌≡◌, ℕ, ◌+◌, ◌<◌, ◌≤◌, List, [], ◌∷◌, ◌++◌, Bool, true, false, ◌||◌, drop, length, get_or, map, Option, Some, None, Result, Ok, Err, refl, sym, ap, ◌∙◌, append_assoc, append-nil, add-one, drop-cons}
use Rattle.std.proofs.lemmas.List.{drop_all}
use Rattle.std.proofs.lemmas.List.Folds.{list_any-append}
use Rattle.std.specs.List.{flat_map, list_any, zip}
use Rattle.std.specs.Option.{ok_or, option_map_or}
use Rattle.mq_values.specs.declared.faults.Refused.{Refused}
use Rattle.mq_values.specs.declared.faults.Refused.TheVariants as refused
use Rattle.mq_ir.specs.declared.catalog.View.{View}
use Rattle.mq_ir.specs.declared.query.BoundQuery.{BoundQuery}
use Rattle.mq_ir.specs.declared.query.Compared.{Compared}
use Rattle.mq_ir.specs.Lines.{Line, is_flaw, text_of}
use Rattle.mq_ir.specs.Results.{◌>>=◌}
use Rattle.mq_ir.specs.Scenarios.{changes_at, compare_step, compared, comparison, scenario_lines}
use Rattle.mq_ir.specs.Statement.{Printed, State, view_at}
use Rattle.mq_engine.specs.declared.views.NoView.{NoView}
use Rattle.mq_engine.specs.Sessions.{view_compared}
use Rattle.mq_tool.specs.Comparisons.{all_compared, lines_under}
use Rattle.mq_tool.proofs.LineLemmas.{text_of-append}

-- ---- what is printed is what is found

module _ (state : State) (q : BoundQuery) where
  abbrev found_under : List ℕ → Compared
  found_under name = compared state.tables q (changes_at state name)

  lines_found : (names : List (List ℕ)) → comparison state q names ≡ all_compared names (map found_under names)
  lines_found [] = refl
  lines_found (name ∷ names) = ap (λ (ls : List Line). scenario_lines state q name ++ ls) (lines_found names)

abbrev given : List Compared → Result (List Compared) NoView
given found = Ok found

abbrev given_back : List Compared → Result (List Compared) NoView → List Compared
given_back others (Ok found) = found
given_back others (Err none) = others

-- what COMPARE prints is what is found under its scenarios, and what it is refused for is that there is no view
module _ (state : State) (view : List ℕ) (names : List (List ℕ)) where
  abbrev asked : Option View → Result (List Compared) NoView
  asked o = option_map_or (λ (v : View). given (map (λ name. compared state.tables v.query (changes_at state name)) names)) o (Err (record { name = view }))

  abbrev printed_by : Option View → Result Printed Refused
  printed_by o = ok_or o (refused.UnknownName view) >>= (λ (v : View). Ok (state, comparison state v.query names))

  abbrev printed : List Line → Result Printed Refused
  printed lines = Ok (state, lines)

  pub compared_is : (found : List Compared) → view_compared state view names ≡ Ok found → compare_step state view names ≡ Ok (state, all_compared names found)
  compared_is found h = by (view_at state view) h
    where
      by : (o : Option View) → asked o ≡ given found → printed_by o ≡ printed (all_compared names found)
      by None g = absurd cc
      by (Some v) g =
          let e : map (λ name. compared state.tables v.query (changes_at state name)) names ≡ found = ap (given_back found) g in
          ap printed (lines_found state v.query names ∙ ap (all_compared names) e)

  pub none_compared : (none : NoView) → view_compared state view names ≡ Err none → compare_step state view names ≡ Err (refused.UnknownName none.name)
  none_compared none h = by (view_at state view) h
    where
      by : (o : Option View) → asked o ≡ Err none → printed_by o ≡ Err (refused.UnknownName none.name)
      by None g = let e : view ≡ none.name = cc in ap (λ (n : List ℕ). Err (refused.UnknownName n)) e
      by (Some v) g = absurd cc

-- ---- the lines, scenario by scenario

next_item : {A : Type 0} (xs : List A) (i : ℕ) (x : A) → i < length xs → x ≡ get_or xs i x → drop i xs ≡ x ∷ drop (i + 1) xs
next_item xs i x h e = drop-cons xs i x h ∙ (λ j. sym e j ∷ drop (sym (add-one i) j) xs)

either_side : (a b c : Bool) → ((a || b) || c) ≡ (a || (b || c))
either_side true b c = refl
either_side false b c = refl

or_nothing : (a : Bool) → a ≡ (a || false)
or_nothing true = refl
or_nothing false = refl

module _ (names : List (List ℕ)) (found : List Compared) where
  -- the lines of the scenarios from this one on
  abbrev lines_left : ℕ → List Line
  lines_left i = flat_map lines_under (zip (drop i names) (drop i found))

  next_lines : (i : ℕ) (name : List ℕ) (c : Compared) → i < length found → c ≡ get_or found i c → i < length names → name ≡ get_or names i name
      → lines_left i ≡ lines_under (name, c) ++ lines_left (i + 1)
  next_lines i name c within is less at =
      ap (λ (ns : List (List ℕ)). flat_map lines_under (zip ns (drop i found))) (next_item names i name less at)
      ∙ ap (λ (fs : List Compared). flat_map lines_under (zip (name ∷ drop (i + 1) names) fs)) (next_item found i c within is)

  zip_none : (ns : List (List ℕ)) → flat_map lines_under (zip ns []) ≡ []
  zip_none [] = refl
  zip_none (n ∷ ns) = refl

  -- what was written, once the scenarios from this one on are left: with their lines it makes the lines of all
  pub record ComparedSoFar (i : ℕ) (before now : List ℕ) (flaw : Bool) : Type 0 where
    pub text : now ++ text_of (lines_left i) ≡ before ++ text_of (all_compared names found)
    pub flawed : (flaw || list_any is_flaw (lines_left i)) ≡ list_any is_flaw (all_compared names found)

  pub comparing_starts : (before : List ℕ) → ComparedSoFar 0 before before false
  comparing_starts before = record { text = refl; flawed = refl }

  pub comparing_goes_on : (i : ℕ) (before now after : List ℕ) (flaw next : Bool) (name : List ℕ) (c : Compared) → i < length found → c ≡ get_or found i c
      → i < length names → name ≡ get_or names i name → after ≡ now ++ text_of (lines_under (name, c)) → next ≡ (flaw || list_any is_flaw (lines_under (name, c)))
      → ComparedSoFar i before now flaw → ComparedSoFar (i + 1) before after next
  comparing_goes_on i before now after flaw next name c within is less at t f so =
      let here = lines_under (name, c) in
      let left = lines_left (i + 1) in
      let lines : lines_left i ≡ here ++ left = next_lines i name c within is less at in
      record {
        text =
            ap (λ (bytes : List ℕ). bytes ++ text_of left) t
            ∙ append_assoc now (text_of here) (text_of left)
            ∙ ap (λ (bytes : List ℕ). now ++ bytes) (sym (text_of-append here left))
            ∙ ap (λ (ls : List Line). now ++ text_of ls) (sym lines)
            ∙ so.text;
        flawed =
            ap (λ (b : Bool). b || list_any is_flaw left) f
            ∙ either_side flaw (list_any is_flaw here) (list_any is_flaw left)
            ∙ ap (λ (b : Bool). flaw || b) (sym (list_any-append is_flaw here left))
            ∙ ap (λ (ls : List Line). flaw || list_any is_flaw ls) (sym lines)
            ∙ so.flawed;
      }

  -- the lines of all scenarios were written
  abbrev pub WroteAll : List ℕ → List ℕ → Bool → Type 0
  WroteAll before now flaw = (now ≡ before ++ text_of (all_compared names found)) × (flaw ≡ list_any is_flaw (all_compared names found))

  none_left : (i : ℕ) (before now : List ℕ) (flaw : Bool) → lines_left i ≡ [] → ComparedSoFar i before now flaw → WroteAll before now flaw
  none_left i before now flaw none so = (
    sym (append-nil now) ∙ ap (λ (ls : List Line). now ++ text_of ls) (sym none) ∙ so.text,
    or_nothing flaw ∙ ap (λ (ls : List Line). flaw || list_any is_flaw ls) (sym none) ∙ so.flawed,
  )

  pub comparing_ends : (i : ℕ) (before now : List ℕ) (flaw : Bool) → length names ≤ i → ComparedSoFar i before now flaw → WroteAll before now flaw
  comparing_ends i before now flaw h =
      none_left i before now flaw (ap (λ (ns : List (List ℕ)). flat_map lines_under (zip ns (drop i found))) (drop_all i names h))

  -- nothing was found for a scenario, nor for any behind it
  pub comparing_stops : (i : ℕ) (before now : List ℕ) (flaw : Bool) → length found ≤ i → ComparedSoFar i before now flaw → WroteAll before now flaw
  comparing_stops i before now flaw h =
      none_left i before now flaw
      (ap (λ (fs : List Compared). flat_map lines_under (zip (drop i names) fs)) (drop_all i found h) ∙ zip_none (drop i names))
