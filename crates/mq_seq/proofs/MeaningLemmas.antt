-- The steps that note each target once lead to the same as those of the definition.
use Rattle.std.proofs.Common.{◌≡◌, ℕ, zero, suc, ◌+◌, List, [], ◌∷◌, length, map, Bool, true, false, ◌||◌, Option, Some, None, Result, Ok, Err, refl, sym, ap, subst, ◌∙◌}
use Rattle.std.specs.List.{enumerate_from}
use Rattle.std.specs.Map.{keys_of}
use Rattle.std.specs.Option.{option_map_or}
use Rattle.std.specs.Prelude.{slice_index_or}
use Rattle.mq_values.specs.declared.value.Value.TheVariants.{Null}
use Rattle.mq_dim_index.specs.Places.{with_key}
use Rattle.mq_values.specs.Answers.{Gives}
use Rattle.mq_values.specs.declared.memory.Fail.{Fail}
use Rattle.mq_values.specs.Truth.{is_true}
use Rattle.mq_values.specs.declared.value.Value.{Value}
use Rattle.mq_ir.specs.declared.expression.Expr.{Expr}
use Rattle.mq_ir.specs.declared.query.OutCell.{OutCell}
use Rattle.mq_ir.specs.declared.query.PartInput.{PartInput}
use Rattle.mq_ir.specs.declared.query.PartResult.TheVariants.{Rows, Fault}
use Rattle.mq_ir.specs.declared.query.Rule.{Rule}
use Rattle.mq_ir.specs.declared.query.SingleLeft.{SingleLeft}
use Rattle.mq_ir.specs.Expression.{holds}
use Rattle.mq_ir.specs.Iteration.{cells_left, input_fault, out_cell, part_result, sequential, turn_count, turns_from, until_holds}
use Rattle.mq_ir.specs.Keys.{Tuple, is_among, is_same}
use Rattle.mq_ir.specs.Partitions.{Cells, cell_at}
use Rattle.mq_ir.specs.Placed.{Placed, at_partition, value_fault}
use Rattle.mq_ir.specs.Reads.{Measures, Site, measure_at, read_until}
use Rattle.mq_ir.specs.Results.{◌>>=◌, each_in_turn, marked}
use Rattle.mq_ir.specs.Sequential.{Act, Standing, assigned, left_fault, left_step, rule_step, target_step, turn_step, with_created}
use Rattle.mq_ir.specs.Targets.{targets}
use Rattle.mq_ir.specs.Unfolding.{Model}
use Rattle.mq_seq.specs.Outcomes.{rows_left, rows_of, rows_over}
use Rattle.mq_seq.specs.Steps.{State, acting, begun, left_done, rule_done, target_done, target_value, turn_done, turn_with, turns_done, until_in, until_true}
use Rattle.mq_seq.specs.Tracks.{Firsts, Track, assign, create, measure_from, start_of}
use Rattle.mq_unfold.specs.SingleLefts.{lefts_of}
use Rattle.mq_values.specs.KeySetLaws.{among_with}
use Rattle.mq_ir.specs.StepLaws.{fault_is_last}
use Rattle.mq_seq.proofs.NoteLemmas.{assign_cells, assign_tells, create_cells, create_tells}

-- the same targets so far
abbrev Alike : List Tuple → List Tuple → Type 0
Alike once all = (key : Tuple) → is_among once key ≡ is_among all key

-- what stood at cells when a turn began
abbrev Start : Type 0
Start = Tuple → Option Tuple

abbrev track_of : Option Firsts → Cells → Track
track_of firsts cells = record { cells = cells; firsts = firsts }

-- a state over an input, beside one of the definition
abbrev state : List Tuple → Model → Option Firsts → ℕ → List Tuple → Standing → State
state input model firsts width updated s = record {
  input = input;
  track = track_of firsts s.cells;
  updated = updated;
  width = width;
  count = length model.part.measures;
}

pub record Beside (input : List Tuple) (model : Model) (start : Start) (t : State) (s : Standing) : Type 0 where
  pub firsts : Option Firsts
  pub width : ℕ
  pub updated : List Tuple
  pub is : t ≡ state input model firsts width updated s
  pub told : (key : Tuple) → start_of (track_of firsts s.cells) key ≡ start key
  pub alike : Alike updated s.updated

module _ (input : List Tuple) (model : Model) (start : Start) where
  abbrev Both : Result State Placed → Result Standing Placed → Type 0
  Both (Ok t) (Ok s) = Beside input model start t s
  Both (Err a) (Err b) = a ≡ b
  Both (Ok t) (Err b) = ⊥
  Both (Err a) (Ok s) = ⊥

  both_then : (r : Result State Placed) (q : Result Standing Placed) (f : State → Result State Placed) (g : Standing → Result Standing Placed)
      → ((t : State) (s : Standing) → Beside input model start t s → Both (f t) (g s)) → Both r q → Both (r >>= f) (q >>= g)
  both_then (Ok t) (Ok s) f g k h = k t s h
  both_then (Err a) (Err b) f g k h = h
  both_then (Ok t) (Err b) f g k h = absurd h
  both_then (Err a) (Ok s) f g k h = absurd h

  both_turns : {A : Type 0} (f : A → State → Result State Placed) (g : A → Standing → Result Standing Placed)
      → ((x : A) (t : State) (s : Standing) → Beside input model start t s → Both (f x t) (g x s))
      → (xs : List A) (t : State) (s : Standing) → Beside input model start t s → Both (each_in_turn f xs t) (each_in_turn g xs s)
  both_turns f g k [] t s b = b
  both_turns f g k (x ∷ xs) t s b = both_then (f x t) (g x s) (each_in_turn f xs) (each_in_turn g xs) (both_turns f g k xs) (k x t s b)

  -- it is enough to look at states of that very form
  from_form : (F : State → Result State Placed) (r : Result Standing Placed) (t : State) (s : Standing)
      → ((firsts : Option Firsts) (width : ℕ) (updated : List Tuple) → ((key : Tuple) → start_of (track_of firsts s.cells) key ≡ start key) → Alike updated s.updated → Both (F (state input model firsts width updated s)) r)
      → Beside input model start t s → Both (F t) r
  from_form F r t s k b = subst (λ u. Both (F u) r) (sym b.is) (k b.firsts b.width b.updated b.told b.alike)

  -- the cells of a track changed as those of the definition did
  moved_on : (track : Track) (width : ℕ) (once all : List Tuple) (cells : Cells) → track.cells ≡ cells → ((key : Tuple) → start_of track key ≡ start key) → Alike once all
      → Beside input model start (record { input = input; track = track; updated = once; width = width; count = length model.part.measures }) (record { cells = cells; updated = all })
  moved_on track width once all cells e told alike = record {
    firsts = track.firsts;
    width = width;
    updated = once;
    is = λ i. record { input = input; track = track_of track.firsts (e i); updated = once; width = width; count = length model.part.measures };
    told = λ key. ap (λ cs. start_of (track_of track.firsts cs) key) (sym e) ∙ told key;
    alike = alike;
  }

  -- the same value is put into both, or there is the same fault
  both_values : (r : Result Value Placed) (f : Value → State) (g : Value → Standing) → ((v : Value) → Beside input model start (f v) (g v)) → Both (r >>= (λ v. Ok (f v))) (r >>= (λ v. Ok (g v)))
  both_values (Ok v) f g k = k v
  both_values (Err fault) f g k = refl

  both_faults : (fault : Option Placed) (r : Result State Placed) (q : Result Standing Placed) → Both r q → Both (option_map_or Err fault r) (option_map_or Err fault q)
  both_faults (Some fault) r q h = refl
  both_faults None r q h = h

  module _ (number : ℕ) (rule : Rule) (turn : ℕ) where
    abbrev act : List Tuple → Act
    act = acting model number rule turn

    target_both : (target : Tuple) (t : State) (s : Standing) → Beside input model start t s → Both (target_done act target t) (target_step (act input) target s)
    target_both target t s =
        from_form (target_done act target) (target_step (act input) target s) t s
        (λ firsts width updated told alike.
        let track = track_of firsts s.cells in
        let m = rule.measure in
        both_values (target_value (act input) target (state input model firsts width updated s))
        (λ v. record { input = input; track = assign track target m v; updated = with_key updated target; width = width; count = length model.part.measures })
        (λ v. record { cells = assigned s.cells target m v; updated = target ∷ s.updated })
        (λ v.
        moved_on (assign track target m v) width (with_key updated target) (target ∷ s.updated) (assigned s.cells target m v) (assign_cells track target m v)
        (λ key. assign_tells track target m v key ∙ told key) (λ key. among_with key target updated ∙ ap (λ b. is_same key target || b) (alike key))))

    left_both : (left : SingleLeft) (t : State) (s : Standing) → Beside input model start t s → Both (left_done act left t) (left_step (act input) left s)
    left_both left t s =
        from_form (left_done act left) (left_step (act input) left s) t s
        (λ firsts width updated told alike.
        let found = targets left rule.mode (keys_of s.cells) in
        let track = create (length model.part.measures) (track_of firsts s.cells) found.created in
        let cells = with_created model s.cells found.created in
        let now : Standing = record { cells = cells; updated = s.updated } in
        let next : State = record { input = input; track = track; updated = updated; width = width; count = length model.part.measures } in
        let same : track.cells ≡ cells = create_cells model (track_of firsts s.cells) found.created in
        subst (λ (set : Cells). Both (option_map_or Err (left_fault (act input) left (keys_of set) found.cells) (each_in_turn (target_done act) found.cells next)) (option_map_or Err (left_fault (act input) left (keys_of cells) found.cells) (each_in_turn (target_step (act input)) found.cells now)))
        (sym same)
        (both_faults (left_fault (act input) left (keys_of cells) found.cells) (each_in_turn (target_done act) found.cells next) (each_in_turn (target_step (act input)) found.cells now)
        (both_turns (target_done act) (target_step (act input)) target_both found.cells next now
        (moved_on track width updated s.updated cells same (λ key. create_tells (length model.part.measures) (track_of firsts s.cells) found.created key ∙ told key) alike))))

  both_lefts : {A : Type 0} (r : Result A Placed) (f : A → Result State Placed) (g : A → Result Standing Placed) → ((x : A) → Both (f x) (g x)) → Both (r >>= f) (r >>= g)
  both_lefts (Ok x) f g k = k x
  both_lefts (Err fault) f g k = refl

  module _ (turn : ℕ) where
    rule_both : (rule : ℕ × Rule) (t : State) (s : Standing) → Beside input model start t s → Both (rule_done model turn rule t) (rule_step model input turn rule s)
    rule_both (number, rule) t s b =
        both_lefts (lefts_of model turn number rule) _ _
        (λ lefts. both_turns (left_done (acting model number rule turn)) (left_step (acting model number rule turn input)) (left_both number rule turn) lefts t s b)

    pub turn_both : (t : State) (s : Standing) → Beside input model start t s → Both (turn_done model turn t) (turn_step model input turn s)
    turn_both = both_turns (rule_done model turn) (rule_step model input turn) rule_both (enumerate_from 1 model.part.rules)

out_alike : (once all : List Tuple) → Alike once all → (cell : Tuple × Tuple) → out_cell once cell ≡ out_cell all cell
out_alike once all alike (key, measures) = ap (λ b. out_of b) (alike key)
  where
    out_of : Bool → OutCell
    out_of b = record { key = key; measures = measures; updated = b }

rows_alike : (once all : List Tuple) → Alike once all → (cells : Cells) → map (out_cell once) cells ≡ map (out_cell all) cells
rows_alike once all alike [] = refl
rows_alike once all alike (cell ∷ cells) = λ i. out_alike once all alike cell i ∷ rows_alike once all alike cells i

-- the rows that are handed out in the end
abbrev rows_in : State → List OutCell
rows_in t = map (out_cell t.updated) t.track.cells

abbrev rows_done : Result State Placed → Result (List OutCell) Placed
rows_done r = r >>= (λ t. Ok (rows_in t))

abbrev rows_meant : Result Standing Placed → Result (List OutCell) Placed
rows_meant q = q >>= (λ s. Ok (rows_of s))

same_rows : (input : List Tuple) (model : Model) (start : Start) (t : State) (s : Standing) → Beside input model start t s → rows_in t ≡ rows_of s
same_rows input model start t s b = ap rows_in b.is ∙ rows_alike b.updated s.updated b.alike s.cells

-- PREVIOUS reads what stood when the turn began
until_told : (model : Model) (turn : ℕ) (e : Expr) (input : List Tuple) (firsts : Option Firsts) (width : ℕ) (updated : List Tuple) (cells before : Cells)
    → ((key : Tuple) → start_of (track_of firsts cells) key ≡ cell_at before key)
    → until_true model turn (record { input = input; track = track_of firsts cells; updated = updated; width = width; count = length model.part.measures }) e ≡ until_holds model input turn before cells e
until_told model turn e input firsts width updated cells before told =
    let site : Site = record { model = model; target = []; turn = turn; set = keys_of cells } in
    let read : measure_from (track_of firsts cells) ≡ measure_at before = λ i c. option_map_or (λ measures. slice_index_or measures c.measure Null) (told c.key i) Null in
    ap (λ (past : Measures). marked (value_fault 0 []) (holds (read_until site input (measure_at cells) past) e) >>= (λ truth. Ok (is_true truth))) read

module _ (input : List Tuple) (model : Model) where
  -- a turn that no UNTIL follows
  plain_rows : (start : Start) (r : Result State Placed) (q : Result Standing Placed) (k : State × Bool → Result State Placed) (g : Standing → Result Standing Placed)
      → ((t : State) (s : Standing) → Beside input model start t s → rows_done (k (t, false)) ≡ rows_meant (g s))
      → Both input model start r q → rows_done ((r >>= (λ t. Ok (t, false))) >>= k) ≡ rows_meant (q >>= g)
  plain_rows start (Ok t) (Ok s) k g h b = h t s b
  plain_rows start (Err a) (Err c) k g h b = ap Err b
  plain_rows start (Ok t) (Err c) k g h b = absurd b
  plain_rows start (Err a) (Ok s) k g h b = absurd b

  -- a turn that UNTIL follows
  until_rows : (start : Start) (r : Result State Placed) (q : Result Standing Placed) (u : State → Result Bool Placed) (k : State × Bool → Result State Placed) (g : Standing → Result Standing Placed)
      → ((t : State) (s : Standing) → Beside input model start t s → rows_done ((u t >>= (λ last. Ok (t, last))) >>= k) ≡ rows_meant (g s))
      → Both input model start r q → rows_done ((r >>= (λ t. u t >>= (λ last. Ok (t, last)))) >>= k) ≡ rows_meant (q >>= g)
  until_rows start (Ok t) (Ok s) u k g h b = h t s b
  until_rows start (Err a) (Err c) u k g h b = ap Err b
  until_rows start (Ok t) (Err c) u k g h b = absurd b
  until_rows start (Err a) (Ok s) u k g h b = absurd b

  abbrev after : ℕ → ℕ → State × Bool → Result State Placed
  after turn more ended = elim ended.1 [ true ↦ Ok ended.0 | false ↦ turns_done model (turn + 1) more ended.0 ]

  abbrev meant_after : ℕ → ℕ → Standing → Bool → Result Standing Placed
  meant_after turn more s last = elim last [ true ↦ Ok s | false ↦ turns_from model input (turn + 1) more s ]

  abbrev last_with : ℕ → Option Expr → Cells → Cells → Result Bool Placed
  last_with turn u before now = option_map_or (until_holds model input turn before now) u (Ok false)

  ended : (turn more : ℕ) (r : Result Bool Placed) (t : State) (s : Standing) → rows_in t ≡ rows_of s
      → rows_done (turns_done model (turn + 1) more t) ≡ rows_meant (turns_from model input (turn + 1) more s)
      → rows_done ((r >>= (λ last. Ok (t, last))) >>= after turn more) ≡ rows_meant (r >>= meant_after turn more s)
  ended turn more (Ok true) t s now later = ap Ok now
  ended turn more (Ok false) t s now later = later
  ended turn more (Err fault) t s now later = refl

  abbrev Follows : ℕ → ℕ → Type 0
  Follows turn more = (start : Start) (t : State) (s : Standing) → Beside input model start t s
      → rows_done (turns_done model turn more t) ≡ rows_meant (turns_from model input turn more s)

  turn_follows : (turn more : ℕ) → Follows (turn + 1) more → (u : Option Expr) (start : Start) (t : State) (s : Standing) → Beside input model start t s
      → rows_done (turn_with model turn u t >>= after turn more)
      ≡ rows_meant (turn_step model input turn s >>= (λ next. last_with turn u s.cells next.cells >>= meant_after turn more next))
  turn_follows turn more rest None start t s b =
      plain_rows start (turn_done model turn t) (turn_step model input turn s) (after turn more) (turns_from model input (turn + 1) more) (rest start) (turn_both input model start turn t s b)
  turn_follows turn more rest (Some e) start t s b =
      let here : Start = cell_at s.cells in
      let begins : Beside input model here (begun t) s = record { firsts = Some []; width = b.width; updated = b.updated; is = ap begun b.is; told = λ key. refl; alike = b.alike } in
      until_rows here (turn_done model turn (begun t)) (turn_step model input turn s) (λ next. until_true model turn next e) (after turn more)
      (λ next. until_holds model input turn s.cells next.cells e >>= meant_after turn more next)
      (λ next meant d.
      let same : until_true model turn next e ≡ until_holds model input turn s.cells meant.cells e = ap (λ n. until_true model turn n e) d.is ∙ until_told model turn e input d.firsts d.width d.updated meant.cells s.cells d.told in
      ap (λ r. rows_done ((r >>= (λ last. Ok (next, last))) >>= after turn more)) same
      ∙ ended turn more (until_holds model input turn s.cells meant.cells e) next meant (same_rows input model here next meant d) (rest here next meant d))
      (turn_both input model here turn (begun t) s begins)

  pub turns_follow : (more turn : ℕ) → Follows turn more
  turns_follow zero turn start t s b = ap Ok (same_rows input model start t s b)
  turns_follow (suc more) turn start t s b = turn_follows turn more (turns_follow more (turn + 1)) (until_in model) start t s b

-- the state over these cells before the turns
abbrev pub first_state : Model → ℕ → Cells → State
first_state model width cells = record {
  input = keys_of cells;
  track = track_of None cells;
  updated = [];
  width = width;
  count = length model.part.measures;
}

abbrev pub all_turns : Model → State → Result State Placed
all_turns model = turns_done model 0 (turn_count model)

-- the rows of a partition without a fault of its input
rows_are_over : (model : Model) (width : ℕ) (cells : Cells) → rows_done (all_turns model (first_state model width cells)) ≡ rows_over model cells
rows_are_over model width cells =
    turns_follow (keys_of cells) model (turn_count model) 0 (λ key. None) (first_state model width cells) (record { cells = cells; updated = [] })
    (record { firsts = None; width = width; updated = []; is = refl; told = λ key. refl; alike = λ key. refl })

pub rows_given : (model : Model) (width : ℕ) (cells : Cells) (first last : State) (rows : List OutCell) → first ≡ first_state model width cells
    → all_turns model first ≡ Ok last → rows ≡ map (out_cell last.updated) last.track.cells → rows_over model cells ≡ Ok rows
rows_given model width cells first last rows f h r =
    sym (rows_are_over model width cells) ∙ ap (λ t. rows_done (all_turns model t)) (sym f) ∙ ap rows_done h ∙ ap Ok (sym r)

pub rows_fault : (model : Model) (width : ℕ) (cells : Cells) (first : State) (e : Fail Placed) → first ≡ first_state model width cells
    → Gives {T = State} (Err e) (all_turns model first) → Gives {T = List OutCell} (Err e) (rows_over model cells)
rows_fault model width cells first e f h =
    fault_is_last (all_turns model first) (rows_over model cells) e h
    (λ fault g. sym (rows_are_over model width cells) ∙ ap (λ t. rows_done (all_turns model t)) (sym f) ∙ ap rows_done g)

-- the rules begin, or there is a fault before
begins : (fault : Option Placed) (r : Result Standing Placed) → option_map_or Err fault (r >>= (λ s. Ok (rows_of s))) ≡ (option_map_or Err fault r >>= (λ s. Ok (rows_of s)))
begins (Some fault) r = refl
begins None r = refl

left_is : (model : Model) (p : PartInput) → rows_left model p ≡ (cells_left model p >>= (λ s. Ok (rows_of s)))
left_is model p = begins (input_fault p) _

pub rows_are : (model : Model) (p : PartInput) (rows : List OutCell) → rows_left model p ≡ Ok rows → Rows rows ≡ sequential model p
rows_are model p rows h = ap (part_result p.key) (sym h ∙ left_is model p)

pub fault_is : (model : Model) (p : PartInput) (fault : Placed) → rows_left model p ≡ Err fault → Fault (at_partition p.key fault) ≡ sequential model p
fault_is model p fault h = ap (part_result p.key) (sym h ∙ left_is model p)
