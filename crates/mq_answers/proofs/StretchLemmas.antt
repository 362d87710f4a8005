-- Stretches of partitions: what is found in one, and how they come together.
use Rattle.std.proofs.Common.{◌≡◌, ℕ, ◌+◌, ◌<◌, ◌≤◌, List, [], ◌∷◌, ◌++◌, true, take, drop, length, get_or, Result, Ok, Err, refl, sym, ap, ◌∙◌, subst, arith}
use Rattle.std.specs.Prelude.{IfOk}
use Rattle.std.specs.List.{All, AllZip}
use Rattle.std.proofs.lemmas.List.{drop_all, take-append-drop}
use Rattle.std.proofs.lemmas.List.Elements.{All-cons, All-head, All-nil, All-tail}
use Rattle.mq_values.specs.Answers.{Gives}
use Rattle.mq_values.specs.declared.faults.QueryFault.{QueryFault}
use Rattle.mq_values.specs.declared.memory.Fail.{Fail}
use Rattle.mq_ir.specs.declared.query.Model.{Model as Lent}
use Rattle.mq_ir.specs.declared.query.PartInput.{PartInput}
use Rattle.mq_ir.specs.declared.query.PartResult.{PartResult}
use Rattle.mq_ir.specs.declared.query.PartResult.TheVariants as result
use Rattle.mq_ir.specs.Answer.{Gathered, partition_step, result_in}
use Rattle.mq_ir.specs.Partitions.{Tuple}
use Rattle.mq_ir.specs.Results.{◌>>=◌, each_in_turn}
use Rattle.mq_ir.specs.Unfolding.{Model, model_of}
use Rattle.mq_answers.specs.declared.stretches.Found.{Found}
use Rattle.mq_answers.specs.declared.stretches.Stretch.{Stretch}
use Rattle.mq_answers.specs.Stretches.{CanRun, ComesTo, HasRun, IsRunOf, IsRunnable, inputs_in, is_fault, with_found, with_stretch}
use Rattle.mq_answers.proofs.TurnLemmas.{fault_is_last, next_item}

-- ---- a state that is handed through one list and then another
module _ {A S E : Type 0} (f : A → S → Result S E) where
  turn_both : (xs ys : List A) (s : S) → each_in_turn f (xs ++ ys) s ≡ (each_in_turn f xs s >>= each_in_turn f ys)
  turn_both [] ys s = refl
  turn_both (x ∷ xs) ys s = by (f x s) (turn_both xs ys)
    where
      by : (r : Result S E) → ((t : S) → each_in_turn f (xs ++ ys) t ≡ (each_in_turn f xs t >>= each_in_turn f ys))
          → (r >>= each_in_turn f (xs ++ ys)) ≡ ((r >>= each_in_turn f xs) >>= each_in_turn f ys)
      by (Ok t) rest = rest t
      by (Err e) rest = refl

  -- the state behind what was handed over so far
  pub record Handed (first : S) (gone : List A) (now : S) : Type 0 where
    pub is : each_in_turn f gone first ≡ Ok now

  pub handed_start : (first : S) → Handed first [] first
  handed_start first = record { is = refl }

  behind_all : (first : S) (gone : List A) (now : S) (rest : List A) → Handed first gone now → each_in_turn f (gone ++ rest) first ≡ each_in_turn f rest now
  behind_all first gone now rest w = turn_both gone rest first ∙ ap (λ r. r >>= each_in_turn f rest) w.is

  alone : (x : A) (s : S) → each_in_turn f (x ∷ []) s ≡ f x s
  alone x s = by (f x s)
    where
      by : (r : Result S E) → (r >>= each_in_turn f []) ≡ r
      by (Ok t) = refl
      by (Err e) = refl

  pub handed_next : (first : S) (gone : List A) (now : S) (x : A) (after : S) → f x now ≡ Ok after → Handed first gone now → Handed first (gone ++ x ∷ []) after
  handed_next first gone now x after g w = record { is = behind_all first gone now (x ∷ []) w ∙ alone x now ∙ g }

  pub handed_exit : (first : S) (gone : List A) (now : S) (x : A) (rest : List A) (e : Fail E) → Handed first gone now → Gives {T = S} (Err e) (f x now)
      → Gives {T = S} (Err e) (each_in_turn f (gone ++ x ∷ rest) first)
  handed_exit first gone now x rest e w g =
      fault_is_last (f x now) (each_in_turn f (gone ++ x ∷ rest) first) e g
      (λ fault is. behind_all first gone now (x ∷ rest) w ∙ ap (λ r. r >>= each_in_turn f rest) is)

  -- what is left comes, behind a state, to the same as all
  pub record Left (first : S) (all left : List A) (now : S) : Type 0 where
    pub is : each_in_turn f left now ≡ each_in_turn f all first

  pub left_start : (first : S) (all left : List A) (now : S) → left ≡ all → now ≡ first → Left first all left now
  left_start first all left now e h = record { is = λ i. each_in_turn f (e i) (h i) }

  pub left_next : (first : S) (all left : List A) (now : S) (front rest : List A) (after : S) → left ≡ front ++ rest → each_in_turn f front now ≡ Ok after
      → Left first all left now → Left first all rest after
  left_next first all left now front rest after e g w = record {
    is = ap (λ r. r >>= each_in_turn f rest) (sym g) ∙ sym (turn_both front rest now) ∙ ap (λ l. each_in_turn f l now) (sym e) ∙ w.is;
  }

  pub left_exit : (first : S) (all left : List A) (now : S) (front rest : List A) (e : Fail E) → left ≡ front ++ rest → Gives {T = S} (Err e) (each_in_turn f front now)
      → Left first all left now → Gives {T = S} (Err e) (each_in_turn f all first)
  left_exit first all left now front rest e cut g w =
      fault_is_last (each_in_turn f front now) (each_in_turn f all first) e g
      (λ fault is. sym w.is ∙ ap (λ l. each_in_turn f l now) cut ∙ turn_both front rest now ∙ ap (λ r. r >>= each_in_turn f rest) is)

  pub left_end : (first : S) (all left : List A) (now : S) → length left ≤ 0 → Left first all left now → each_in_turn f all first ≡ Ok now
  left_end first all [] now h w = sym w.is
  left_end first all (x ∷ left) now h w = absurd (omega arith)

-- ---- a list that is cut in two, and what stands behind it
module _ {A : Type 0} where
  moved : (xs ys zs : List A) → xs ++ (ys ++ zs) ≡ (xs ++ ys) ++ zs
  moved [] ys zs = refl
  moved (x ∷ xs) ys zs = ap (λ l. x ∷ l) (moved xs ys zs)

  pub cut_is : (n : ℕ) (xs front last : List A) → front ≡ take n xs → last ≡ drop n xs → xs ≡ front ++ last
  cut_is n xs front last f l = sym (take-append-drop n xs) ∙ (λ i. sym f i ++ sym l i)

  pub cut_behind : (n : ℕ) (xs front last rest all : List A) → front ≡ take n xs → last ≡ drop n xs → xs ++ rest ≡ all → front ++ (last ++ rest) ≡ all
  cut_behind n xs front last rest all f l e = moved front last rest ∙ ap (λ ys. ys ++ rest) (sym (cut_is n xs front last f l)) ∙ e

-- ---- what is found in a stretch, partition by partition
module _ (model : Model) where
  abbrev step : PartInput → Gathered → Result Gathered QueryFault
  step = partition_step model

  abbrev put : Found → Gathered → Result Gathered QueryFault
  put = with_found model

  abbrev found_of : PartInput → Found
  found_of p = record { key = p.key; made = result_in model p }

  -- what was found so far, and the partitions behind it
  pub record FoundSoFar (inputs : List PartInput) (i : ℕ) (found : List Found) : Type 0 where
    pub is : (before : Gathered) → (each_in_turn put found before >>= each_in_turn step (drop i inputs)) ≡ each_in_turn step inputs before

  pub found_start : (inputs : List PartInput) → FoundSoFar inputs 0 []
  found_start inputs = record { is = λ before. refl }

  -- one more
  one_more : (found : List Found) (p : PartInput) (rest : List PartInput) (before : Gathered)
      → (each_in_turn put (found ++ found_of p ∷ []) before >>= each_in_turn step rest) ≡ (each_in_turn put found before >>= each_in_turn step (p ∷ rest))
  one_more found p rest before =
      ap (λ r. r >>= each_in_turn step rest) (turn_both put found (found_of p ∷ []) before) ∙ by (each_in_turn put found before)
    where
      by : (r : Result Gathered QueryFault) → ((r >>= each_in_turn put (found_of p ∷ [])) >>= each_in_turn step rest) ≡ (r >>= each_in_turn step (p ∷ rest))
      by (Ok g) = ap (λ r. r >>= each_in_turn step rest) (alone put (found_of p) g)
      by (Err e) = refl

  pub found_next : (inputs : List PartInput) (i : ℕ) (found : List Found) (p : PartInput) (next : Found) (after : List Found) → i < length inputs → p ≡ get_or inputs i p
      → next ≡ found_of p → after ≡ found ++ next ∷ [] → FoundSoFar inputs i found → FoundSoFar inputs (i + 1) after
  found_next inputs i found p next after under at is put_last w = record {
    is = λ before.
        ap (λ l. each_in_turn put l before >>= each_in_turn step (drop (i + 1) inputs)) (put_last ∙ ap (λ f. found ++ f ∷ []) is)
        ∙ one_more found p (drop (i + 1) inputs) before
        ∙ ap (λ l. each_in_turn put found before >>= each_in_turn step l) (sym (next_item inputs i p under at))
        ∙ w.is before;
  }

  -- behind a fault nothing plays a part
  stops : (key : Tuple) (r : PartResult) (rest : List PartInput) (g : Gathered) → is_fault r ≡ true
      → (put (record { key = key; made = r }) g >>= each_in_turn step rest) ≡ put (record { key = key; made = r }) g
  stops key (result.Rows cells) rest g h = absurd (cc)
  stops key (result.Fault fault) rest g h = refl

  last_one : (p : PartInput) (rest : List PartInput) (r : Result Gathered QueryFault) → is_fault (result_in model p) ≡ true
      → (r >>= each_in_turn put (found_of p ∷ [])) ≡ (r >>= each_in_turn step (p ∷ rest))
  last_one p rest (Ok g) h = alone put (found_of p) g ∙ sym (stops p.key (result_in model p) rest g h)
  last_one p rest (Err e) h = refl

  pub found_fault : (inputs : List PartInput) (i : ℕ) (found : List Found) (p : PartInput) (next : Found) (after : List Found) → i < length inputs → p ≡ get_or inputs i p
      → next ≡ found_of p → after ≡ found ++ next ∷ [] → is_fault next.made ≡ true → FoundSoFar inputs i found → ComesTo model inputs after
  found_fault inputs i found p next after under at is put_last h w = record {
    is = λ before.
        ap (λ l. each_in_turn put l before) (put_last ∙ ap (λ f. found ++ f ∷ []) is)
        ∙ turn_both put found (found_of p ∷ []) before
        ∙ last_one p (drop (i + 1) inputs) (each_in_turn put found before) (sym (ap (λ (f : Found). is_fault f.made) is) ∙ h)
        ∙ ap (λ l. each_in_turn put found before >>= each_in_turn step l) (sym (next_item inputs i p under at))
        ∙ w.is before;
  }

  no_more : (r : Result Gathered QueryFault) → (r >>= each_in_turn step []) ≡ r
  no_more (Ok g) = refl
  no_more (Err e) = refl

  pub found_end : (inputs : List PartInput) (i : ℕ) (found : List Found) → length inputs ≤ i → FoundSoFar inputs i found → ComesTo model inputs found
  found_end inputs i found all w = record {
    is = λ before.
        sym (no_more (each_in_turn put found before))
        ∙ ap (λ l. each_in_turn put found before >>= each_in_turn step l) (sym (drop_all i inputs all))
        ∙ w.is before;
  }

  -- ---- all stretches
  pub by_stretches : {R : Type 0} (stretches : List (Stretch R)) (before : Gathered) → each_in_turn (with_stretch model) stretches before ≡ each_in_turn step (inputs_in stretches) before
  by_stretches [] before = refl
  by_stretches (s ∷ ss) before = by (with_stretch model s before) (by_stretches ss) ∙ sym (turn_both step s.inputs (inputs_in ss) before)
    where
      by : (r : Result Gathered QueryFault) → ((t : Gathered) → each_in_turn (with_stretch model) ss t ≡ each_in_turn step (inputs_in ss) t)
          → (r >>= each_in_turn (with_stretch model) ss) ≡ (r >>= each_in_turn step (inputs_in ss))
      by (Ok t) rest = rest t
      by (Err e) rest = refl

-- stretches that were run have the partitions that they had, each with what was found
module _ {R : Type 0} (m : Lent) where
  one_run : (before after : Stretch R) → CanRun m before → IsRunOf before after → HasRun m after
  one_run before after can ran =
      subst (λ (inputs : List PartInput). IfOk after.found (ComesTo (model_of m) inputs)) (sym ran.1)
      (subst (λ (m : Lent). IfOk after.found (ComesTo (model_of m) before.inputs)) can.0 ran.2)

  pub all_runnable : (handed : List (Stretch R)) → All (CanRun m) handed → All IsRunnable handed
  all_runnable [] can = All-nil IsRunnable
  all_runnable (s ∷ ss) can = All-cons IsRunnable s ss (All-head (CanRun m) s ss can).1 (all_runnable ss (All-tail (CanRun m) s ss can))

  pub all_run : (handed after : List (Stretch R)) → All (CanRun m) handed → AllZip IsRunOf handed after → All (HasRun m) after
  all_run [] [] can ran = All-nil (HasRun m)
  all_run [] (a ∷ after) can ran = absurd ran
  all_run (b ∷ handed) [] can ran = absurd ran
  all_run (b ∷ handed) (a ∷ after) can ran =
      All-cons (HasRun m) a after (one_run b a (All-head (CanRun m) b handed can) ran.0) (all_run handed after (All-tail (CanRun m) b handed can) ran.1)

pub same_inputs : {R : Type 0} (handed after : List (Stretch R)) → AllZip IsRunOf handed after → inputs_in after ≡ inputs_in handed
same_inputs [] [] ran = refl
same_inputs [] (a ∷ after) ran = absurd ran
same_inputs (b ∷ handed) [] ran = absurd ran
same_inputs (b ∷ handed) (a ∷ after) ran = λ i. ran.0.1 i ++ same_inputs handed after ran.1 i

-- what stretches that were run make is what their partitions make
pub wave_is : {R : Type 0} (model : Model) (inputs : List PartInput) (handed after : List (Stretch R)) (before : Gathered) → AllZip IsRunOf handed after → inputs_in handed ≡ inputs
    → each_in_turn (with_stretch model) after before ≡ each_in_turn (partition_step model) inputs before
wave_is model inputs handed after before ran same =
    by_stretches model after before ∙ ap (λ (ps : List PartInput). each_in_turn (partition_step model) ps before) (same_inputs handed after ran ∙ same)
