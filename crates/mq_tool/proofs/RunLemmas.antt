-- A run, one statement after another.
use Rattle.std.proofs.Common.{◌≡◌, ℕ, zero, suc, ◌+◌, ◌<◌, ◌≤◌, length, get_or, drop, map, List, [], ◌∷◌, ◌++◌, Bool, false, if◌then◌else◌, ◌||◌, Option, Some, None, refl, sym, ap, ◌∙◌, subst, append_assoc, append-nil, arith}
use Rattle.std.specs.List.{cons_option, filter_map, list_any}
use Rattle.std.proofs.lemmas.List.{drop_all}
use Rattle.std.proofs.lemmas.List.Folds.{list_any-append}
use Rattle.std.specs.Option.{IfSome, option_map}
use Rattle.std.specs.Io.KnownBytes.{Appends, Consumes, IsAtEnd}
use Rattle.std.proofs.KnownBytes.{Appends-nil, Appends-trans}
use Rattle.mq_io.specs.Progress.{AppendsFront, GaveAtMost}
use Rattle.mq_io.specs.ProgressLemmas.{AppendsFront-after, AppendsFront-of_part}
use Rattle.mq_lexer.specs.declared.scanner.Rest.{Rest}
use Rattle.mq_lexer.specs.declared.script.Statement as code
use Rattle.mq_lexer.specs.Lexemes.{Lexeme}
use Rattle.mq_lexer.specs.Rests.{tokens_left}
use Rattle.mq_lexer.specs.Statements.{Statement, statement, statement_of, statements}
use Rattle.mq_lexer.specs.Tokens.{pieces_from, token_of}
use Rattle.mq_ir.specs.Lines.{Line, is_flaw, text_of}
use Rattle.mq_ir.specs.Statement.{State}
use Rattle.mq_engine.specs.Sessions.{nothing}
use Rattle.mq_tool.specs.Loads.{FileMap}
use Rattle.mq_tool.specs.Script.{ArePrinted, AreReadAs, IsLoad, IsReadAs, Read, StoppedAtLoad, lines_from, state_from, statement_step, status_of}
use Rattle.mq_tool.specs.declared.statuses.TheConstants.{DONE, FLAWED}
use Rattle.mq_tool.specs.Steps.{CutShort, IsLoadAt, Writes, WritesAll, WritesFront}
use Rattle.mq_tool.proofs.LineLemmas.{text_of-append}
use Rattle.mq_tool.proofs.ReadLemmas.{at_line}

-- a source that is not touched gave nothing
pub gave_nothing : (n : ℕ) (left : Option (List ℕ)) → GaveAtMost n left left
gave_nothing n None = tt
gave_nothing n (Some bytes) = omega arith

-- what holds of the bytes that were read to the end holds of those that the source told
pub told_whole : (P : List ℕ → Type 0) (old new : Option (List ℕ)) (bytes : List ℕ) → Consumes old new bytes → IsAtEnd new → P bytes → IfSome old P
told_whole P None new bytes c e p = tt
told_whole P (Some xs) None bytes c e p = absurd c
told_whole P (Some xs) (Some ys) bytes c e p = subst P (sym (c ∙ ap (λ t. bytes ++ t) e ∙ append-nil bytes)) p

-- what holds of the files that are told
pub if_told : (P : FileMap → Type 0) (told : Option FileMap) → ((files : FileMap) → told ≡ Some files → P files) → IfSome told P
if_told P None h = tt
if_told P (Some files) h = h files refl

-- the state after two lists of statements
state_from-append : (files : FileMap) (state : State) (xs ys : List (ℕ × Read)) → state_from files state (xs ++ ys) ≡ state_from files (state_from files state xs) ys
state_from-append files state [] ys = refl
state_from-append files state (x ∷ xs) ys = state_from-append files (statement_step files state x).0 xs ys

-- how two lists of statements are read
reads-append : (xs ys : List Statement) (rs ts : List (ℕ × Read)) → AreReadAs xs rs → AreReadAs ys ts → AreReadAs (xs ++ ys) (rs ++ ts)
reads-append [] ys [] ts p q = q
reads-append [] ys (r ∷ rs) ts p q = absurd p
reads-append (x ∷ xs) ys [] ts p q = absurd p
reads-append (x ∷ xs) ys (r ∷ rs) ts p q = (p.0, p.1, reads-append xs ys rs ts p.2 q)

-- how all statements are read where the rest is: those that are done first
pub record Behind (reads : List (ℕ × Read)) (all rest : List Statement) : Type 0 where
  pub joined : (rs : List (ℕ × Read)) → AreReadAs rest rs → AreReadAs all (reads ++ rs)
  pub parted : (rs : List (ℕ × Read)) → AreReadAs all rs → (others : List (ℕ × Read)) × (rs ≡ reads ++ others) × AreReadAs rest others

-- what was done of all statements, once the rest is left: with the lines of the rest it makes the lines of all
pub record RunSoFar (files : FileMap) (before now : Option (List ℕ)) (state : State) (flaw : Bool) (all rest : List Statement) : Type 0 where
  pub ran : List Statement
  pub parts : all ≡ ran ++ rest
  pub reads : List (ℕ × Read)
  pub are_read : AreReadAs ran reads
  pub stands : state_from files nothing reads ≡ state
  pub behind : Behind reads all rest
  pub done : List Line
  pub lines : (rs : List (ℕ × Read)) → lines_from files nothing (reads ++ rs) ≡ done ++ lines_from files state rs
  pub written : Appends before now (text_of done)
  pub flawed : flaw ≡ list_any is_flaw done

pub run_starts : (files : FileMap) (before : Option (List ℕ)) (all : List Statement) → RunSoFar files before before nothing false all all
run_starts files before all = record {
  ran = [];
  parts = refl;
  reads = [];
  are_read = tt;
  stands = refl;
  behind = record { joined = λ rs p. p; parted = λ rs p. (rs, refl, p) };
  done = [];
  lines = λ rs. refl;
  written = Appends-nil before;
  flawed = refl;
}

-- the next of them is read as r
next_behind : (reads : List (ℕ × Read)) (all rest : List Statement) (s : Statement) (read : Read) → IsReadAs s.tokens read
    → Behind reads all (s ∷ rest) → Behind (reads ++ (s.line, read) ∷ []) all rest
next_behind reads all rest s read is so = record {
  joined = λ rs p. subst (AreReadAs all) (sym (append_assoc reads ((s.line, read) ∷ []) rs)) (so.joined ((s.line, read) ∷ rs) (refl, is, p));
  parted = λ rs p. let h = so.parted rs p in by rs h.0 h.1 h.2;
}
  where
    by : (rs others : List (ℕ × Read)) → rs ≡ reads ++ others → AreReadAs (s ∷ rest) others
        → (next : List (ℕ × Read)) × (rs ≡ (reads ++ (s.line, read) ∷ []) ++ next) × AreReadAs rest next
    by rs [] e p = absurd p
    by rs (x ∷ xs) e p =
        let first : x ≡ (s.line, read) = at_line s.tokens s.line x (s.line, read) p.0 refl p.1 is in
        (xs, e ∙ ap (λ y. reads ++ y ∷ xs) first ∙ sym (append_assoc reads ((s.line, read) ∷ []) xs), p.2)

pub run_goes_on : (files : FileMap) (before now next : Option (List ℕ)) (state state' : State) (flaw found : Bool) (all left rest : List Statement) (s : Statement) (told : Option FileMap)
    → told ≡ Some files → left ≡ s ∷ rest → RunSoFar files before now state flaw all left → Writes s told state state' now next found
    → RunSoFar files before next state' (flaw || found) all rest
run_goes_on files before now next state state' flaw found all left rest s told is next-is so-left w =
    let so : RunSoFar files before now state flaw all (s ∷ rest) = subst (RunSoFar files before now state flaw all) next-is so-left in
    let r : ℕ × Read = (s.line, w.0) in
    let meant = statement_step files state r in
    let here = w.2 files is in
    record {
      ran = so.ran ++ s ∷ [];
      parts = so.parts ∙ sym (append_assoc so.ran (s ∷ []) rest);
      reads = so.reads ++ r ∷ [];
      are_read = reads-append so.ran (s ∷ []) so.reads (r ∷ []) so.are_read (refl, w.1, tt);
      stands = state_from-append files nothing so.reads (r ∷ []) ∙ ap (λ (st : State). (statement_step files st r).0) so.stands ∙ sym here.0;
      behind = next_behind so.reads all rest s w.0 w.1 so.behind;
      done = so.done ++ meant.1;
      lines = λ rs.
          ap (lines_from files nothing) (append_assoc so.reads (r ∷ []) rs) ∙ so.lines (r ∷ rs)
          ∙ sym (append_assoc so.done meant.1 (lines_from files meant.0 rs))
          ∙ ap (λ t. (so.done ++ meant.1) ++ lines_from files t rs) (sym here.0);
      written = subst (Appends before next) (sym (text_of-append so.done meant.1)) (Appends-trans before now next _ _ so.written here.1);
      flawed = ap (λ q. q || found) so.flawed ∙ ap (λ q. list_any is_flaw so.done || q) here.2 ∙ sym (list_any-append is_flaw so.done meant.1);
    }

pub run_cut : (files : FileMap) (before now next : Option (List ℕ)) (state : State) (flaw : Bool) (all left rest : List Statement) (s : Statement)
    (told : Option FileMap) → told ≡ Some files → left ≡ s ∷ rest → RunSoFar files before now state flaw all left → CutShort s told state now next
    → WritesFront files all before next
run_cut files before now next state flaw all left rest s told is next-is so cut lines printed =
    let h = so.behind.parted printed.reads printed.are_read in
    by h.0 (subst (λ (l : List Statement). AreReadAs l h.0) next-is h.2) (printed.printed ∙ ap (lines_from files nothing) h.1 ∙ so.lines h.0)
  where
    by : (others : List (ℕ × Read)) → AreReadAs (s ∷ rest) others → lines ≡ so.done ++ lines_from files state others
        → AppendsFront before next (text_of lines)
    by [] p e = absurd p
    by (x ∷ xs) p e =
        let r : ℕ × Read = (s.line, x.1) in
        let first : x ≡ r = at_line s.tokens s.line x r p.0 refl p.1 p.1 in
        let meant = statement_step files state r in
        let others = lines_from files meant.0 xs in
        let all_lines : lines ≡ so.done ++ (meant.1 ++ others) = e ∙ ap (λ y. so.done ++ lines_from files state (y ∷ xs)) first in
        let text : text_of so.done ++ (text_of meant.1 ++ text_of others) ≡ text_of lines =
        ap (λ t. text_of so.done ++ t) (sym (text_of-append meant.1 others)) ∙ sym (text_of-append so.done (meant.1 ++ others))
        ∙ ap text_of (sym all_lines) in
        subst (AppendsFront before next) text
        (AppendsFront-after before now next _ _ so.written (AppendsFront-of_part now next (text_of meant.1) (text_of others) (cut files x.1 is p.1)))

-- a run that stops at a LOAD
pub run_stops : (files : FileMap) (before now : Option (List ℕ)) (state : State) (flaw : Bool) (all left rest : List Statement) (s : Statement)
    → left ≡ s ∷ rest → RunSoFar files before now state flaw all left → IsLoadAt s state → StoppedAtLoad files all before now
run_stops files before now state flaw all left rest s next-is so load =
    let lines : so.done ≡ lines_from files nothing so.reads =
    sym (append-nil so.done) ∙ sym (so.lines []) ∙ ap (lines_from files nothing) (append-nil so.reads) in
    record {
      done = so.ran;
      load = s;
      others = rest;
      all = so.parts ∙ ap (λ l. so.ran ++ l) next-is;
      reads = so.reads;
      are_read = so.are_read;
      written = subst (λ (ls : List Line). Appends before now (text_of ls)) lines so.written;
      read = load.0;
      is_read = load.1;
      is_load = subst (λ (st : State). IsLoad st load.0) (sym so.stands) load.2;
    }

pub run_ends : (files : FileMap) (before now : Option (List ℕ)) (state : State) (flaw : Bool) (all : List Statement)
    → RunSoFar files before now state flaw all [] → WritesAll files all before now flaw
run_ends files before now state flaw all so =
    let printed : ArePrinted files all so.done = record {
      reads = so.reads ++ [];
      are_read = so.behind.joined [] tt;
      printed = sym (so.lines [] ∙ append-nil so.done);
    } in
    (so.done, printed, so.written, so.flawed)

-- the statement at a place, and those behind it
pub drop_statement : (xs : List code.Statement) (i : ℕ) (d : code.Statement) → i < length xs → drop i (map statement xs) ≡ statement (get_or xs i d) ∷ drop (i + 1) (map statement xs)
drop_statement [] i d less = absurd (omega arith)
drop_statement (x ∷ xs) zero d less = refl
drop_statement (x ∷ xs) (suc i) d less = let one : suc i + 1 ≡ suc (i + 1) = omega arith in rw one (drop_statement xs i d (omega arith))

-- none is behind the last
no_more : (xs : List code.Statement) (i : ℕ) → length xs ≤ i → drop i (map statement xs) ≡ []
no_more [] i h = drop_all i [] h
no_more (x ∷ xs) zero h = absurd (omega arith)
no_more (x ∷ xs) (suc i) h = no_more xs i (omega arith)

pub run_ends_at : (files : FileMap) (before now : Option (List ℕ)) (state : State) (flaw : Bool) (xs : List code.Statement) (i : ℕ) → length xs ≤ i
    → RunSoFar files before now state flaw (map statement xs) (drop i (map statement xs)) → WritesAll files (map statement xs) before now flaw
run_ends_at files before now state flaw xs i h so =
    run_ends files before now state flaw (map statement xs) (subst (RunSoFar files before now state flaw (map statement xs)) (no_more xs i h) so)

-- the status of a run that wrote all, by whether a line was a flaw
pub status_by : (files : FileMap) (ss : List Statement) (before after : Option (List ℕ)) (flaw : Bool) → WritesAll files ss before after flaw
    → (lines : List Line) × ArePrinted files ss lines × Appends before after (text_of lines) × ((if flaw then FLAWED else DONE) ≡ status_of lines)
status_by files ss before after flaw w = (w.0, w.1, w.2, ap (λ b. if b then FLAWED else DONE) w.3)

-- where memory ran out between two statements, what was written is a front
pub run_halts : (files : FileMap) (before now : Option (List ℕ)) (state : State) (flaw : Bool) (all rest : List Statement)
    → RunSoFar files before now state flaw all rest → WritesFront files all before now
run_halts files before now state flaw all rest so lines printed =
    let h = so.behind.parted printed.reads printed.are_read in (
      text_of so.done,
      text_of (lines_from files state h.0),
      ap text_of (printed.printed ∙ ap (lines_from files nothing) h.1 ∙ so.lines h.0) ∙ text_of-append so.done (lines_from files state h.0),
      so.written,
    )

-- what is left, where the tokens in front of it are a statement
pub next_is : (rest others : List Statement) (tokens : List Lexeme) (o : Option code.Statement) (s : code.Statement) → rest ≡ cons_option (statement_of tokens) others
    → option_map statement o ≡ statement_of tokens → o ≡ Some s → rest ≡ statement s ∷ others
next_is rest others tokens o s e is some =
    e ∙ ap (λ (x : Option Statement). cons_option x others) (sym is ∙ ap (option_map statement) some)

-- of no text no statement is left
pub none_left : (rest : Rest) → length rest.text.now ≡ 0 → statements (tokens_left rest) ≡ []
unfolding statements
none_left rest e = by rest.line rest.text.now e
  where
    by : (line : ℕ) (z : List ℕ) → length z ≡ 0 → statements (filter_map token_of (pieces_from 0 line z)) ≡ []
    by line [] e = refl
    by line (b ∷ z) e = absurd (omega arith)
