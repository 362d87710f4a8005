-- Tables are found under their names as before, whatever further table stands among them.
use Rattle.std.proofs.Common.{◌≡◌, ◌≢◌, ◌⊎◌, inl, inr, ℕ, List, [], ◌∷◌, ◌++◌, take, drop, cond, Bool, true, false, not, ◌&&◌, ◌||◌, Option, Some, None, Result, Ok, nat_eq, refl, sym, ap, ◌∙◌, subst}
use Rattle.std.specs.Cmp.Lexicographic.{pointwise}
use Rattle.std.specs.List.{find, list_any}
use Rattle.std.specs.Option.{ok_or, option_map}
use Rattle.std.proofs.lemmas.Bool.{eqb-true}
use Rattle.std.proofs.lemmas.List.{append-nil, take-append-drop}
use Rattle.mq_values.specs.declared.faults.Refused.{Refused}
use Rattle.mq_ir.specs.declared.catalog.Catalog.{Catalog}
use Rattle.mq_ir.specs.declared.catalog.TableEntry.{TableEntry}
use Rattle.mq_ir.specs.declared.statement.Bound.{Bound}
use Rattle.mq_ir.specs.declared.statement.Schema.{Schema}
use Rattle.mq_ir.specs.Names.{is_table}
use Rattle.mq_ir.specs.Tables.{is_name}
use Rattle.mq_bind_scopes.specs.Names.{Name}
use Rattle.mq_bind_scopes.specs.Refusals.{refused_where, unknown_name}
use Rattle.mq_binder.specs.FromWalk.{table_called}
use Rattle.mq_binder.specs.StatementWalk.{if_table}
use Rattle.mq_bind_laws.specs.FurtherTable.{StaysUnlessUnknown, with_table, with_table_at}

abbrev pub has_name : Name → TableEntry → Bool
has_name name entry = is_name entry.name name

-- a catalog before and after this table is put among its tables; none behind it has its name
pub record Grown (table : TableEntry) (before after : Catalog) : Type 0 where
  pub front : List TableEntry
  pub back : List TableEntry
  pub was : before.tables ≡ front ++ back
  pub is : after.tables ≡ front ++ table ∷ back
  pub new : list_any (has_name table.name) back ≡ false

pub grown : (catalog : Catalog) (table : TableEntry) → Grown table catalog (with_table catalog table)
grown catalog table = record { front = catalog.tables; back = []; was = sym (append-nil catalog.tables); is = refl; new = refl }

none_of_rest : (p : TableEntry → Bool) (front back : List TableEntry) → list_any p (front ++ back) ≡ false → list_any p back ≡ false
none_of_rest p [] back h = h
none_of_rest p (x ∷ xs) back h = by (p x) h (none_of_rest p xs back)
  where
    by : (b : Bool) → (b || list_any p (xs ++ back)) ≡ false → (list_any p (xs ++ back) ≡ false → list_any p back ≡ false) → list_any p back ≡ false
    by true g rest = absurd cc
    by false g rest = rest g

pub grown_at : (place : ℕ) (catalog : Catalog) (table : TableEntry) → is_table catalog table.name ≡ false → Grown table catalog (with_table_at place catalog table)
grown_at place catalog table h =
    let e : take place catalog.tables ++ drop place catalog.tables ≡ catalog.tables = take-append-drop place catalog.tables in
    record {
      front = take place catalog.tables;
      back = drop place catalog.tables;
      was = sym e;
      is = refl;
      new = none_of_rest (has_name table.name) (take place catalog.tables) (drop place catalog.tables) (ap (list_any (has_name table.name)) e ∙ h);
    }

-- ---- names that are equal
pub name_is : (a b : Name) → is_name a b ≡ true → a ≡ b
name_is [] [] h = refl
name_is [] (y ∷ ys) h = absurd cc
name_is (x ∷ xs) [] h = absurd cc
name_is (x ∷ xs) (y ∷ ys) h = by (nat_eq x y) refl (name_is xs ys) h
  where
    by : (b : Bool) → nat_eq x y ≡ b → (is_name xs ys ≡ true → xs ≡ ys) → (b && pointwise nat_eq xs ys) ≡ true → x ∷ xs ≡ y ∷ ys
    by true e k g = let p : x ≡ y = eqb-true x y e in let q : xs ≡ ys = k g in cc
    by false e k g = absurd cc

pub name_is_not : (a b : Name) → b ≢ a → is_name a b ≡ false
name_is_not a b n = by (is_name a b) refl
  where
    by : (t : Bool) → is_name a b ≡ t → t ≡ false
    by true e = absurd (n (sym (name_is a b e)))
    by false e = refl

-- ---- the first table that passes a test, and whether there is one
module _ (p : TableEntry → Bool) (table : TableEntry) where
  none_found : (xs : List TableEntry) → list_any p xs ≡ false → find p xs ≡ None
  none_found [] h = refl
  none_found (x ∷ xs) h = by (p x) h (none_found xs)
    where
      by : (b : Bool) → (b || list_any p xs) ≡ false → (list_any p xs ≡ false → find p xs ≡ None) → cond b (Some x) (find p xs) ≡ None
      by true g rest = absurd cc
      by false g rest = rest g

  found_alike : (front back : List TableEntry) → p table ≡ false → find p (front ++ table ∷ back) ≡ find p (front ++ back)
  found_alike [] back h = ap (λ b. cond b (Some table) (find p back)) h
  found_alike (x ∷ xs) back h = ap (λ (o : Option TableEntry). cond (p x) (Some x) o) (found_alike xs back h)

  found_or_none : (front back : List TableEntry) → list_any p back ≡ false → (find p (front ++ table ∷ back) ≡ find p (front ++ back)) ⊎ (find p (front ++ back) ≡ None)
  found_or_none [] back h = inr (none_found back h)
  found_or_none (x ∷ xs) back h = by (p x) (found_or_none xs back h)
    where
      by : (b : Bool) → (find p (xs ++ table ∷ back) ≡ find p (xs ++ back)) ⊎ (find p (xs ++ back) ≡ None)
          → (cond b (Some x) (find p (xs ++ table ∷ back)) ≡ cond b (Some x) (find p (xs ++ back))) ⊎ (cond b (Some x) (find p (xs ++ back)) ≡ None)
      by true o = inl refl
      by false o = o

  pub any_alike : (front back : List TableEntry) → p table ≡ false → list_any p (front ++ table ∷ back) ≡ list_any p (front ++ back)
  any_alike [] back h = ap (λ b. b || list_any p back) h
  any_alike (x ∷ xs) back h = ap (λ b. p x || b) (any_alike xs back h)

  any_there : (front back : List TableEntry) → p table ≡ true → list_any p (front ++ table ∷ back) ≡ true
  any_there [] back h = ap (λ b. b || list_any p back) h
  any_there (x ∷ xs) back h = by (p x) (any_there xs back h)
    where
      by : (b : Bool) → list_any p (xs ++ table ∷ back) ≡ true → (b || list_any p (xs ++ table ∷ back)) ≡ true
      by true g = refl
      by false g = g

-- ---- the columns of the table of a name
abbrev schema_among : List TableEntry → Name → Result Schema Refused
schema_among tables name = ok_or (option_map (λ (entry : TableEntry). entry.schema) (find (has_name name) tables)) (unknown_name name)

schema_stays : (table : TableEntry) (front back : List TableEntry) → list_any (has_name table.name) back ≡ false
    → (name : Name) → StaysUnlessUnknown table.name (schema_among (front ++ back) name) (schema_among (front ++ table ∷ back) name)
schema_stays table front back new name = by (is_name table.name name) refl
  where
    given : Name → Option TableEntry → Result Schema Refused
    given n o = ok_or (option_map (λ (entry : TableEntry). entry.schema) o) (unknown_name n)

    own : StaysUnlessUnknown table.name (schema_among (front ++ back) table.name) (schema_among (front ++ table ∷ back) table.name)
    own = elim (found_or_none (has_name table.name) table front back new) [ inl e ↦ inl (ap (given table.name) e) | inr e ↦ inr (ap (given table.name) e) ]

    by : (b : Bool) → is_name table.name name ≡ b → StaysUnlessUnknown table.name (schema_among (front ++ back) name) (schema_among (front ++ table ∷ back) name)
    by true e = subst (λ (n : Name). StaysUnlessUnknown table.name (schema_among (front ++ back) n) (schema_among (front ++ table ∷ back) n)) (name_is table.name name e) own
    by false e = inl (ap (given name) (found_alike (has_name name) table front back e))

pub table_stays : (table : TableEntry) (before after : Catalog) → Grown table before after → (name : Name) → StaysUnlessUnknown table.name (table_called before name) (table_called after name)
table_stays table before after g name =
    subst (λ (ts : List TableEntry). StaysUnlessUnknown table.name (schema_among ts name) (schema_among after.tables name)) (sym g.was) (
    subst (λ (ts : List TableEntry). StaysUnlessUnknown table.name (schema_among (g.front ++ g.back) name) (schema_among ts name)) (sym g.is) (
    schema_stays table g.front g.back g.new name))

-- ---- whether there is a table of a name
abbrev if_among : List TableEntry → Name → Bound → Result Bound Refused
if_among tables name b = refused_where (not (list_any (has_name name) tables)) (unknown_name name) (Ok b)

named_stays : (table : TableEntry) (front back : List TableEntry) (name : Name) (b : Bound)
    → StaysUnlessUnknown table.name (if_among (front ++ back) name b) (if_among (front ++ table ∷ back) name b)
named_stays table front back name b = by (is_name table.name name) refl
  where
    asked : Name → Bool → Result Bound Refused
    asked n t = refused_where (not t) (unknown_name n) (Ok b)

    there : (t : Bool) → StaysUnlessUnknown table.name (asked table.name t) (Ok b)
    there true = inl refl
    there false = inr refl

    by : (t : Bool) → is_name table.name name ≡ t → StaysUnlessUnknown table.name (if_among (front ++ back) name b) (if_among (front ++ table ∷ back) name b)
    by true e = subst
        (λ (r : Result Bound Refused). StaysUnlessUnknown table.name (if_among (front ++ back) name b) r)
        (sym (ap (asked name) (any_there (has_name name) table front back e)))
        (subst (λ (n : Name). StaysUnlessUnknown table.name (asked n (list_any (has_name name) (front ++ back))) (Ok b)) (name_is table.name name e) (there (list_any (has_name name) (front ++ back))))
    by false e = inl (ap (asked name) (any_alike (has_name name) table front back e))

pub if_table_stays : (table : TableEntry) (before after : Catalog) → Grown table before after → (name : Name) (b : Bound) → StaysUnlessUnknown table.name (if_table before name b) (if_table after name b)
if_table_stays table before after g name b =
    subst (λ (ts : List TableEntry). StaysUnlessUnknown table.name (if_among ts name b) (if_among after.tables name b)) (sym g.was) (
    subst (λ (ts : List TableEntry). StaysUnlessUnknown table.name (if_among (g.front ++ g.back) name b) (if_among ts name b)) (sym g.is) (
    named_stays table g.front g.back name b))

pub is_table_stays : (table : TableEntry) (before after : Catalog) → Grown table before after → (name : Name) → name ≢ table.name → is_table after name ≡ is_table before name
is_table_stays table before after g name other =
    ap (list_any (has_name name)) g.is ∙ any_alike (has_name name) table g.front g.back (name_is_not table.name name other) ∙ ap (list_any (has_name name)) (sym g.was)
