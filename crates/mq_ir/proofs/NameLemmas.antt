-- Items that go by names, as the entries of a map from the names.
use Rattle.std.proofs.Common.{◌≡◌, List, [], ◌∷◌, ◌++◌, Bool, true, false, ◌||◌, not, cond, Option, None, Some, is_some, refl, sym, ap, subst, ◌∙◌, ℕ}
use Rattle.std.specs.Prelude.{String, bytes_eq}
use Rattle.std.specs.String.{string_bytes}
use Rattle.std.specs.declared.alloc.Global.{Global}
use Rattle.std.specs.Map.{lookup, remove_entry, values_of}
use Rattle.std.proofs.lemmas.Cmp.{nat_list_eq_equiv}
use Rattle.std.proofs.lemmas.List.{map_push}
use Rattle.indexmap.specs.IndexMap.{IndexMap, get, insert_entry, values}
use Rattle.indexmap.proofs.CallerLemmas.{insert_entry-new}
use Rattle.mq_ir.specs.NamedItems.{HaveTheirNames, has_name, item_of, others}
use Rattle.mq_ir.specs.Tables.{is_name}

-- a key of the map is this name
abbrev pub goes_by : List ℕ → String Global → Bool
goes_by name key = bytes_eq name (string_bytes key)

abbrev pub same_key : String Global → String Global → Bool
same_key a b = bytes_eq (string_bytes a) (string_bytes b)

none_of : {A : Type 0} (o : Option A) → is_some o ≡ false → o ≡ None
none_of None h = refl
none_of (Some x) h = absurd (cc)

module _ {A : Type 0} (name_of : A → List ℕ) where
  abbrev Entries : Type 0
  Entries = List (String Global × A)

  module _ (name : List ℕ) where
    -- the name of an entry is asked for, or that of its item
    asked : (entry : String Global × A) → string_bytes entry.0 ≡ name_of entry.1 → is_name name (string_bytes entry.0) ≡ is_name (name_of entry.1) name
    asked entry own = ap (is_name name) own ∙ nat_list_eq_equiv.symm name (name_of entry.1)

    pub found : (entries : Entries) → HaveTheirNames name_of entries → lookup (goes_by name) entries ≡ item_of name_of (values_of entries) name
    found [] own = refl
    found (entry ∷ entries) own = λ i. cond (asked entry own.0 i) (Some entry.1) (found entries own.1 i)

    pub there : (entries : Entries) → HaveTheirNames name_of entries → is_some (lookup (goes_by name) entries) ≡ has_name name_of (values_of entries) name
    there [] own = refl
    there (entry ∷ entries) own =
        by (is_name name (string_bytes entry.0)) (there entries own.1) ∙ ap (λ b. b || has_name name_of (values_of entries) name) (asked entry own.0)
      where
        by : (b : Bool) → is_some (lookup (goes_by name) entries) ≡ has_name name_of (values_of entries) name
            → is_some (cond b (Some entry.1) (lookup (goes_by name) entries)) ≡ (b || has_name name_of (values_of entries) name)
        by true h = refl
        by false h = h

    -- items of which none has the name
    kept : (entries : Entries) → HaveTheirNames name_of entries → lookup (goes_by name) entries ≡ None → values_of entries ≡ others name_of (values_of entries) name
    kept [] own h = refl
    kept (entry ∷ entries) own h = by (is_name name (string_bytes entry.0)) refl (kept entries own.1) h
      where
        rest : List A
        rest = others name_of (values_of entries) name

        by : (b : Bool) → b ≡ is_name name (string_bytes entry.0) → (lookup (goes_by name) entries ≡ None → values_of entries ≡ rest)
            → cond b (Some entry.1) (lookup (goes_by name) entries) ≡ None
            → entry.1 ∷ values_of entries ≡ cond (not (is_name name (name_of entry.1))) (entry.1 ∷ rest) rest
        by true p behind k = absurd (cc)
        by false p behind k = ap (λ l. entry.1 ∷ l) (behind k) ∙ ap (λ c. cond (not c) (entry.1 ∷ rest) rest) (p ∙ ap (is_name name) own.0)

    -- the first of a name is removed, after which none has it
    pub removed : (entries : Entries) → HaveTheirNames name_of entries → lookup (goes_by name) (remove_entry (goes_by name) entries) ≡ None
        → values_of (remove_entry (goes_by name) entries) ≡ others name_of (values_of entries) name
    removed [] own h = refl
    removed (entry ∷ entries) own h = by (is_name name (string_bytes entry.0)) refl (removed entries own.1) h
      where
        rest : List A
        rest = others name_of (values_of entries) name

        less : Entries
        less = remove_entry (goes_by name) entries

        by : (b : Bool) → b ≡ is_name name (string_bytes entry.0) → (lookup (goes_by name) less ≡ None → values_of less ≡ rest)
            → lookup (goes_by name) (cond b entries (entry ∷ less)) ≡ None
            → values_of (cond b entries (entry ∷ less)) ≡ cond (not (is_name name (name_of entry.1))) (entry.1 ∷ rest) rest
        by true p behind k = kept entries own.1 k ∙ ap (λ c. cond (not c) (entry.1 ∷ rest) rest) (p ∙ ap (is_name name) own.0)
        by false p behind k =
            ap (λ l. entry.1 ∷ l) (behind (ap (λ c. cond c (Some entry.1) (lookup (goes_by name) less)) p ∙ k))
            ∙ ap (λ c. cond (not c) (entry.1 ∷ rest) rest) (p ∙ ap (is_name name) own.0)

    pub names_left : (entries : Entries) → HaveTheirNames name_of entries → HaveTheirNames name_of (remove_entry (goes_by name) entries)
    names_left [] own = tt
    names_left (entry ∷ entries) own = by (is_name name (string_bytes entry.0)) (names_left entries own.1)
      where
        by : (b : Bool) → HaveTheirNames name_of (remove_entry (goes_by name) entries)
            → HaveTheirNames name_of (cond b entries (entry ∷ remove_entry (goes_by name) entries))
        by true behind = own.1
        by false behind = (own.0, behind)

  names_and : (entries : Entries) (name : String Global) (item : A) → HaveTheirNames name_of entries → string_bytes name ≡ name_of item → HaveTheirNames name_of (entries ++ (name, item) ∷ [])
  names_and [] name item own h = (h, tt)
  names_and (entry ∷ entries) name item own h = (own.0, names_and entries name item own.1 h)

  -- an item whose name is new comes behind the others
  module _ {S : Type 0} (m : IndexMap (String Global) A S) (own : HaveTheirNames name_of m.entries) (name : String Global) (item : A) (called : string_bytes name ≡ name_of item)
      (new : has_name name_of (values m) (name_of item) ≡ false) where
    entries_put : insert_entry same_key m.entries name item ≡ m.entries ++ (name, item) ∷ []
    entries_put = insert_entry-new same_key m name item (none_of (get same_key m name) (there (string_bytes name) m.entries own ∙ ap (has_name name_of (values m)) called ∙ new))

    pub items_put : values_of (insert_entry same_key m.entries name item) ≡ values m ++ item ∷ []
    items_put = ap values_of entries_put ∙ map_push (λ (entry : String Global × A). entry.1) m.entries (name, item)

    pub names_put : HaveTheirNames name_of (insert_entry same_key m.entries name item)
    names_put = subst (HaveTheirNames name_of) (sym entries_put) (names_and m.entries name item own called)
