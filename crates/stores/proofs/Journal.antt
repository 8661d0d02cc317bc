-- Laws of a journal's entries. Assumes nothing.
use Rattle.std.proofs.Common.{◌≡◌, ℕ, ◌+◌, ◌<◌, ◌==◌, List, [], ◌∷◌, ◌++◌, length, get_or, drop, set, reverse, Bor, Some, None, Option, unwrap_or, sym, refl, ◌∙◌, arith, length-set}
use Rattle.std.proofs.lemmas.Grind.{common_steps, reverse_onto}
use Rattle.std.proofs.lemmas.List.{get_or-set_same, get_or-set_other, at_drop_more}
use Rattle.std.proofs.lemmas.List.Folds.{find-append}
use Rattle.std.specs.List.{find}
use Rattle.std.specs.Option.{option_or, option_map}
use Rattle.stores.specs.declared.entries.Entry.{Entry}
use Rattle.stores.specs.Entries.{written, newest, newest_or_base, or_else}
use Rattle.stores.specs.Meaning.{value_at}

-- what the checker reads past a list's end
abbrev blank : Entry
blank = record { object = 0; value = 0 }

pub length_written : (es : List Entry) (base : List ℕ) → length (written es base) ≡ length base
length_written [] base = refl
length_written (e ∷ es) base = length_written es (set base e.object e.value) ∙ length-set base e.object e.value

pub written_push : (es : List Entry) (base : List ℕ) (e : Entry) → written (es ++ (e ∷ [])) base ≡ set (written es base) e.object e.value
written_push [] base e = refl
written_push (x ∷ es) base e = written_push es (set base x.object x.value) e

-- the next entry is written, and the later ones are left
pub written_next : (es : List Entry) (i : ℕ) (table : List ℕ) → i < length es → written (drop (i + 1) es) (set table (get_or es i blank).object (get_or es i blank).value) ≡ written (drop i es) table
written_next es i table within = sym (at_drop_more (λ xs. written xs table) es i blank within)

-- the newest entry for an object counts, else the base
value_written : (es : List Entry) (base : List ℕ) (object : ℕ) → object < length base → get_or (written es base) object 0 ≡ unwrap_or (newest es object) (get_or base object 0)
value_written [] base object within = refl
value_written (e ∷ es) base object within = grind (arith, common_steps, value_written es (set base e.object e.value) object, get_or-set_same, get_or-set_other, length-set)

pub value_at_written : (es : List Entry) (base : List ℕ) (object : ℕ) → newest_or_base es base object ≡ value_at (written es base) object
value_at_written es base object = grind (arith, length_written es base, value_written es base object)

value_or_else : (a b : Option Entry) → option_map (λ e. e.value) (option_or a b) ≡ or_else (option_map (λ e. e.value) a) (option_map (λ e. e.value) b)
value_or_else None b = refl
value_or_else (Some x) b = refl

newest_found : (es : List Entry) (object : ℕ) → newest es object ≡ option_map (λ e. e.value) (find (λ e. e.object == object) (reverse es))
newest_found [] object = refl
newest_found (e ∷ es) object = grind (arith, newest_found es object, value_or_else, find-append, reverse_onto)

-- seen from the end, the newest entry stands first
pub newest_from_end : (es : List Entry) (object : ℕ) (found : Option (Bor Entry)) (value : Option ℕ) → option_map (λ e. e.now) found ≡ find (λ e. e.object == object) (reverse es)
    → value ≡ option_map (λ e. e.now.value) found → value ≡ newest es object
newest_from_end es object None value e e' = grind (arith, newest_found es object)
newest_from_end es object (Some x) value e e' = grind (arith, newest_found es object)
