-- What a journal's entries, oldest first, make of a table of base values. Assumes nothing.
use Rattle.std.specs.Prelude.{ℕ, cond, List, [], ◌∷◌, length, Some, None, Option, ◌==◌, nat_lt, slice_index, slice_set}
use Rattle.std.specs.Option.{unwrap_or}
use Rattle.stores.specs.declared.entries.Entry.{Entry}

-- the base with every entry written into it
abbrev pub written : List Entry → List ℕ → List ℕ
written [] base = base
written (e ∷ es) base = written es (slice_set base e.object e.value)

-- the first where there is one, else the second
abbrev pub or_else : Option ℕ → Option ℕ → Option ℕ
or_else (Some x) other = Some x
or_else None other = other

-- the value of the newest entry for an object
abbrev pub newest : List Entry → ℕ → Option ℕ
newest [] object = None
newest (e ∷ es) object = or_else (newest es object) (cond (e.object == object) (Some e.value) None)

-- what a journal answers for an object: the newest entry counts, else the base
abbrev pub newest_or_base : List Entry → List ℕ → ℕ → Option ℕ
newest_or_base entries base object = cond (nat_lt object (length base)) (Some (unwrap_or (newest entries object) (slice_index base object))) None
