-- Numbers and parts of a file's bytes, and the choice of the first fault. Bytes past the end count as 0. Assumes nothing.
use Rattle.std.specs.Prelude.{ℕ, ◌+◌, ◌*◌, Bool, cond, List, [], ◌∷◌, take, drop, slice_index}

-- the number of four bytes, the lowest first
abbrev pub le32 : List ℕ → ℕ → ℕ
le32 file place =
    slice_index file place + 256 * slice_index file (place + 1) + 65536 * slice_index file (place + 2) + 16777216 * slice_index file (place + 3)

-- `count` bytes from a place on
abbrev pub part : List ℕ → ℕ → ℕ → List ℕ
part file from count = take count (drop from file)

-- the answer beside the first test that holds, and where none holds, the last one
abbrev pub first_of : {A : Type 0} → List (Bool × A) → A → A
first_of [] last = last
first_of (check ∷ checks) last = cond check.0 check.1 (first_of checks last)
