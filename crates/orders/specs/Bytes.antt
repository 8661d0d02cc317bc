-- Numbers in the bytes of an order. Bytes past the end count as 0. Assumes nothing.
use Rattle.std.specs.Prelude.{ℕ, ◌+◌, ◌*◌, List, slice_index}

-- the number of four bytes, the lowest first
abbrev pub number_at : List ℕ → ℕ → ℕ
number_at bytes place =
    slice_index bytes place + 256 * slice_index bytes (place + 1) + 65536 * slice_index bytes (place + 2) + 16777216 * slice_index bytes (place + 3)
