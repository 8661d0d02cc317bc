-- Strictly ascending lists of numbers. Assumes nothing.
use Rattle.std.specs.Prelude.{ℕ, suc, Bool, true, ◌&&◌, List, [], ◌∷◌, nat_le}

-- each number is at least `least`, and larger than the one before it
abbrev pub ascends_from : ℕ → List ℕ → Bool
ascends_from least [] = true
ascends_from least (x ∷ xs) = nat_le least x && ascends_from (suc x) xs

abbrev pub ascending : List ℕ → Bool
ascending xs = ascends_from 0 xs
