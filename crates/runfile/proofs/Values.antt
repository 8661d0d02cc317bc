-- The list of the opening values: its length and its elements.
use Rattle.std.proofs.Common.{◌≡◌, ℕ, zero, suc, ◌+◌, ◌<◌, List, length, get_or, refl, ap, ◌∙◌, add-zero, arith}
use Rattle.runfile.specs.HeaderFormat.{object_count, opening_at, opening_values, values_from}

pub length_values_from : (file : List ℕ) (left object : ℕ) → length (values_from file left object) ≡ left
length_values_from file zero object = refl
length_values_from file (suc left) object = ap suc (length_values_from file left (object + 1))

pub getD_values_from : (file : List ℕ) (left object k : ℕ) → k < left → get_or (values_from file left object) k 0 ≡ opening_at file (object + k)
getD_values_from file zero object k h = absurd (omega arith)
getD_values_from file (suc left) object zero h = rw (add-zero object)
getD_values_from file (suc left) object (suc k) h =
    let same : object + 1 + k ≡ object + suc k = omega arith in
    getD_values_from file left (object + 1) k (omega arith) ∙ ap (opening_at file) same

-- there are as many values as the header counts objects
pub length_opening_values : (file : List ℕ) → length (opening_values file) ≡ object_count file
length_opening_values file = length_values_from file (object_count file) 0

-- and each is the one at its object's place
pub getD_opening_values : (file : List ℕ) (object : ℕ) → object < object_count file → get_or (opening_values file) object 0 ≡ opening_at file object
getD_opening_values file object h =
    let same : 0 + object ≡ object = omega arith in
    getD_values_from file (object_count file) 0 object h ∙ ap (opening_at file) same
