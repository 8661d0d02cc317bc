-- The clauses of an order, each from its own six bytes. Assumes nothing.
use Rattle.std.proofs.Common.{◌≡◌, ℕ, zero, suc, ◌+◌, ◌*◌, ◌/◌, ◌<◌, ◌&&◌, cond, eqb, Some, List, [], ◌∷◌, map, length, get_or, take, drop, refl, ap, ◌∙◌, arith}
use Rattle.std.specs.List.{find, list_all, range_with_len}
use Rattle.std.specs.Simd.{first_chunks}
use Rattle.std.proofs.lemmas.List.{drop-drop, get_or-drop, get_or-take}
use Rattle.orders.specs.declared.clauses.Clause.{Clause}
use Rattle.orders.specs.Assignments.{clause_at, clause_for, clause_lawful, clause_of, clauses, clauses_lawful}

-- a byte of a piece of six
byte_of_piece : (order : List ℕ) (p j q : ℕ) → j < 6 → p + j ≡ q → get_or (take 6 (drop p order)) j 0 ≡ get_or order q 0
byte_of_piece order p j q within there =
    get_or-take 6 (drop p order) j 0 within ∙ get_or-drop p order j 0 ∙ ap (λ k. get_or order k 0) there

clause_of_piece : (order : List ℕ) (i : ℕ) → clause_of (take 6 (drop (6 * i) order)) ≡ clause_at order i
clause_of_piece order i =
    simp (
      byte_of_piece order (6 * i) 0 (6 * i) (omega arith) (omega arith),
      byte_of_piece order (6 * i) 1 (6 * i + 1) (omega arith) (omega arith),
      byte_of_piece order (6 * i) 2 (6 * i + 2) (omega arith) (omega arith),
      byte_of_piece order (6 * i) 3 (6 * i + 2 + 1) (omega arith) (omega arith),
      byte_of_piece order (6 * i) 4 (6 * i + 2 + 2) (omega arith) (omega arith),
      byte_of_piece order (6 * i) 5 (6 * i + 2 + 3) (omega arith) (omega arith),
    )

pieces_from : (order : List ℕ) (i k : ℕ) → map clause_of (first_chunks 6 k (drop (6 * i) order)) ≡ map (clause_at order) (range_with_len i k)
pieces_from order i zero = refl
pieces_from order i (suc k) =
    let later : drop 6 (drop (6 * i) order) ≡ drop (6 * (i + 1)) order = drop-drop 6 (6 * i) order ∙ ap (λ p. drop p order) (omega arith) in
    ap (λ c. c ∷ map clause_of (first_chunks 6 k (drop 6 (drop (6 * i) order)))) (clause_of_piece order i)
    ∙ ap (λ rest. clause_at order i ∷ map clause_of (first_chunks 6 k rest)) later
    ∙ ap (λ cs. clause_at order i ∷ cs) (pieces_from order (i + 1) k)

pub clauses_by_piece : (order : List ℕ) → map clause_of (first_chunks 6 (length order / 6) order) ≡ clauses order
clauses_by_piece order = pieces_from order 0 (length order / 6)

pub found_as_clause_for : (position : ℕ) (cs : List Clause) → find (λ c. eqb c.target position) cs ≡ clause_for position cs
found_as_clause_for position [] = refl
found_as_clause_for position (c ∷ cs) = ap (λ found. cond (eqb c.target position) (Some c) found) (found_as_clause_for position cs)

pub lawful_as_all : (n : ℕ) (pieces : List (List ℕ)) → list_all (λ piece. clause_lawful n (clause_of piece)) pieces ≡ clauses_lawful n (map clause_of pieces)
lawful_as_all n [] = refl
lawful_as_all n (piece ∷ pieces) = ap (λ b. clause_lawful n (clause_of piece) && b) (lawful_as_all n pieces)
