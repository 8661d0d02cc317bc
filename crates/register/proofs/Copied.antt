-- A buffer whose front is filled with a copy's values, one more. Assumes nothing.
use Rattle.std.proofs.Common.{◌≡◌, ℕ, ◌+◌, ◌<◌, ◌≤◌, List, [], ◌∷◌, ◌++◌, length, get_or, take, drop, set, sym, ap, ◌∙◌, append_assoc, arith}
use Rattle.std.proofs.lemmas.List.{set_at, drop_more, take_all, length-map, length-take-le, map_more}
use Rattle.model.specs.Orders.{picked}

pub copied_more : (values list before now : List ℕ) (i value : ℕ)
    → i < length list → length list ≤ length before → now ≡ picked values (take i list) ++ drop i before → value ≡ get_or values (get_or list i 0) 0
    → set now i value ≡ picked values (take (i + 1) list) ++ drop (i + 1) before
copied_more values list before now i value within fits so_far read =
    let long : length (picked values (take i list)) ≡ i = length-map (take i list) (λ o. get_or values o 0) ∙ length-take-le i list (omega arith) in
    ap (λ xs. set xs i value) (so_far ∙ ap (λ xs. picked values (take i list) ++ xs) (drop_more before i 0 (omega arith)))
    ∙ set_at (picked values (take i list)) (get_or before i 0) (drop (i + 1) before) value i long
    ∙ ap (λ v. picked values (take i list) ++ (v ∷ drop (i + 1) before)) read
    ∙ sym (ap (λ xs. xs ++ drop (i + 1) before) (map_more (λ o. get_or values o 0) list i 0 within)
    ∙ append_assoc (picked values (take i list)) (get_or values (get_or list i 0) 0 ∷ []) (drop (i + 1) before))

pub copied_all : (values list before now : List ℕ) (i : ℕ)
    → i ≡ length list → now ≡ picked values (take i list) ++ drop i before → now ≡ picked values list ++ drop (length list) before
copied_all values list before now i whole so_far =
    so_far
    ∙ ap (λ xs. picked values xs ++ drop i before) (take_all i list (omega arith))
    ∙ ap (λ n. picked values list ++ drop n before) whole
