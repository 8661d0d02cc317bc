-- The front of a buffer that a read has filled. Assumes nothing.
use Rattle.std.proofs.Common.{◌≡◌, ℕ, ◌≤◌, min, List, ◌++◌, length, get_or, take, drop, ap, ◌∙◌, arith}
use Rattle.std.proofs.lemmas.List.{take_at, length-map}
use Rattle.model.specs.Orders.{picked}

pub front_read : (values list before after : List ℕ) → length list ≤ 8 → after ≡ picked values list ++ drop (length list) before → take (min (length list) 8) after ≡ picked values list
front_read values list before after few filled =
    let whole : length (picked values list) ≡ min (length list) 8 = length-map list (λ o. get_or values o 0) ∙ omega arith in
    ap (take (min (length list) 8)) filled ∙ take_at (picked values list) (drop (length list) before) (min (length list) 8) whole
