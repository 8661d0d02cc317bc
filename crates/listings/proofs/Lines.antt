-- The lines of outcomes, appended one after another. Assumes nothing.
use Rattle.std.proofs.Common.{◌≡◌, ℕ, ◌+◌, ◌<◌, ◌≤◌, List, ◌++◌, length, get_or, drop, sym, ap, ◌∙◌, append_assoc, append-nil}
use Rattle.std.proofs.lemmas.List.{at_drop_more, at_drop_all}
use Rattle.register.specs.declared.outcomes.Outcome.{Outcome}
use Rattle.listings.specs.Text.{line, lines_from}

-- `was` is the text before the line of step i, and `now` the text after it
pub line_more : (was now whole : List ℕ) (outcomes : List Outcome) (i : ℕ) (outcome : Outcome) → i < length outcomes → outcome ≡ get_or outcomes i outcome → now ≡ was ++ line i outcome → was ++ lines_from i (drop i outcomes) ≡ whole → now ++ lines_from (i + 1) (drop (i + 1) outcomes) ≡ whole
line_more was now whole outcomes i outcome below there appended before =
    let rest : List ℕ = lines_from (i + 1) (drop (i + 1) outcomes) in
    let split : lines_from i (drop i outcomes) ≡ line i outcome ++ rest = at_drop_more (lines_from i) outcomes i outcome below ∙ ap (λ (o : Outcome). line i o ++ rest) (sym there) in
    ap (λ (l : List ℕ). l ++ rest) appended ∙ append_assoc was (line i outcome) rest ∙ ap (λ (l : List ℕ). was ++ l) (sym split) ∙ before

pub lines_all : (was whole : List ℕ) (outcomes : List Outcome) (i : ℕ) → length outcomes ≤ i → was ++ lines_from i (drop i outcomes) ≡ whole → was ≡ whole
lines_all was whole outcomes i past before =
    sym (append-nil was) ∙ ap (λ (l : List ℕ). was ++ l) (sym (at_drop_all (lines_from i) outcomes i past)) ∙ before
