-- The room of a machine covers the writes owed there. Assumes nothing.
use Rattle.std.proofs.Common.{◌≡◌, ℕ, ◌+◌, ◌<◌, ◌≤◌, cond, ◌≢◌, ◌⊎◌, sym, ap, ◌∙◌, inl, inr, arith}
use Rattle.orders.specs.Rulebooks.{Rules}
use Rattle.model.specs.declared.statuses.Standing.{Standing}
use Rattle.model.specs.declared.statuses.Status.{Status}
use Rattle.model.specs.Docket.{Entry, Docket, at, moved, raised}
use Rattle.model.specs.Orders.{owes, owed, writes, transactions}
use Rattle.model.specs.Statuses.{is_promised, after_up}
use Rattle.model.proofs.Changes.{at_same, at_other, at_cases}
use Rattle.model.proofs.Counts.{sum_change, sum_same}
use Rattle.model.proofs.Known.{promised_over_up}

-- what an entry owes at machine k after a change of its status at s
pub owes_moved_here : (rules : Rules) (e : Entry) (y : Standing) (s : ℕ) (x : Status) → owes rules s (moved e y s x) ≡ cond (is_promised x) (writes rules e) 0
owes_moved_here rules e y s x = ap (λ st. cond (is_promised st) (writes rules e) 0) (at_same e.status s x)

pub owes_moved_other : (rules : Rules) (e : Entry) (y : Standing) (s : ℕ) (x : Status) (k : ℕ) → k ≢ s → owes rules k (moved e y s x) ≡ owes rules k e
owes_moved_other rules e y s x k other = ap (λ st. cond (is_promised st) (writes rules e) 0) (at_other e.status s x k other)

-- one entry more, one less
pub owed_at : (rules : Rules) (d : Docket) (t : ℕ) (e : Entry) (s : ℕ) → t < transactions → owed rules (at d t e) s + owes rules s (d t) ≡ owed rules d s + owes rules s e
owed_at rules d t e s below =
    sum_change transactions t (λ k. owes rules s (at d t e k)) (λ k. owes rules s (d k)) below (λ k other. ap (owes rules s) (at_other d t e k other))
    ∙ ap (λ n. owed rules d s + n) (ap (owes rules s) (at_same d t e))

-- the room covers what is owed, if the new entry owes no more than the old one and the fall of the room, or was checked
pub covered_at : (rules : Rules) (d : Docket) (t : ℕ) (e : Entry) (s room room' : ℕ) → t < transactions → owed rules d s ≤ room
    → (owes rules s e + room ≤ owes rules s (d t) + room') ⊎ (owed rules d s + owes rules s e ≤ room')
    → owed rules (at d t e) s ≤ room'
covered_at rules d t e s room room' below covered (inl falls) = omega (arith, owed_at rules d t e s below)
covered_at rules d t e s room room' below covered (inr checked) = omega (arith, owed_at rules d t e s below)

pub owed_raised : (rules : Rules) (d : Docket) (u s : ℕ) → owed rules (raised d u) s ≡ owed rules d s
owed_raised rules d u s = sum_same transactions (λ t. owes rules s (raised d u t)) (λ t. owes rules s (d t)) (λ t below. same t)
  where
    same : (t : ℕ) → owes rules s (raised d u t) ≡ owes rules s (d t)
    same t = elim (at_cases (d t).status u (after_up ((d t).status u)) s) [
      | inl here ↦ ap (λ b. cond b (writes rules (d t)) 0) (ap is_promised here.1 ∙ promised_over_up ((d t).status u) ∙ ap (λ k. is_promised ((d t).status k)) (sym here.0))
      | inr there ↦ ap (λ st. cond (is_promised st) (writes rules (d t)) 0) there.1
    ]
