-- Transfer orders: six bytes, which move an amount from a giver to a taker. Assumes nothing.
use Rattle.std.specs.Prelude.{◌≡◌, ℕ, ◌+◌, ◌-◌, min, Bool, false, cond, not, ◌&&◌, ◌||◌, List, map, length, Some, None, Option, ◌==◌, nat_lt, slice_index, slice_index_or}
use Rattle.std.specs.List.{range_with_len}
use Rattle.orders.specs.declared.movement.Movement.{Movement}
use Rattle.orders.specs.Bytes.{number_at}
use Rattle.orders.specs.Rulebooks.{Rules}

-- an order of another length asks for no movement
abbrev pub movement_of : List ℕ → Option Movement
movement_of order =
    cond (length order == 6)
    (Some (record { giver = slice_index order 0; taker = slice_index order 1; amount = number_at order 2 }))
    None

abbrev pub movement_lawful : (n : ℕ) → Option Movement → Bool
movement_lawful n None = false
movement_lawful n (Some m) = nat_lt m.giver n && nat_lt m.taker n && not (m.giver == m.taker)

-- giver and taker are written, also where nothing is moved
abbrev pub movement_writes : (position : ℕ) → Option Movement → Bool
movement_writes position None = false
movement_writes position (Some m) = position == m.giver || position == m.taker

-- no more than is asked for, than the giver has, and than the taker can hold
abbrev pub moved : List ℕ → Movement → ℕ
moved olds m = min m.amount (min (slice_index olds m.giver) (4294967295 - slice_index olds m.taker))

abbrev pub value_moved : List ℕ → (position : ℕ) → Option Movement → ℕ
value_moved olds position None = slice_index olds position
value_moved olds position (Some m) =
    cond (position == m.giver) (slice_index olds position - moved olds m)
    (cond (position == m.taker) (slice_index olds position + moved olds m) (slice_index olds position))

abbrev pub transfer_lawful : List ℕ → ℕ → Bool
transfer_lawful order n = movement_lawful n (movement_of order)

abbrev pub transfer_mask : List ℕ → ℕ → List Bool
transfer_mask order n = map (λ position. movement_writes position (movement_of order)) (range_with_len 0 n)

abbrev pub transfer_news : List ℕ → List ℕ → List ℕ
transfer_news order olds = map (λ position. value_moved olds position (movement_of order)) (range_with_len 0 (length olds))

abbrev pub transfer_rules : Rules
transfer_rules = record { lawful = transfer_lawful; mask = transfer_mask; news = transfer_news }

-- the movement found settles whether the order is lawful, which positions are written, and the new values
pub record MovementSettles (order : List ℕ) (found : Option Movement) : Type 0 where
  pub stands : (n : ℕ) → transfer_lawful order n ≡ movement_lawful n found
  pub written : (n position : ℕ) → slice_index_or (transfer_mask order n) position false ≡ cond (nat_lt position n) (movement_writes position found) false
  pub becomes : (olds : List ℕ) (position : ℕ) → slice_index (transfer_news order olds) position ≡ cond (nat_lt position (length olds)) (value_moved olds position found) 0
