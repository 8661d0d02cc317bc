-- Ledger and docket, reckoned from what was called and accepted, and from nothing else. Assumes nothing.
use Rattle.std.specs.Prelude.{◌≡◌, ℕ, Bool, true, false, cond, not, ◌&&◌, List, [], ◌∷◌, ◌==◌}
use Rattle.orders.specs.Rulebooks.{Rules}
use Rattle.model.specs.Calls.{Call, start, issue, begin, promise, decline, commit, abort, apply, drop, clear, down, up, tidy, read}
use Rattle.model.specs.Docket.{Docket, blank}
use Rattle.model.specs.Orders.{renewed}
use Rattle.model.specs.Steps.{Event, Step, docket_after}
use Rattle.model.specs.World.{World}

-- what happened, the newest event first
abbrev pub History : Type 0
History = List Event

abbrev pub accepted : Event → Bool
accepted event = event.number == 0

-- the docket opens with every transaction absent; an accepted call changes it, a refused one leaves it
abbrev pub docket_of : History → Docket
docket_of [] = λ _. blank
docket_of (event ∷ history) = cond (accepted event) (docket_after event.call (docket_of history)) (docket_of history)

-- the list and the order of a transaction
abbrev pub Order : Type 0
Order = List ℕ × List ℕ

-- the list and the order of t after a call: those of a start of t, and else the earlier ones
abbrev pub start_of : ℕ → Call → Order → Order
start_of t (start u s list order) earlier = cond (u == t) (list, order) earlier
start_of t (issue u) earlier = earlier
start_of t (begin u s) earlier = earlier
start_of t (promise u s) earlier = earlier
start_of t (decline u s) earlier = earlier
start_of t (commit u) earlier = earlier
start_of t (abort u) earlier = earlier
start_of t (apply u s) earlier = earlier
start_of t (drop u s) earlier = earlier
start_of t (clear u) earlier = earlier
start_of t (down s) earlier = earlier
start_of t (up s) earlier = earlier
start_of t (tidy s) earlier = earlier
start_of t (read s list buffer) earlier = earlier

-- the list and the order of the last accepted start of t
abbrev pub last_start : ℕ → History → Order
last_start t [] = ([], [])
last_start t (event ∷ history) = cond (accepted event) (start_of t event.call (last_start t history)) (last_start t history)

-- the ledger after an accepted call: a commit of t carries out the order of t's last start, and nothing else changes it
abbrev pub ledger_after : Rules → Call → (ℕ → Order) → List ℕ → List ℕ
ledger_after rules (start t s list order) orders ledger = ledger
ledger_after rules (issue t) orders ledger = ledger
ledger_after rules (begin t s) orders ledger = ledger
ledger_after rules (promise t s) orders ledger = ledger
ledger_after rules (decline t s) orders ledger = ledger
ledger_after rules (commit t) orders ledger = renewed rules (orders t).0 (orders t).1 ledger
ledger_after rules (abort t) orders ledger = ledger
ledger_after rules (apply t s) orders ledger = ledger
ledger_after rules (drop t s) orders ledger = ledger
ledger_after rules (clear t) orders ledger = ledger
ledger_after rules (down s) orders ledger = ledger
ledger_after rules (up s) orders ledger = ledger
ledger_after rules (tidy s) orders ledger = ledger
ledger_after rules (read s list buffer) orders ledger = ledger

-- the ledger opens as the copies do
abbrev pub ledger_of : Rules → List ℕ → History → List ℕ
ledger_of rules opening [] = opening
ledger_of rules opening (event ∷ history) =
    cond (accepted event) (ledger_after rules event.call (λ t. last_start t history) (ledger_of rules opening history)) (ledger_of rules opening history)

-- the events lead from one world to the other
abbrev pub Run : Rules → World → History → World → Type 0
Run rules w [] w' = w' ≡ w
Run rules w (event ∷ history) w' = (v : World) × Run rules w history v × Step rules v event w'

-- no event is an accepted clearing of t
abbrev pub clears : ℕ → Call → Bool
clears t (start u s list order) = false
clears t (issue u) = false
clears t (begin u s) = false
clears t (promise u s) = false
clears t (decline u s) = false
clears t (commit u) = false
clears t (abort u) = false
clears t (apply u s) = false
clears t (drop u s) = false
clears t (clear u) = u == t
clears t (down s) = false
clears t (up s) = false
clears t (tidy s) = false
clears t (read s list buffer) = false

abbrev pub one_life : ℕ → History → Bool
one_life t [] = true
one_life t (event ∷ history) = not (accepted event && clears t event.call) && one_life t history
