-- The one-copy law: whatever calls are made, with any arguments and refusals anywhere, the machines together are one
-- copy. Assumes nothing.
use Rattle.std.specs.Prelude.{◌≡◌, ℕ, ◌<◌, ◌≤◌, true, List, ◌∷◌, ◌++◌, ◌≢◌, slice_index}
use Rattle.stores.specs.Rows.{StoreState, store_at}
use Rattle.orders.specs.Rulebooks.{Rules, RulebookLaws}
use Rattle.model.specs.declared.statuses.Standing.TheVariants.{Committed}
use Rattle.model.specs.declared.statuses.Status.TheVariants.{Applied, Dropped}
use Rattle.model.specs.Calls.{read}
use Rattle.model.specs.Docket.{Entry}
use Rattle.model.specs.Histories.{History, Run, docket_of, ledger_of, one_life}
use Rattle.model.specs.Opening.{opened, opening_number}
use Rattle.model.specs.Orders.{picked, listed, owed}
use Rattle.model.specs.Statuses.{is_holding}
use Rattle.model.specs.Steps.{Event}
use Rattle.model.specs.World.{World, machines, objects, copy, room}

-- the transaction is committed, and still holds its objects at machine s: its order is not carried out there yet
pub record Owing (e : Entry) (s : ℕ) : Type 0 where
  pub committed : e.standing ≡ Committed
  pub holding : is_holding (e.status s) ≡ true

pub record OneCopy (rules : Rules) (opening : List ℕ) (history : History) (w : World) : Type 0 where
  -- the register agrees with the docket that is reckoned from the calls
  pub agrees : w.docket ≡ docket_of history
  -- every accepted read, at whichever machine, gave the ledger's values of its moment, object by object
  pub reads : (later earlier : History) (event : Event) (s : ℕ) (list : List ℕ) (buffer : ℕ)
      → history ≡ later ++ (event ∷ earlier) → event.call ≡ read s list buffer → event.number ≡ 0
      → event.values ≡ picked (ledger_of rules opening earlier) list
  -- every copy has the ledger's value, unless a committed transaction holds the object there
  pub copies : (s o : ℕ) → s < machines w → o < objects w
      → ((t : ℕ) → Owing (docket_of history t) s → listed o (docket_of history t).objects ≢ true)
      → slice_index (copy w s) o ≡ slice_index (ledger_of rules opening history) o
  -- and then the ledger's values on that transaction's list are what its order makes of the copy's
  pub owing : (t s : ℕ) → s < machines w → Owing (docket_of history t) s
      → picked (ledger_of rules opening history) (docket_of history t).objects
      ≡ rules.news (docket_of history t).order (picked (copy w s) (docket_of history t).objects)
  -- in one life no transaction is applied at one machine and dropped at another, be it at different times
  pub atomic : (later middle earlier : History) (t s s' : ℕ)
      → history ≡ later ++ (middle ++ earlier) → one_life t middle ≡ true
      → (((docket_of (middle ++ earlier) t).status s ≡ Applied → (docket_of earlier t).status s' ≢ Dropped)
      × ((docket_of (middle ++ earlier) t).status s ≡ Dropped → (docket_of earlier t).status s' ≢ Applied))
  -- no write of a promised transaction ever finds a store full
  pub rooms : (s : ℕ) → s < machines w → owed rules (docket_of history) s ≤ room w s

-- a register that is well opened keeps one copy; one that is not refuses every call with the number of its opening
pub record Lawful (rules : Rules) (stores : List StoreState) (history : History) (w : World) : Type 0 where
  pub kept : opening_number stores ≡ 0 → OneCopy rules (store_at stores 0).values history w
  pub refused : (opening_number stores ≢ 0) → (later earlier : History) (event : Event)
      → history ≡ later ++ (event ∷ earlier) → event.number ≡ opening_number stores

-- for every rulebook of this meaning, any stores, and any calls
abbrev pub OneCopyLaw : Type 0
OneCopyLaw =
    (rules : Rules) → RulebookLaws rules.lawful rules.mask rules.news
    → (stores : List StoreState) (history : History) (w : World) → Run rules (opened stores) history w → Lawful rules stores history w
