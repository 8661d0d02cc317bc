-- What orders do to values, and what transactions hold and owe. Assumes nothing.
use Rattle.std.specs.Prelude.{ℕ, zero, suc, ◌+◌, Bool, false, cond, ◌&&◌, ◌||◌, List, [], ◌∷◌, map, length, ◌==◌, slice_index, slice_set}
use Rattle.orders.specs.Rulebooks.{Rules}
use Rattle.model.specs.Docket.{Entry, Docket}
use Rattle.model.specs.Statuses.{is_holding, is_promised}

-- the values at the listed objects
abbrev pub picked : List ℕ → List ℕ → List ℕ
picked values list = map (λ o. slice_index values o) list

-- the values with others at the listed objects
abbrev pub replaced : List ℕ → List ℕ → List ℕ → List ℕ
replaced values [] news = values
replaced values (o ∷ list) [] = values
replaced values (o ∷ list) (v ∷ news) = replaced (slice_set values o v) list news

-- the values after an order on a list: every new value is worked out from the old ones
abbrev pub renewed : Rules → List ℕ → List ℕ → List ℕ → List ℕ
renewed rules list order values = replaced values list (rules.news order (picked values list))

abbrev pub listed : ℕ → List ℕ → Bool
listed o [] = false
listed o (x ∷ xs) = o == x || listed o xs

-- the lists have an object in common
abbrev pub overlap : List ℕ → List ℕ → Bool
overlap [] ys = false
overlap (x ∷ xs) ys = listed x ys || overlap xs ys

-- some number below n passes the test
abbrev pub any_to : ℕ → (ℕ → Bool) → Bool
any_to zero test = false
any_to (suc n) test = test n || any_to n test

abbrev pub sum_to : ℕ → (ℕ → ℕ) → ℕ
sum_to zero f = 0
sum_to (suc n) f = f n + sum_to n f

-- transactions are numbered from 0 to 63
abbrev pub transactions : ℕ
transactions = 64

-- an object of the list is held at machine s
abbrev pub held : Docket → ℕ → List ℕ → Bool
held d s list = any_to transactions (λ t. is_holding ((d t).status s) && overlap (d t).objects list)

abbrev pub count_true : List Bool → ℕ
count_true [] = 0
count_true (b ∷ bs) = cond b 1 0 + count_true bs

-- how many positions the transaction writes
abbrev pub writes : Rules → Entry → ℕ
writes rules e = count_true (rules.mask e.order (length e.objects))

-- what a transaction owes at machine s: its writes, from its promise there until it is applied or dropped
abbrev pub owes : Rules → ℕ → Entry → ℕ
owes rules s e = cond (is_promised (e.status s)) (writes rules e) 0

-- the writes owed at machine s
abbrev pub owed : Rules → Docket → ℕ → ℕ
owed rules d s = sum_to transactions (λ t. owes rules s (d t))
