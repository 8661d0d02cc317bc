-- Worked examples, each with what it must come to. Assumes nothing.
use Rattle.std.specs.Prelude.{◌≡◌, ℕ, List, [], ◌∷◌, map, replicate}
use Rattle.stores.specs.Rows.{StoreState}
use Rattle.orders.specs.Assignments.{assignment_rules}
use Rattle.orders.specs.Rulebooks.{Rules}
use Rattle.orders.specs.Transfers.{transfer_rules}
use Rattle.model.specs.Calls.{Call, start, issue, begin, promise, commit, apply, clear, read}
use Rattle.model.specs.Opening.{opened}
use Rattle.model.specs.Playing.{played}

-- a table store with these values
abbrev pub holding : List ℕ → StoreState
holding values = record { values = values; room = 1024; floor = 1024 }

-- as many machines as are counted, each with these values
abbrev pub over : Rules → ℕ → List ℕ → List Call → List (List ℕ)
over rules machines values calls = played rules (opened (replicate machines (holding values))) calls

-- what was played, and what it must come to: for each call its answer number and then its values
abbrev pub Example : Type 0
Example = List (List ℕ) × List (List ℕ)

-- orders of the assignment rulebook: the position takes 10 more, 9 more; both clauses have position 1 for a target
abbrev pub ten_more : ℕ → List ℕ
ten_more position = position ∷ 3 ∷ 10 ∷ 0 ∷ 0 ∷ 0 ∷ []

abbrev pub nine_more : ℕ → List ℕ
nine_more position = position ∷ 3 ∷ 9 ∷ 0 ∷ 0 ∷ 0 ∷ []

abbrev pub one_target_twice : List ℕ
one_target_twice = 1 ∷ 1 ∷ 7 ∷ 0 ∷ 0 ∷ 0 ∷ 1 ∷ 3 ∷ 10 ∷ 0 ∷ 0 ∷ 0 ∷ []

-- orders of the transfer rulebook: 10 from position 0 to position 1, and to itself
abbrev pub ten_over : List ℕ
ten_over = 0 ∷ 1 ∷ 10 ∷ 0 ∷ 0 ∷ 0 ∷ []

abbrev pub ten_to_itself : List ℕ
ten_to_itself = 0 ∷ 0 ∷ 10 ∷ 0 ∷ 0 ∷ 0 ∷ []

-- the transaction of the example over two machines
abbrev pub change : ℕ
change = 4

-- a change at two machines: a reader sees the old values, is told that they are held, or sees the new ones
abbrev pub two_machines : Example
two_machines = (
  over assignment_rules 2 (5 ∷ 7 ∷ 9 ∷ []) (
      start change 0 (0 ∷ 2 ∷ []) (ten_more 1) ∷ issue change ∷ read 1 (0 ∷ 2 ∷ []) 8 ∷ read 0 (2 ∷ []) 8 ∷ begin change 1 ∷ promise change 1
      ∷ commit change ∷ read 0 (2 ∷ []) 8 ∷ read 1 (2 ∷ []) 8 ∷ apply change 1 ∷ read 1 (0 ∷ 2 ∷ []) 8 ∷ clear change ∷ []),
  (0 ∷ []) ∷ (0 ∷ []) ∷ (0 ∷ 5 ∷ 9 ∷ []) ∷ (8 ∷ []) ∷ (0 ∷ []) ∷ (0 ∷ [])
      ∷ (0 ∷ []) ∷ (0 ∷ 19 ∷ []) ∷ (8 ∷ []) ∷ (0 ∷ []) ∷ (0 ∷ 5 ∷ 19 ∷ []) ∷ (0 ∷ []) ∷ [],
)

-- one machine alone starts, issues and commits
abbrev pub alone : Rules → List ℕ → List ℕ → List ℕ → List (List ℕ)
alone rules values list order = over rules 1 values (start 0 0 list order ∷ issue 0 ∷ commit 0 ∷ read 0 list 8 ∷ [])

abbrev pub all_accepted : List ℕ → List (List ℕ)
all_accepted values = (0 ∷ []) ∷ (0 ∷ []) ∷ (0 ∷ []) ∷ (0 ∷ values) ∷ []

-- a sum is at most 999,999,999
abbrev pub sum_reaches_the_cap : Example
sum_reaches_the_cap = (alone assignment_rules (999999990 ∷ []) (0 ∷ []) (nine_more 0), all_accepted (999999999 ∷ []))

abbrev pub sum_stops_at_the_cap : Example
sum_stops_at_the_cap = (alone assignment_rules (999999990 ∷ []) (0 ∷ []) (ten_more 0), all_accepted (999999999 ∷ []))

-- a transfer moves no more than the taker can hold
abbrev pub taker_is_filled : Example
taker_is_filled = (alone transfer_rules (9 ∷ 4294967290 ∷ []) (0 ∷ 1 ∷ []) ten_over, all_accepted (4 ∷ 4294967295 ∷ []))

abbrev pub targets_must_differ : Example
targets_must_differ = (over assignment_rules 1 (5 ∷ 7 ∷ []) (start 0 0 (0 ∷ 1 ∷ []) one_target_twice ∷ []), (5 ∷ []) ∷ [])

abbrev pub giver_is_not_taker : Example
giver_is_not_taker = (over transfer_rules 1 (5 ∷ 7 ∷ []) (start 0 0 (0 ∷ 1 ∷ []) ten_to_itself ∷ []), (5 ∷ []) ∷ [])

-- over three objects an object that is not there is told before the order of the list
abbrev pub list_faults_in_order : Example
list_faults_in_order = (over assignment_rules 1 (5 ∷ 7 ∷ 9 ∷ []) (read 0 (2 ∷ 1 ∷ 3 ∷ []) 8 ∷ read 0 (2 ∷ 1 ∷ []) 8 ∷ []), (3 ∷ []) ∷ (4 ∷ []) ∷ [])

abbrev pub nine_values : List ℕ
nine_values = 10 ∷ 11 ∷ 12 ∷ 13 ∷ 14 ∷ 15 ∷ 16 ∷ 17 ∷ 18 ∷ []

abbrev pub eight_objects : List ℕ
eight_objects = 0 ∷ 1 ∷ 2 ∷ 3 ∷ 4 ∷ 5 ∷ 6 ∷ 7 ∷ []

abbrev pub nine_objects : List ℕ
nine_objects = 0 ∷ 1 ∷ 2 ∷ 3 ∷ 4 ∷ 5 ∷ 6 ∷ 7 ∷ 8 ∷ []

abbrev pub list_lengths : Example
list_lengths = (
  over assignment_rules 1 nine_values (read 0 [] 8 ∷ read 0 nine_objects 9 ∷ read 0 eight_objects 8 ∷ start 0 0 eight_objects (ten_more 7) ∷ []),
  (2 ∷ []) ∷ (2 ∷ []) ∷ (0 ∷ 10 ∷ 11 ∷ 12 ∷ 13 ∷ 14 ∷ 15 ∷ 16 ∷ 17 ∷ []) ∷ (0 ∷ []) ∷ [],
)

abbrev pub one_machine_commits : Example
one_machine_commits = (alone assignment_rules (5 ∷ []) (0 ∷ []) (ten_more 0), all_accepted (15 ∷ []))

abbrev pub commit_needs_every_promise : Example
commit_needs_every_promise = (
  over assignment_rules 2 (5 ∷ []) (start 0 0 (0 ∷ []) (ten_more 0) ∷ issue 0 ∷ commit 0 ∷ []),
  (0 ∷ []) ∷ (0 ∷ []) ∷ (14 ∷ []) ∷ [],
)

abbrev pub table : List Example
table =
    two_machines ∷ sum_reaches_the_cap ∷ sum_stops_at_the_cap ∷ taker_is_filled ∷ targets_must_differ ∷ giver_is_not_taker
    ∷ list_faults_in_order ∷ list_lengths ∷ one_machine_commits ∷ commit_needs_every_promise ∷ []

abbrev pub ExamplesHold : Type 0
ExamplesHold = map (λ example. example.0) table ≡ map (λ example. example.1) table
