-- What single orders do, by computing. Assumes nothing.
use Rattle.std.proofs.Common.{◌≡◌, true, false, [], ◌∷◌, refl}
use Rattle.orders.specs.Assignments.{assignment_rules}
use Rattle.orders.specs.Transfers.{transfer_rules}

-- 999,999,990 and 9 more, or 10 more: both are 999,999,999
pub adds_up_to_the_largest : assignment_rules.news (0 ∷ 3 ∷ 9 ∷ 0 ∷ 0 ∷ 0 ∷ []) (999999990 ∷ []) ≡ 999999999 ∷ []
adds_up_to_the_largest = refl

pub adds_no_further : assignment_rules.news (0 ∷ 3 ∷ 10 ∷ 0 ∷ 0 ∷ 0 ∷ []) (999999990 ∷ []) ≡ 999999999 ∷ []
adds_no_further = refl

-- so does an old value above it, without wrapping
pub adds_down_to_the_largest : assignment_rules.news (0 ∷ 3 ∷ 1 ∷ 0 ∷ 0 ∷ 0 ∷ []) (4294967295 ∷ []) ≡ 999999999 ∷ []
adds_down_to_the_largest = refl

-- the taker, at 4,294,967,290, can hold 5 of the 9
pub taker_takes_what_it_can_hold : transfer_rules.news (0 ∷ 1 ∷ 10 ∷ 0 ∷ 0 ∷ 0 ∷ []) (9 ∷ 4294967290 ∷ []) ≡ 4 ∷ 4294967295 ∷ []
taker_takes_what_it_can_hold = refl

pub two_clauses_for_one_target : assignment_rules.lawful (0 ∷ 1 ∷ 5 ∷ 0 ∷ 0 ∷ 0 ∷ 0 ∷ 1 ∷ 6 ∷ 0 ∷ 0 ∷ 0 ∷ []) 2 ≡ false
two_clauses_for_one_target = refl

pub giver_is_taker : transfer_rules.lawful (1 ∷ 1 ∷ 10 ∷ 0 ∷ 0 ∷ 0 ∷ []) 2 ≡ false
giver_is_taker = refl

pub transfer_of_nothing_writes_both : transfer_rules.mask (2 ∷ 0 ∷ 0 ∷ 0 ∷ 0 ∷ 0 ∷ []) 3 ≡ true ∷ false ∷ true ∷ []
transfer_of_nothing_writes_both = refl

-- one clause: to position 1 add 10
pub one_clause_is_lawful : assignment_rules.lawful (1 ∷ 3 ∷ 10 ∷ 0 ∷ 0 ∷ 0 ∷ []) 2 ≡ true
one_clause_is_lawful = refl

pub one_clause_writes_its_target : assignment_rules.mask (1 ∷ 3 ∷ 10 ∷ 0 ∷ 0 ∷ 0 ∷ []) 2 ≡ false ∷ true ∷ []
one_clause_writes_its_target = refl

pub one_clause_adds : assignment_rules.news (1 ∷ 3 ∷ 10 ∷ 0 ∷ 0 ∷ 0 ∷ []) (5 ∷ 9 ∷ []) ≡ 5 ∷ 19 ∷ []
one_clause_adds = refl

-- each of two clauses copies what stood at the other's target
pub two_clauses_swap : assignment_rules.news (0 ∷ 2 ∷ 1 ∷ 0 ∷ 0 ∷ 0 ∷ 1 ∷ 2 ∷ 0 ∷ 0 ∷ 0 ∷ 0 ∷ []) (3 ∷ 4 ∷ []) ≡ 4 ∷ 3 ∷ []
two_clauses_swap = refl
