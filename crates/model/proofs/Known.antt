-- What a passed check of a standing or of a status tells, and what coming up keeps. Assumes nothing.
use Rattle.std.proofs.Common.{◌≡◌, true, false, not, ◌⊎◌, arith}
use Rattle.model.specs.declared.statuses.Standing.{Standing}
use Rattle.model.specs.declared.statuses.Standing.TheVariants.{Absent, Pending as Undecided, Committed, Aborted}
use Rattle.model.specs.declared.statuses.Status.{Status}
use Rattle.model.specs.declared.statuses.Status.TheVariants.{None, Pending, Promised, Applied}
use Rattle.model.specs.Statuses.{is_absent, is_undecided, is_committed, is_aborted, is_none, is_pending, is_promised, is_holding, after_up}

pub absent_known : (x : Standing) → not (is_absent x) ≡ false → x ≡ Absent
absent_known x e = grind arith

pub undecided_known : (x : Standing) → not (is_undecided x) ≡ false → x ≡ Undecided
undecided_known x e = grind arith

pub committed_known : (x : Standing) → not (is_committed x) ≡ false → x ≡ Committed
committed_known x e = grind arith

pub aborted_known : (x : Standing) → not (is_aborted x) ≡ false → x ≡ Aborted
aborted_known x e = grind arith

pub none_known : (x : Status) → not (is_none x) ≡ false → x ≡ None
none_known x e = grind arith

pub pending_known : (x : Status) → not (is_pending x) ≡ false → x ≡ Pending
pending_known x e = grind arith

pub promised_known : (x : Status) → not (is_promised x) ≡ false → x ≡ Promised
promised_known x e = grind arith

pub holding_known : (x : Status) → not (is_holding x) ≡ false → (x ≡ Pending) ⊎ (x ≡ Promised)
holding_known x e = grind arith

-- what comes up was not applied before it came up
pub applied_before_up : (x : Status) → after_up x ≡ Applied → x ≡ Applied
applied_before_up x e = grind arith

pub holding_before_up : (x : Status) → is_holding (after_up x) ≡ true → is_holding x ≡ true
holding_before_up x e = grind arith

pub promised_over_up : (x : Status) → is_promised (after_up x) ≡ is_promised x
promised_over_up x = grind arith
