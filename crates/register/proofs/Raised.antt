-- Where no transaction is in use, a machine that comes up drops nothing. Assumes nothing.
use Rattle.std.proofs.Common.{◌≡◌, ℕ, Bool, true, false, cond, eqb, [], refl, ap}
use mathlib.Core.Path.{fun_ext}
use Rattle.model.specs.declared.statuses.Standing.TheVariants.{Absent}
use Rattle.model.specs.declared.statuses.Status.{Status}
use Rattle.model.specs.declared.statuses.Status.TheVariants.{None}
use Rattle.model.specs.Docket.{Entry, blank, raised}

none_twice : (b : Bool) → cond b None None ≡ None
none_twice true = refl
none_twice false = refl

abbrev with : (ℕ → Status) → Entry
with status = record { standing = Absent; coordinator = 0; objects = []; order = []; status = status }

pub blank_raised : (s : ℕ) → raised (λ _. blank) s ≡ (λ _. blank)
blank_raised s = fun_ext (λ t. ap with (fun_ext (λ j. none_twice (eqb j s))))
