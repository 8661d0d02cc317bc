-- What a short list in a fixed array means. Assumes nothing.
use Rattle.std.specs.Prelude.{ℕ, List, take}
use Rattle.orders.specs.declared.fixed.FixedVec.{FixedVec}

abbrev pub fixed_items : {T : Type 0} {N : ℕ} → FixedVec T N → List T
fixed_items v = take v.count v.items
