-- The numbers of the faults, and what a fault of the run tells: its number, its byte and its step. Assumes nothing.
use Rattle.std.specs.Prelude.{ℕ, Some, None, Option}
use Rattle.runfile.specs.declared.faults.HeaderFaultKind.{HeaderFaultKind}
use Rattle.runfile.specs.declared.faults.HeaderFaultKind.TheVariants.{TooShort, WrongLength, ValuesPastEnd, CountOutOfRange, RowDiffers}
use Rattle.runfile.specs.declared.faults.FieldFaultKind.{FieldFaultKind}
use Rattle.runfile.specs.declared.faults.FieldFaultKind.TheVariants.{CutShort, UnknownTag, UnusedNotZero}
use Rattle.runfile.specs.declared.faults.RunFault.{RunFault}
use Rattle.runfile.specs.declared.faults.RunFault.TheVariants.{Header, Step}

abbrev pub header_number : HeaderFaultKind → ℕ
header_number TooShort = 30
header_number WrongLength = 31
header_number ValuesPastEnd = 32
header_number CountOutOfRange = 36
header_number RowDiffers = 37

abbrev pub field_number : FieldFaultKind → ℕ
field_number CutShort = 33
field_number UnknownTag = 34
field_number UnusedNotZero = 35

abbrev pub run_number : RunFault → ℕ
run_number (Header f) = header_number f.kind
run_number (Step f) = field_number f.field.kind

abbrev pub run_byte : RunFault → ℕ
run_byte (Header f) = f.byte
run_byte (Step f) = f.field.byte

-- a fault of the header belongs to no step
abbrev pub run_step : RunFault → Option ℕ
run_step (Header f) = None
run_step (Step f) = Some f.field.step
