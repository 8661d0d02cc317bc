-- A walk over the steps of a file: what one step adds to the calls and to the end, and that it moves on inside the file.
-- Each equation on a reading or a header is as the readers promise it, with their answer on the left.
use Rattle.std.proofs.Common.{◌≡◌, ℕ, suc, ◌+◌, ◌-◌, ◌<◌, Bool, true, false, cond, ltb, List, [], ◌∷◌, length, get_or, Some, None, Ok, Option, sym, refl, arith}
use Rattle.std.proofs.lemmas.Bool.Decides.{nat_tests}
use Rattle.model.specs.Calls.{Call}
use Rattle.runfile.specs.declared.faults.FieldFaultKind.{FieldFaultKind}
use Rattle.runfile.specs.declared.faults.FieldFaultKind.TheVariants.{CutShort, UnknownTag, UnusedNotZero}
use Rattle.runfile.specs.declared.faults.StepFault.{StepFault}
use Rattle.runfile.specs.declared.faults.RunFault.TheVariants.{Step}
use Rattle.runfile.specs.declared.header.Header.{Header as FileHeader}
use Rattle.runfile.specs.declared.tags.Tag.{Tag}
use Rattle.runfile.specs.Tags.{tag_of, named_by}
use Rattle.runfile.specs.HeaderFormat.{header_of, value_place}
use Rattle.runfile.specs.StepFormat.{broken, found, step_at, tagged_at, first_unused, step_end, call_at, Within}
use Rattle.runfile.specs.FileFormat.{calls_from, end_from, calls_of, end_of}

-- a step that is found is none of the broken ones before it in the order of the checks
whole : (o : Option ℕ) (short : Bool) (place end : ℕ) (c call : Call) (next : ℕ) →
    elim o [ Some b ↦ broken UnusedNotZero b | None ↦ cond short (broken CutShort place) (found c end) ] ≡ found call next →
    (short ≡ false) × (end ≡ next)
whole (Some b) short place end c call next e = let z : ◌≡◌ {A = ℕ} 0 1 = cc in absurd (omega arith)
whole None true place end c call next e = let z : ◌≡◌ {A = ℕ} 0 1 = cc in absurd (omega arith)
whole None false place end c call next e = (refl, cc)

tagged_within : (tag : Tag) (file : List ℕ) (place : ℕ) (call : Call) (next : ℕ) →
    tagged_at tag file place ≡ found call next → Within file place next
tagged_within tag file place call next e =
    let w = whole (first_unused (named_by tag) file place) (ltb (length file) (step_end file place)) place (step_end file place) (call_at tag file place) call next e in
    let p : ltb (length file) (step_end file place) ≡ false = w.0 in
    let q : step_end file place ≡ next = w.1 in
    record { forward = omega arith; inside = grind (arith, nat_tests) }

headed : (short : Bool) (o : Option Tag) (file : List ℕ) (place : ℕ) (call : Call) (next : ℕ) →
    cond short (broken CutShort place) (elim o [ None ↦ broken UnknownTag place | Some tag ↦ tagged_at tag file place ]) ≡ found call next →
    Within file place next
headed true o file place call next e = let z : ◌≡◌ {A = ℕ} 0 1 = cc in absurd (omega arith)
headed false None file place call next e = let z : ◌≡◌ {A = ℕ} 0 1 = cc in absurd (omega arith)
headed false (Some tag) file place call next e = tagged_within tag file place call next e

-- a step that is found is longer than its head, and lies in the file
pub found_within : (file : List ℕ) (place : ℕ) (call : Call) (next : ℕ) → found call next ≡ step_at file place → Within file place next
found_within file place call next e =
    headed (ltb (length file) (place + 5)) (tag_of (get_or file place 0)) file place call next (sym e)

-- at the place of a step that is found, with n - i steps left
pub calls_found : (n i : ℕ) (file : List ℕ) (place : ℕ) (call : Call) (next : ℕ) →
    i < n →
    found call next ≡ step_at file place →
    calls_from (n - i) file place ≡ call ∷ calls_from (n - (i + 1)) file next
calls_found n i file place call next h e = let one : n - i ≡ suc (n - (i + 1)) = omega arith in rw (one, ← e, calls_from)

pub end_found : (n i : ℕ) (file : List ℕ) (place index : ℕ) (call : Call) (next : ℕ) →
    i < n →
    found call next ≡ step_at file place →
    end_from (n - i) file place index ≡ end_from (n - (i + 1)) file next (index + 1)
end_found n i file place index call next h e = let one : n - i ≡ suc (n - (i + 1)) = omega arith in rw (one, ← e, end_from)

-- at the place of a step that is broken
pub calls_broken : (n i : ℕ) (file : List ℕ) (place : ℕ) (kind : FieldFaultKind) (b : ℕ) →
    i < n →
    broken kind b ≡ step_at file place →
    calls_from (n - i) file place ≡ []
calls_broken n i file place kind b h e = let one : n - i ≡ suc (n - (i + 1)) = omega arith in rw (one, ← e, calls_from)

pub end_broken : (n i : ℕ) (file : List ℕ) (place index : ℕ) (kind : FieldFaultKind) (b : ℕ) →
    i < n →
    broken kind b ≡ step_at file place →
    end_from (n - i) file place index ≡ Some (Step (record { field = record { kind = kind; byte = b; step = index } }))
end_broken n i file place index kind b h e = let one : n - i ≡ suc (n - (i + 1)) = omega arith in rw (one, ← e, end_from)

-- the same of the fault that the reader gives
pub end_refused : (n i : ℕ) (file : List ℕ) (place index : ℕ) (fault : StepFault) →
    i < n →
    broken fault.field.kind fault.field.byte ≡ step_at file place →
    fault.field.step ≡ index →
    end_from (n - i) file place index ≡ Some (Step fault)
end_refused n i file place index fault h e same = rw (← same) (end_broken n i file place fault.field.step fault.field.kind fault.field.byte h e)

-- where the header is sound
pub calls_at_ok : (file : List ℕ) (header : FileHeader) → Ok header ≡ header_of file →
    calls_of file ≡ calls_from header.steps file (value_place header.objects)
calls_at_ok file header e = rw (← e, calls_of)

pub end_at_ok : (file : List ℕ) (header : FileHeader) → Ok header ≡ header_of file →
    end_of file ≡ end_from header.steps file (value_place header.objects) 0
end_at_ok file header e = rw (← e, end_of)
