-- What holds of the header of a file that has one.
use Rattle.std.proofs.Common.{◌≡◌, ℕ, Bool, true, false, cond, List, Ok, Err, Result, refl, arith}
use Rattle.std.proofs.lemmas.Bool.Decides.{nat_tests}
use Rattle.runfile.specs.declared.faults.HeaderFault.{HeaderFault}
use Rattle.runfile.specs.declared.header.Header.{Header}
use Rattle.runfile.specs.HeaderFormat.{Sound, header_of}

pub sound_at_ok : (file : List ℕ) (h : Header) → Ok h ≡ header_of file → Sound file h
sound_at_ok file h e = record {
  some_machine = grind (arith, nat_tests);
  machines_bound = grind (arith, nat_tests);
  some_object = grind (arith, nat_tests);
  objects_bound = grind (arith, nat_tests);
  values_inside = grind (arith, nat_tests);
  length_bound = grind (arith, nat_tests);
  machines_are = grind (arith, nat_tests);
  objects_are = grind (arith, nat_tests);
  steps_are = grind (arith, nat_tests);
}

-- a check that is passed leaves the checks after it
pub passed : (b : Bool) (f : HeaderFault) (rest : Result Header HeaderFault) (h : Header) → cond b (Err f) rest ≡ Ok h → (b ≡ false) × (rest ≡ Ok h)
passed true f rest h e = cc
passed false f rest h e = (refl, e)
