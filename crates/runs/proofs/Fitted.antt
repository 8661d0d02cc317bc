-- What is known of a row that fits a file. Assumes nothing.
use Rattle.std.proofs.Common.{◌≡◌, ℕ, ◌<◌, true, List, length, Ok, arith}
use Rattle.std.proofs.lemmas.Bool.Decides.{nat_tests}
use Rattle.stores.specs.Rows.{StoreState, place_count, store_at}
use Rattle.model.specs.Checks.{all_to}
use Rattle.model.proofs.Counts.{all_to_each}
use Rattle.runfile.specs.HeaderFormat.{header_of}
use Rattle.runfile.specs.declared.header.Header.{Header}
use Rattle.runs.specs.Fitting.{has_objects, fitting_header}

pub record Fit (stores : List StoreState) (file : List ℕ) (header : Header) : Type 0 where
  pub reading : Ok header ≡ header_of file
  pub machines : place_count stores ≡ header.machines
  pub objects : (s : ℕ) → s < place_count stores → length (store_at stores s).values ≡ header.objects

pub fits : (stores : List StoreState) (file : List ℕ) (header : Header) → fitting_header stores file ≡ Ok header → Fit stores file header
fits stores file header e =
    let each : all_to (place_count stores) (has_objects stores header.objects) ≡ true = grind (arith, nat_tests) in
    record {
      reading = grind (arith, nat_tests);
      machines = grind (arith, nat_tests);
      objects = λ s within. grind (arith, nat_tests, all_to_each (place_count stores) (has_objects stores header.objects) each s within);
    }
