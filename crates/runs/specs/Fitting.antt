-- Whether a row of stores is the one that a run file is for. Assumes nothing.
use Rattle.std.specs.Prelude.{ℕ, Bool, cond, not, List, length, Ok, Err, Result, ◌==◌}
use Rattle.stores.specs.Rows.{StoreState, place_count, store_at}
use Rattle.model.specs.Checks.{all_to}
use Rattle.runfile.specs.HeaderFormat.{header_of, fault}
use Rattle.runfile.specs.declared.faults.HeaderFault.{HeaderFault}
use Rattle.runfile.specs.declared.faults.HeaderFaultKind.TheVariants.{RowDiffers}
use Rattle.runfile.specs.declared.header.Header.{Header}

abbrev pub has_objects : List StoreState → ℕ → ℕ → Bool
has_objects stores objects s = length (store_at stores s).values == objects

-- the header of a file whose machine count and object count are the row's, or the first fault
abbrev pub row_header : List StoreState → Header → Result Header HeaderFault
row_header stores header =
    cond (not (place_count stores == header.machines)) (fault RowDiffers 0)
    (cond (not (all_to (place_count stores) (has_objects stores header.objects))) (fault RowDiffers 4)
    (Ok header))

abbrev pub fitting_header : List StoreState → List ℕ → Result Header HeaderFault
fitting_header stores file = elim (header_of file) [ Err f ↦ Err f | Ok header ↦ row_header stores header ]
