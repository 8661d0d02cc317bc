-- What came of a run file. Assumes nothing.
use Rattle.std.specs.Prelude.{◌≡◌, ℕ, List, [], ◌∷◌, reverse, length, Some, Ok, Err, Option, Result}
use Rattle.stores.specs.Rows.{StoreState}
use Rattle.model.specs.Calls.{Call}
use Rattle.model.specs.Histories.{History, Run}
use Rattle.model.specs.OneCopy.{OneCopy}
use Rattle.model.specs.Opening.{opened}
use Rattle.model.specs.Steps.{Event}
use Rattle.model.specs.World.{World}
use Rattle.register.specs.declared.outcomes.Outcome.{Outcome}
use Rattle.register.specs.Meaning.{no_orders}
use Rattle.register.specs.Outcomes.{event_of}
use Rattle.runfile.specs.FileFormat.{calls_of, end_of}
use Rattle.runfile.specs.HeaderFormat.{opening_values}
use Rattle.runfile.specs.declared.faults.RunFault.{RunFault}
use Rattle.runfile.specs.declared.faults.RunFault.TheVariants.{Header as HeaderBroken}
use Rattle.runfile.specs.declared.faults.HeaderFault.{HeaderFault}
use Rattle.runfile.specs.declared.header.Header.{Header}
use Rattle.runs.specs.Fitting.{fitting_header}
use Rattle.runs.specs.Loading.{Loaded}

-- the calls with their outcomes, the first first
abbrev pub events : List Call → List Outcome → List Event
events [] outcomes = []
events (call ∷ calls) [] = []
events (call ∷ calls) (outcome ∷ outcomes) = event_of call outcome ∷ events calls outcomes

-- the newest first
abbrev pub history : List Call → List Outcome → History
history calls outcomes = reverse (events calls outcomes)

-- every call was made in turn, and each has its outcome
pub record Ran (w : World) (calls : List Call) (outcomes : List Outcome) (w' : World) : Type 0 where
  pub answered : length outcomes ≡ length calls
  pub run : Run no_orders w (history calls outcomes) w'

-- a file that the row fits is loaded, and its steps are run up to the first that is broken
pub record FileRun (stores : List StoreState) (file : List ℕ) (outcomes : List Outcome) (fault : Option RunFault) (w : World) : Type 0 where
  pub loaded : List StoreState
  pub loading : Loaded stores (opening_values file) loaded
  pub steps : Ran (opened loaded) (calls_of file) outcomes w
  pub ended : fault ≡ end_of file
  pub one_copy : OneCopy no_orders (opening_values file) (history (calls_of file) outcomes) w

-- where the header is faulty or the row does not fit, nothing is loaded and no step is run
abbrev pub FinishesAt : Result Header HeaderFault → List StoreState → List ℕ → List Outcome → Option RunFault → World → Type 0
FinishesAt (Ok header) stores file outcomes fault w = FileRun stores file outcomes fault w
FinishesAt (Err f) stores file outcomes fault w = (outcomes ≡ []) × (fault ≡ Some (HeaderBroken f)) × (w ≡ opened stores)

abbrev pub Finishes : List StoreState → List ℕ → List Outcome → Option RunFault → World → Type 0
Finishes stores file outcomes fault w = FinishesAt (fitting_header stores file) stores file outcomes fault w
