-- A file that the row fits, from the parts of its run. Assumes nothing.
use Rattle.std.proofs.Common.{◌≡◌, ℕ, ◌<◌, List, Ok, Option, sym, ◌∙◌, subst, arith}
use Rattle.stores.specs.Rows.{StoreState, AmpleFloors, place_count, store_at}
use Rattle.model.specs.Calls.{Call}
use Rattle.model.specs.Opening.{opened, opening_number}
use Rattle.model.specs.World.{World}
use Rattle.register.specs.declared.outcomes.Outcome.{Outcome}
use Rattle.runfile.specs.FileFormat.{calls_from, calls_of, end_from}
use Rattle.runfile.specs.HeaderFormat.{opening_values, value_place}
use Rattle.runfile.specs.declared.faults.RunFault.{RunFault}
use Rattle.runfile.specs.declared.header.Header.{Header}
use Rattle.runfile.proofs.SoundHeader.{sound_at_ok}
use Rattle.runfile.proofs.Values.{length_opening_values}
use Rattle.runfile.proofs.Walk.{calls_at_ok, end_at_ok}
use Rattle.runs.specs.Fitting.{fitting_header}
use Rattle.runs.specs.Loading.{Loaded}
use Rattle.runs.specs.Running.{Ran, FileRun, history}
use Rattle.runs.proofs.Fitted.{Fit, fits}
use Rattle.runs.proofs.WellOpened.{loaded_values, well_opened, loaded_one_copy}

module _ (stores : List StoreState) (file : List ℕ) (header : Header) (loaded : List StoreState)
    (ample : AmpleFloors stores) (fitting : fitting_header stores file ≡ Ok header) (loading : Loaded stores (opening_values file) loaded) where
  fit : Fit stores file header
  fit = fits stores file header fitting

  alike : (s : ℕ) → s < place_count loaded → (store_at loaded s).values ≡ opening_values file
  alike s within =
      let sound = sound_at_ok file header fit.reading in
      loaded_values stores loaded (opening_values file) ample loading s (omega (arith, loading.count))
      (fit.objects s (omega (arith, loading.count)) ∙ sound.objects_are ∙ sym (length_opening_values file))

  well : opening_number loaded ≡ 0
  well =
      let sound = sound_at_ok file header fit.reading in
      let long = length_opening_values file in
      let counted = fit.machines in
      well_opened loaded (opening_values file)
      (omega (arith, loading.count, counted, sound.some_machine)) (omega (arith, loading.count, counted, sound.machines_bound))
      (omega (arith, long, sound.some_object, sound.objects_are)) (omega (arith, long, sound.objects_bound, sound.objects_are))
      alike

  pub file_run : (outcomes : List Outcome) (fault : Option RunFault) (w : World)
      → Ran (opened loaded) (calls_from header.steps file (value_place header.objects)) outcomes w
      → fault ≡ end_from header.steps file (value_place header.objects) 0
      → FileRun stores file outcomes fault w
  file_run outcomes fault w ran ended =
      let sound = sound_at_ok file header fit.reading in
      let steps : Ran (opened loaded) (calls_of file) outcomes w = subst (λ (cs : List Call). Ran (opened loaded) cs outcomes w) (sym (calls_at_ok file header fit.reading)) ran in
      record {
        loaded = loaded;
        loading = loading;
        steps = steps;
        ended = ended ∙ sym (end_at_ok file header fit.reading);
        one_copy = loaded_one_copy loaded (opening_values file) (history (calls_of file) outcomes) w well (alike 0 (omega (arith, loading.count, fit.machines, sound.some_machine))) steps.run;
      }
