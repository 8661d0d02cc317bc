-- A run of a file's steps, one step on. Assumes nothing.
use Rattle.std.proofs.Common.{◌≡◌, ℕ, ◌+◌, ◌-◌, ◌*◌, ◌<◌, ◌≤◌, List, [], ◌∷◌, ◌++◌, Option, Some, reverse, length, sym, refl, ap, ◌∙◌, subst, append_assoc, arith}
use Rattle.std.proofs.lemmas.List.{append-nil, reverse-append, length_push}
use Rattle.model.specs.Calls.{Call}
use Rattle.model.specs.Histories.{History, Run}
use Rattle.model.specs.Steps.{Step}
use Rattle.model.specs.World.{World}
use Rattle.register.specs.declared.outcomes.Outcome.{Outcome}
use Rattle.register.specs.Meaning.{no_orders}
use Rattle.register.specs.Outcomes.{event_of}
use Rattle.runfile.specs.FileFormat.{calls_from, end_from}
use Rattle.runfile.specs.declared.faults.RunFault.{RunFault}
use Rattle.runfile.specs.declared.faults.RunFault.TheVariants.{Step as Faulty}
use Rattle.runfile.specs.declared.faults.StepFault.{StepFault}
use Rattle.runfile.specs.declared.header.Header.{Header}
use Rattle.runfile.specs.declared.iter.Steps.{Steps}
use Rattle.runfile.specs.declared.steps.Step.{Step as FileStep}
use Rattle.runfile.specs.HeaderFormat.{value_place}
use Rattle.runfile.specs.StepFormat.{broken, call_of, found, step_at}
use Rattle.runfile.specs.Walk.{Begins, Refused, Taken}
use Rattle.runfile.proofs.Walk.{calls_broken, calls_found, end_found, end_refused}
use Rattle.runs.specs.Running.{events, history, Ran}

events_push : (calls : List Call) (outcomes : List Outcome) (call : Call) (outcome : Outcome) → length outcomes ≡ length calls
    → events (calls ++ (call ∷ [])) (outcomes ++ (outcome ∷ [])) ≡ events calls outcomes ++ (event_of call outcome ∷ [])
events_push [] [] call outcome same = refl
events_push [] (o ∷ outcomes) call outcome same = absurd (omega arith)
events_push (c ∷ calls) [] call outcome same = absurd (omega arith)
events_push (c ∷ calls) (o ∷ outcomes) call outcome same = ap (λ es. event_of c o ∷ es) (events_push calls outcomes call outcome (omega arith))

history_push : (calls : List Call) (outcomes : List Outcome) (call : Call) (outcome : Outcome) → length outcomes ≡ length calls
    → history (calls ++ (call ∷ [])) (outcomes ++ (outcome ∷ [])) ≡ event_of call outcome ∷ history calls outcomes
history_push calls outcomes call outcome same =
    ap reverse (events_push calls outcomes call outcome same) ∙ reverse-append (events calls outcomes) (event_of call outcome ∷ [])

ran_push : (w v u : World) (calls : List Call) (outcomes : List Outcome) (call : Call) (outcome : Outcome) → Ran w calls outcomes v → Step no_orders v (event_of call outcome) u
    → Ran w (calls ++ (call ∷ [])) (outcomes ++ (outcome ∷ [])) u
ran_push w v u calls outcomes call outcome ran step = record {
  answered = length_push outcomes outcome ∙ ap (λ n. n + 1) ran.answered ∙ sym (length_push calls call);
  run = subst (λ (h : History). Run no_orders w h u) (sym (history_push calls outcomes call outcome ran.answered)) (v, ran.run, step);
}

-- the steps of the file before those that are left are made
pub record Midway (file : List ℕ) (header : Header) (w : World) (s : Steps) (outcomes : List Outcome) (v : World) : Type 0 where
  pub made : List Call
  pub calls : calls_from header.steps file (value_place header.objects) ≡ made ++ calls_from (header.steps - s.numbers.start) file s.place
  pub end : end_from header.steps file (value_place header.objects) 0 ≡ end_from (header.steps - s.numbers.start) file s.place s.numbers.start
  pub ran : Ran w made outcomes v
  pub far : value_place header.objects + 5 * length outcomes ≤ s.place
  pub inside : s.place ≤ length file
  pub file_is : s.file.now ≡ file
  pub count : s.numbers.end ≡ header.steps

pub midway_start : (file : List ℕ) (header : Header) (w : World) (s : Steps) → value_place header.objects ≤ length file → Begins file header s → Midway file header w s [] w
midway_start file header w s within begins =
    let none : header.steps ≡ header.steps - s.numbers.start = omega arith in
    record {
      made = [];
      calls = ap (λ m. calls_from m file (value_place header.objects)) none ∙ ap (λ p. calls_from (header.steps - s.numbers.start) file p) (sym begins.place_is);
      end = ap (λ m. end_from m file (value_place header.objects) 0) none ∙ cc;
      ran = record { answered = refl; run = refl };
      far = omega arith;
      inside = omega arith;
      file_is = begins.file_is;
      count = begins.count;
    }

pub midway_more : (file : List ℕ) (header : Header) (w : World) (s s' : Steps) (outcomes : List Outcome) (v u : World) (step : FileStep) (outcome : Outcome)
    → Midway file header w s outcomes v → Taken s step s' → Step no_orders v (event_of (call_of step) outcome) u
    → Midway file header w s' (outcomes ++ (outcome ∷ [])) u
midway_more file header w s s' outcomes v u step outcome mid taken made =
    let n = header.steps in
    let i = s.numbers.start in
    let left : i < n = omega arith in
    let reading : found (call_of step) s'.place ≡ step_at file s.place = cc in
    let onward = append_assoc mid.made (call_of step ∷ []) (calls_from (n - (i + 1)) file s'.place) in
    record {
      made = mid.made ++ (call_of step ∷ []);
      calls = rw taken.number (mid.calls ∙ ap (λ cs. mid.made ++ cs) (calls_found n i file s.place (call_of step) s'.place left reading) ∙ sym onward);
      end = rw taken.number (mid.end ∙ end_found n i file s.place i (call_of step) s'.place left reading);
      ran = ran_push w v u mid.made outcomes (call_of step) outcome mid.ran made;
      far = omega (arith, length_push outcomes outcome, mid.far, taken.within.forward);
      inside = omega (arith, ap length mid.file_is);
      file_is = cc;
      count = cc;
    }

midway_last : (file : List ℕ) (header : Header) (w : World) (s : Steps) (outcomes : List Outcome) (v : World)
    → Midway file header w s outcomes v → calls_from (header.steps - s.numbers.start) file s.place ≡ [] → Ran w (calls_from header.steps file (value_place header.objects)) outcomes v
midway_last file header w s outcomes v mid none =
    subst (λ (cs : List Call). Ran w cs outcomes v) (sym (mid.calls ∙ ap (λ cs. mid.made ++ cs) none ∙ append-nil mid.made)) mid.ran

-- how the steps of a file end: all the calls up to the end are made
pub record Ended (file : List ℕ) (header : Header) (w : World) (outcomes : List Outcome) (v : World) (fault : Option RunFault) : Type 0 where
  pub steps : Ran w (calls_from header.steps file (value_place header.objects)) outcomes v
  pub end : fault ≡ end_from header.steps file (value_place header.objects) 0

-- the next step is broken
pub ended_broken : (file : List ℕ) (header : Header) (w : World) (s s' : Steps) (outcomes : List Outcome) (v : World) (fault : StepFault)
    → Midway file header w s outcomes v → Refused s fault s' → Ended file header w outcomes v (Some (Faulty fault))
ended_broken file header w s s' outcomes v fault mid refused =
    let left : s.numbers.start < header.steps = omega arith in
    let reading : broken fault.field.kind fault.field.byte ≡ step_at file s.place = cc in
    record {
      steps = midway_last file header w s outcomes v mid (calls_broken header.steps s.numbers.start file s.place fault.field.kind fault.field.byte left reading);
      end = sym (mid.end ∙ end_refused header.steps s.numbers.start file s.place s.numbers.start fault left reading refused.numbered);
    }
