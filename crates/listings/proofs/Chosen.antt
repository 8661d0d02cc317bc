-- The row that a file is listed over. Assumes nothing.
use Rattle.std.proofs.Common.{◌≡◌, ℕ, true, not, eqb, List, [], IfOk, Some, Ok, Err, Result, sym, refl, ap, ◌∙◌, subst, arith}
use Rattle.std.proofs.lemmas.Result.{IfOk-weaker}
use Rattle.std.proofs.lemmas.Bool.{cond-true, cond-false, ne_eqb, not_from_false}
use Rattle.stores.specs.Rows.{StoreState}
use Rattle.model.specs.Opening.{opened}
use Rattle.runfile.specs.HeaderFormat.{header_of, machine_count, object_count}
use Rattle.runfile.specs.declared.faults.HeaderFault.{HeaderFault}
use Rattle.runfile.specs.declared.faults.HeaderFaultKind.TheVariants.{RowDiffers}
use Rattle.runfile.specs.declared.faults.RunFault.TheVariants.{Header as HeaderBroken}
use Rattle.runfile.specs.declared.header.Header.{Header}
use Rattle.runfile.proofs.SoundHeader.{sound_at_ok}
use Rattle.runs.specs.Fitting.{fitting_header, row_header}
use Rattle.runs.specs.Running.{FinishesAt}
use Rattle.listings.specs.Listed.{Listed, ListedFile, listing_stores}
use Rattle.listings.specs.Text.{listing_text}

abbrev fitting_from : List StoreState → Result Header HeaderFault → Result Header HeaderFault
fitting_from stores h = elim h [ Err f ↦ Err f | Ok header ↦ row_header stores header ]

-- a file that the row does not fit runs nothing
finishes_broken : (file : List ℕ) (stores : List StoreState) (f : HeaderFault) (h : Result Header HeaderFault) → h ≡ Err f → FinishesAt h stores file [] (Some (HeaderBroken f)) (opened stores)
finishes_broken file stores f (Ok header) e = let z : ◌≡◌ {A = ℕ} 0 1 = cc in absurd (omega arith)
finishes_broken file stores f (Err e') e = let same : e' ≡ f = cc in (refl, ap (λ x. Some (HeaderBroken x)) (sym same), refl)

module _ {S E : Type 0} (bytes : S → List ℕ) (file : List ℕ) where
  -- the row that was made is the one that the file is to be listed over
  pub listed_over : (header : Header) (stores : List StoreState) → Ok header ≡ header_of file → stores ≡ listing_stores header.machines header.objects
      → (r : Result S E) → IfOk r (λ text. Listed stores file (bytes text)) → IfOk r (λ text. ListedFile file (bytes text))
  listed_over header stores reading same r =
      let sound = sound_at_ok file header reading in
      let row : stores ≡ listing_stores (machine_count file) (object_count file) = same ∙ ap (λ m. listing_stores m header.objects) sound.machines_are ∙ ap (listing_stores (machine_count file)) sound.objects_are in
      IfOk-weaker r (λ text. Listed stores file (bytes text)) (λ text. ListedFile file (bytes text)) (λ text l. subst (λ (s : List StoreState). Listed s file (bytes text)) row l)

  listed_nothing : (stores : List StoreState) (f : HeaderFault) → fitting_header stores file ≡ Err f
      → (r : Result S E) → IfOk r (λ text. bytes text ≡ listing_text [] (Some (HeaderBroken f))) → IfOk r (λ text. Listed stores file (bytes text))
  listed_nothing stores f broken r =
      IfOk-weaker r (λ text. bytes text ≡ listing_text [] (Some (HeaderBroken f))) (λ text. Listed stores file (bytes text))
      (λ text lines. record {
        outcomes = [];
        fault = Some (HeaderBroken f);
        left = opened stores;
        run = finishes_broken file stores f (fitting_header stores file) broken;
        lines = lines;
      })

  pub listed_unsound : (f : HeaderFault) → Err f ≡ header_of file
      → (r : Result S E) → IfOk r (λ text. bytes text ≡ listing_text [] (Some (HeaderBroken f))) → IfOk r (λ text. ListedFile file (bytes text))
  listed_unsound f reading =
      let stores = listing_stores (machine_count file) (object_count file) in
      listed_nothing stores f (ap (fitting_from stores) (sym reading))

  -- no row is made for this machine count
  pub listed_elsewhere : (header : Header) → Ok header ≡ header_of file → (header.machines ≡ 1 → ⊥) → (header.machines ≡ 2 → ⊥) → (header.machines ≡ 8 → ⊥)
      → (r : Result S E) → IfOk r (λ text. bytes text ≡ listing_text [] (Some (HeaderBroken (record { kind = RowDiffers; byte = 0 })))) → IfOk r (λ text. ListedFile file (bytes text))
  listed_elsewhere header reading not-one not-two not_eight r listed =
      let sound = sound_at_ok file header reading in
      let none : [] ≡ listing_stores header.machines header.objects =
      sym (cond-false _ _ _ (ne_eqb _ _ not-one) ∙ cond-false _ _ _ (ne_eqb _ _ not-two) ∙ cond-false _ _ _ (ne_eqb _ _ not_eight)) in
      let apart : not (eqb 0 header.machines) ≡ true = not_from_false _ (ne_eqb 0 header.machines (λ e. omega (arith, sound.some_machine))) in
      listed_over header [] reading none r
      (listed_nothing [] (record { kind = RowDiffers; byte = 0 }) (ap (fitting_from []) (sym reading) ∙ cond-true _ _ _ apart) r listed)
