-- The values of a read, written one after another. Assumes nothing.
use Rattle.std.proofs.Common.{◌≡◌, ℕ, ◌+◌, ◌<◌, ◌≤◌, List, [], ◌∷◌, ◌++◌, length, get_or, take, sym, ap, ◌∙◌, append_assoc, append-nil}
use Rattle.std.specs.declared.fmt.Formatter.{Formatter}
use Rattle.std.specs.Fmt.{IsPlainFormatter, HasWritten}
use Rattle.std.proofs.Output.{has_written_append, has_written_of_eq}
use Rattle.std.proofs.lemmas.List.{take_more, take_all}
use Rattle.listings.specs.Text.{spaced, spaced_all}

spaced_push : (xs : List ℕ) (x : ℕ) → spaced_all (xs ++ x ∷ []) ≡ spaced_all xs ++ spaced x
spaced_push [] x = append-nil (spaced x)
spaced_push (y ∷ ys) x = ap (λ (l : List ℕ). spaced y ++ l) (spaced_push ys x) ∙ sym (append_assoc (spaced y) (spaced_all ys) (spaced x))

spaced_more : (xs : List ℕ) (i : ℕ) → i < length xs → spaced_all (take (i + 1) xs) ≡ spaced_all (take i xs) ++ spaced (get_or xs i 0)
spaced_more xs i h = ap spaced_all (take_more xs i 0 h) ∙ spaced_push (take i xs) (get_or xs i 0)

module _ {W : Type 0} (took : W → List ℕ → W → Type 0) where
  -- one value more
  pub put_value : (f g h : Formatter W) (xs : List ℕ) (i : ℕ) → i < length xs → (IsPlainFormatter f → HasWritten took f (spaced_all (take i xs)) g) → (IsPlainFormatter g → HasWritten took g (spaced (get_or xs i 0)) h) → IsPlainFormatter f → HasWritten took f (spaced_all (take (i + 1) xs)) h
  put_value f g h xs i below before next plain =
      let so_far = before plain in
      has_written_of_eq took f _ _ h (sym (spaced_more xs i below)) (has_written_append took f _ g _ h so_far (next so_far.plain))

  pub put_values : (f g : Formatter W) (xs : List ℕ) (i : ℕ) → length xs ≤ i → (IsPlainFormatter f → HasWritten took f (spaced_all (take i xs)) g) → IsPlainFormatter f → HasWritten took f (spaced_all xs) g
  put_values f g xs i past written plain = has_written_of_eq took f _ _ g (ap spaced_all (take_all i xs past)) (written plain)
