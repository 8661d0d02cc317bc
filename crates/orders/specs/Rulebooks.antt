-- What a rulebook is: which orders are lawful for a number of objects, which of their positions an order writes,
-- and the new values as a function of the order and the old values. Assumes nothing.
use Rattle.std.specs.Prelude.{◌≡◌, ℕ, ◌^◌, ◌<◌, Bool, true, false, List, length, slice_index, slice_index_or}

-- the functions of a rulebook in one
pub record Rules : Type 0 where
  pub lawful : List ℕ → ℕ → Bool
  pub mask : List ℕ → ℕ → List Bool
  pub news : List ℕ → List ℕ → List ℕ

abbrev pub rules_of : (List ℕ → ℕ → Bool) → (List ℕ → ℕ → List Bool) → (List ℕ → List ℕ → List ℕ) → Rules
rules_of lawful mask news = record { lawful = lawful; mask = mask; news = news }

-- what every rulebook keeps
pub record RulebookLaws (lawful : List ℕ → ℕ → Bool) (mask : List ℕ → ℕ → List Bool) (news : List ℕ → List ℕ → List ℕ) : Type 0 where
  -- the mask says of each position whether it is written, and no position past them is
  pub mask_has_each_position : (order : List ℕ) (n : ℕ) → length (mask order n) ≡ n
  pub lawful_order_writes : (order : List ℕ) (n : ℕ) → lawful order n ≡ true → (p : ℕ) × (p < n) × (slice_index_or (mask order n) p false ≡ true)
  pub as_many_news_as_olds : (order olds : List ℕ) → length (news order olds) ≡ length olds
  pub unwritten_keeps_its_value : (order olds : List ℕ) → lawful order (length olds) ≡ true → (p : ℕ) → slice_index_or (mask order (length olds)) p false ≡ false → slice_index (news order olds) p ≡ slice_index olds p
  pub news_fit_where_olds_fit : (order olds : List ℕ) → lawful order (length olds) ≡ true → ((p : ℕ) → slice_index olds p < 2 ^ 32) → (p : ℕ) → slice_index (news order olds) p < 2 ^ 32
