-- The calls that change or read the register, with their arguments. Assumes nothing.
use Rattle.std.specs.Prelude.{ℕ, List}

-- t is a transaction and s a machine; a read has its object list and the length of the buffer that is lent for the answer
pub data Call : Type 0 where
  start : (t s : ℕ) (objects order : List ℕ) → Call
  issue : (t : ℕ) → Call
  begin : (t s : ℕ) → Call
  promise : (t s : ℕ) → Call
  decline : (t s : ℕ) → Call
  commit : (t : ℕ) → Call
  abort : (t : ℕ) → Call
  apply : (t s : ℕ) → Call
  drop : (t s : ℕ) → Call
  clear : (t : ℕ) → Call
  down : (s : ℕ) → Call
  up : (s : ℕ) → Call
  tidy : (s : ℕ) → Call
  read : (s : ℕ) (objects : List ℕ) (buffer : ℕ) → Call
