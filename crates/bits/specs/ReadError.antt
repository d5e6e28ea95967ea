-- The refusals of reading by their numbers (document 01, 'What goes back when it cannot be done').
use Rattle.std.specs.Prelude.{◌≡◌, ℕ}
use Rattle.std.proofs.Common.{arith, rules}
use Rattle.bits.specs.declared.ReadError.{ReadError}
use Rattle.bits.specs.declared.ReadErrorKind.{ReadErrorKind}
use Rattle.bits.specs.declared.ReadErrorKind.TheVariants.{Truncated, Version, FloatDepth, TrailingBits, ChunkPastEnd}

-- the number of each kind
abbrev pub kind_number : ReadErrorKind → ℕ
kind_number Truncated = 5
kind_number Version = 6
kind_number FloatDepth = 7
kind_number TrailingBits = 8
kind_number ChunkPastEnd = 9

-- none is 0
pub kind_not_zero : (k : ReadErrorKind) → kind_number k ≡ 0 → ⊥
kind_not_zero k = search (rules, arith)

abbrev pub number : ReadError → ℕ
number e = kind_number e.kind

pub number_not_zero : (e : ReadError) → number e ≡ 0 → ⊥
number_not_zero e = kind_not_zero e.kind

-- what comes with it: the bit (document 02, point 5)
abbrev pub value_in : ReadError → ℕ
value_in e = e.bit
