-- A number of four bytes is two of two.
use Rattle.std.proofs.Common.{◌≡◌, List, ℕ, ◌+◌, ◌*◌}
use Rattle.octets.specs.BigEndian.{num}
use Rattle.octets.specs.BigEndianLaws.{num_split}

pub of_halves : (s : List ℕ) (at : ℕ) → num 4 s at ≡ num 2 s at * 65536 + num 2 s (at + 2)
of_halves s at = num_split 2 2 s at
