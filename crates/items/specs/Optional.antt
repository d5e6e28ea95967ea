-- What is written or not, by a flag: the laws that its bytes and its length share.
use Rattle.std.specs.Prelude.{◌≡◌, refl, Bool, true, false, cond, List, [], ℕ, ◌≤◌, length}
use Rattle.std.proofs.Common.{arith}

abbrev pub bytes_if : Bool → List ℕ → List ℕ
bytes_if on bs = cond on bs []

abbrev pub len_if : Bool → ℕ → ℕ
len_if on n = cond on n 0

pub length_if : (on : Bool) (bs : List ℕ) (n : ℕ) → length bs ≡ n → length (bytes_if on bs) ≡ len_if on n
length_if true bs n e = e
length_if false bs n e = refl

pub if_most : (on : Bool) (n : ℕ) → len_if on n ≤ n
if_most true n = omega arith
if_most false n = omega arith
