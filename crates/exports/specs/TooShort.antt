-- The refusal of an output that is too short (docs/ABI.md), and the length that comes with it.
use Rattle.std.specs.Prelude.{◌≡◌, ℕ}
use Rattle.std.proofs.Common.{arith, rules}
use Rattle.exports.specs.declared.answer.TooShort.{TooShort}

abbrev pub number : TooShort → ℕ
number e = 16

-- it is not 0
pub number_not_zero : (e : TooShort) → number e ≡ 0 → ⊥
number_not_zero e = search (rules, arith)

abbrev pub value_in : TooShort → ℕ
value_in e = e.needed
