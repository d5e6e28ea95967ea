-- What writing answers, as the number of a refusal and a length.
use Rattle.std.specs.Prelude.{◌≡◌, ℕ, Result}
use Rattle.std.proofs.Common.{arith, rules}
use Rattle.refusals.specs.Outcome.{Written, outcome}
use Rattle.writer.specs.declared.WriteError.{WriteError}
use Rattle.writer.specs.declared.WriteError.TheVariants.{Misplaced, Unwritable, TooShort}

-- the number of each refusal
abbrev pub number : WriteError → ℕ
number Misplaced = 10
number Unwritable = 11
number (TooShort needed) = 16

-- none is 0
pub number_not_zero : (e : WriteError) → number e ≡ 0 → ⊥
number_not_zero e = search (rules, arith)

-- what comes with it: the length needed, else 0
abbrev pub value_in : WriteError → ℕ
value_in (TooShort needed) = needed
value_in _ = 0

abbrev pub outcome_of : Result ℕ WriteError → Written
outcome_of = outcome number value_in
