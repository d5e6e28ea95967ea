-- What rewriting answers, as the number of a refusal and a value.
use Rattle.std.specs.Prelude.{◌≡◌, ℕ, Result}
use Rattle.bits.specs.ReadError as read
use Rattle.refusals.specs.Outcome.{Written, outcome}
use Rattle.writer.specs.Outcome as written
use Rattle.rewriter.specs.declared.RewriteError.{RewriteError}
use Rattle.rewriter.specs.declared.RewriteError.TheVariants.{Reading, Writing}

-- the number of each refusal
abbrev pub number : RewriteError → ℕ
number (Reading e) = read.number e
number (Writing e) = written.number e

-- none is 0
pub number_not_zero : (e : RewriteError) → number e ≡ 0 → ⊥
number_not_zero (Reading e) = read.number_not_zero e
number_not_zero (Writing e) = written.number_not_zero e

-- what comes with it: the bit of a refusal of reading, the length that writing needs, else 0
abbrev pub value_in : RewriteError → ℕ
value_in (Reading e) = read.value_in e
value_in (Writing e) = written.value_in e

abbrev pub outcome_of : Result ℕ RewriteError → Written
outcome_of = outcome number value_in
