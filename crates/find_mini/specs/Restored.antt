-- Writing the 'mini' box of the record found in a file, as the number of a refusal and a value, and what the output holds: 15, then 17, else the
-- record's box in its shortest form with its chunks from the file, or 16 where the output is shorter.
use Rattle.std.specs.Prelude.{◌≡◌, List, ℕ, Result, Ok, Err}
use Rattle.mini.specs.declared.MinimizedImage.{MinimizedImage}
use Rattle.refusals.specs.Outcome.{Written, outcome}
use Rattle.writer.specs.Outcome as written_as
use Rattle.writer.specs.ToBox.{refused, written}
use Rattle.find_mini.specs.BackToMini as find
use Rattle.find_mini.specs.BackToMini.{back_to_mini}
use Rattle.find_mini.specs.declared.FindError.{FindError}
use Rattle.find_mini.specs.declared.restore.RestoreError.{RestoreError}
use Rattle.find_mini.specs.declared.restore.RestoreError.TheVariants.{Finding, Writing}

-- the number of each refusal
abbrev pub number : RestoreError → ℕ
number (Finding e) = find.number e
number (Writing e) = written_as.number e

-- none is 0
pub number_not_zero : (e : RestoreError) → number e ≡ 0 → ⊥
number_not_zero (Finding e) = find.number_not_zero e
number_not_zero (Writing e) = written_as.number_not_zero e

-- what comes with it: the length that writing needs, else 0
abbrev pub value_in : RestoreError → ℕ
value_in (Finding e) = 0
value_in (Writing e) = written_as.value_in e

abbrev pub outcome_of : Result ℕ RestoreError → Written
outcome_of = outcome number value_in

-- ---- the box of what was found
abbrev pub box_or_refusal : Result MinimizedImage FindError → (f out : List ℕ) → Written × List ℕ
box_or_refusal (Ok i) f out = written i f out
box_or_refusal (Err e) f out = refused (find.number e) 0 out

unfoldable pub restored : List ℕ → (major minor : ℕ) → (brands out : List ℕ) → Written × List ℕ
restored f major minor brands out = box_or_refusal (back_to_mini f major minor brands) f out
