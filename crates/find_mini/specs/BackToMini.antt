-- Back to a mini (document 02, 3), for every file and every original file type: 15 for a list of brands that is not allowed, then 17 for a file to
-- which no record expands, else the record found.
use Rattle.std.specs.Prelude.{◌≡◌, cond, List, ℕ, Result, Ok, Err}
use Rattle.std.proofs.Common.{arith, rules}
use Rattle.ftyp.specs.FileType.{allowed}
use Rattle.mini.specs.Blank.{blank_image}
use Rattle.mini.specs.declared.MinimizedImage.{MinimizedImage}
use Rattle.refusals.specs.Outcome.{refusal_in}
use Rattle.found.specs.Expansion.{is_expansion}
use Rattle.found.specs.Found.{found_record}
use Rattle.find_mini.specs.declared.FindError.{FindError}
use Rattle.find_mini.specs.declared.FindError.TheVariants.{BrandList, NotAnExpansion}

-- the number of each refusal
abbrev pub number : FindError → ℕ
number BrandList = 15
number NotAnExpansion = 17

-- none is 0
pub number_not_zero : (e : FindError) → number e ≡ 0 → ⊥
number_not_zero e = search (rules, arith)

unfoldable pub back_to_mini : List ℕ → (major minor : ℕ) → (brands : List ℕ) → Result MinimizedImage FindError
back_to_mini f major minor brands =
    cond (allowed brands) (cond (is_expansion f major minor brands) (Ok (found_record f)) (Err NotAnExpansion)) (Err BrandList)

-- ---- what finding hands out as a number and a record: 0 and the record, or the refusal's number and the blank record
abbrev pub find_refusal : Result MinimizedImage FindError → ℕ
find_refusal = refusal_in number

abbrev pub record_or_blank : Result MinimizedImage FindError → MinimizedImage
record_or_blank (Ok i) = i
record_or_blank (Err e) = blank_image
