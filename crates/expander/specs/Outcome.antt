-- What expanding answers and leaves in the output, for every record, source, original file type and output (document 01, 'What goes back
-- when it cannot be done': 10 to 16 in this order).
use Rattle.std.specs.Prelude.{◌≡◌, Bool, false, not, cond, ◌&&◌, ◌||◌, List, [], ◌∷◌, ℕ, eqb, ltb, length, Option, Some, None, is_some, Result}
use Rattle.std.proofs.Common.{arith, rules}
use Rattle.octets.specs.Overwrite.{overwrite}
use Rattle.boxes.specs.Header.{UUID}
use Rattle.ftyp.specs.FileType.{allowed}
use Rattle.mini.specs.Same.{well_placed}
use Rattle.mini.specs.Write.{writable}
use Rattle.mini.specs.declared.CodecTypes.{CodecTypes}
use Rattle.mini.specs.declared.MinimizedImage.{MinimizedImage}
use Rattle.writer.specs.ToBox.{refused}
use Rattle.refusals.specs.Outcome as any
use Rattle.refusals.specs.Outcome.{Written, outcome}
use Rattle.expander.specs.EquivalentFile.{file}
use Rattle.expander.specs.declared.refusal.ExpandError.{ExpandError}
use Rattle.expander.specs.declared.refusal.ExpandError.TheVariants.{Misplaced, Unwritable, NativeAlpha, UuidCodecType, NoCodecTypes, BrandList, TooShort}

-- ---- refusals
-- the number of each
abbrev pub number : ExpandError → ℕ
number Misplaced = 10
number Unwritable = 11
number NativeAlpha = 12
number UuidCodecType = 13
number NoCodecTypes = 14
number BrandList = 15
number (TooShort needed) = 16

-- none is 0
pub number_not_zero : (e : ExpandError) → number e ≡ 0 → ⊥
number_not_zero e = search (rules, arith)

-- what comes with it: the length needed, else 0
abbrev pub value_in : ExpandError → ℕ
value_in (TooShort needed) = needed
value_in _ = 0

-- the refusal's number in an answer, 0 for none
abbrev pub refusal_in : {A : Type 0} → Result A ExpandError → ℕ
refusal_in = any.refusal_in number

-- an answer as a number and a length
abbrev pub outcome_of : Result ℕ ExpandError → Written
outcome_of = outcome number value_in

-- ---- when
abbrev pub has_native_alpha : MinimizedImage → Bool
has_native_alpha i = i.alpha && eqb i.alpha_data.len 0

abbrev pub is_uuid : Option CodecTypes → Bool
is_uuid None = false
is_uuid (Some types) = eqb types.infe_type UUID || eqb types.codec_config_type UUID

-- the first number whose condition holds, 0 for none
abbrev pub first : List (Bool × ℕ) → ℕ
first [] = 0
first (r ∷ rs) = cond r.0 r.1 (first rs)

unfoldable pub refusal_of : MinimizedImage → List ℕ → (brands : List ℕ) → ℕ
refusal_of i s brands =
    first
    ((not (well_placed i s), 10)
    ∷ (not (writable i), 11)
    ∷ (has_native_alpha i, 12)
    ∷ (is_uuid i.explicit_codec_types, 13)
    ∷ (not (is_some i.explicit_codec_types), 14)
    ∷ (not (allowed brands), 15)
    ∷ [])

-- the refusal; else 16 with the needed length, or the file
unfoldable pub expanded : MinimizedImage → List ℕ → (major minor : ℕ) → (brands out : List ℕ) → Written × List ℕ
expanded i s major minor brands out =
    let r = refusal_of i s brands in
    let f = file i s major minor brands in
    cond (eqb r 0)
    (cond (ltb (length out) (length f)) (refused 16 (length f) out) (record { refusal = 0; value = length f }, overwrite out 0 f))
    (refused r 0 out)

-- the length alone, without an output
unfoldable pub expanded_len : MinimizedImage → List ℕ → (major minor : ℕ) → (brands : List ℕ) → Written
expanded_len i s major minor brands =
    let r = refusal_of i s brands in
    cond (eqb r 0) (record { refusal = 0; value = length (file i s major minor brands) }) (record { refusal = r; value = 0 })
