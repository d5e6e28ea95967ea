-- The file type that the payload of an 'ftyp' box gives (ISO/IEC 14496-12, 4.3; `FileType::parse` of ftyp.rs):
--
--     unsigned int(32) major_brand;
--     unsigned int(32) minor_version;
--     unsigned int(32) compatible_brands[];   // to the end of the box
--
-- Refusal 28 (docs/DECISIONS.md, 18) where the body is no original file type: the first two fields pass its end, or the brands aren't a list that
-- expanding allows.
use Rattle.std.specs.Prelude.{◌≡◌, Bool, true, false, cond, ℕ, ◌+◌, ◌-◌, ◌≤◌, ◌<◌, eqb, ltb, drop, Result, Ok, Err}
use Rattle.std.proofs.Math.Path.{refl}
use mathlib.Core.List.{List, [], ◌++◌, append_assoc}
use Rattle.std.proofs.Common.{arith, rules, lit<, length-append, drop_at, le-ltb}
use Rattle.std.proofs.Math.ListN.{length}
use Rattle.octets.specs.BigEndian.{be, num}
use Rattle.octets.specs.BigEndianLaws.{length-be, field_at}
use Rattle.refusals.specs.Outcome.{refusal_in}
use Rattle.ftyp.specs.FileType.{VVI3, VVIC, allowed, renamed, major_of, brands_of, ftyp_body}
use Rattle.ftyp.specs.declared.FileType.{FileType}
use Rattle.octets.specs.declared.Span.{Span}
use Rattle.ftyp.specs.declared.read.FileTypeError.{FileTypeError}

-- the brands of a body
abbrev pub brands_in : List ℕ → List ℕ
brands_in s = drop 8 s

-- both fields are there, and the brands are an allowed list
abbrev pub is_file_type : List ℕ → Bool
is_file_type s = cond (ltb (length s) 8) false (allowed (brands_in s))

-- the refusal's number (docs/DECISIONS.md, 18)
abbrev pub number : FileTypeError → ℕ
number e = 28

-- it is not 0
pub number_not_zero : (e : FileTypeError) → number e ≡ 0 → ⊥
number_not_zero e = search (rules, arith)

-- what reading a body hands out as a number and a file type: 0 and the file type, or the refusal's number and zeros
abbrev pub file_type_refusal : Result (FileType Span) FileTypeError → ℕ
file_type_refusal = refusal_in number

abbrev pub blank : FileType Span
blank = record { major_brand = 0; minor_version = 0; compatible_brands = record { at = 0; len = 0 } }

abbrev pub file_type_or_blank : Result (FileType Span) FileTypeError → FileType Span
file_type_or_blank (Ok t) = t
file_type_or_blank (Err e) = blank

abbrev pub refused : Result (FileType Span) FileTypeError
refused = Err (record {})

-- a file type whose brands are the n bytes from 8 on
abbrev pub accepted : (major minor n : ℕ) → Result (FileType Span) FileTypeError
accepted major minor n = Ok (record { major_brand = major; minor_version = minor; compatible_brands = record { at = 8; len = n } })

unfoldable pub read_file_type : List ℕ → Result (FileType Span) FileTypeError
read_file_type s = cond (is_file_type s) (accepted (num 4 s 0) (num 4 s 4) (length s - 8)) refused

-- ---- a file type that is written is read back, with its brands
module _ (major minor : ℕ) (brands : List ℕ) (code : major < 4294967296) (version : minor < 4294967296) where
  abbrev body : List ℕ
  body = be 4 major ++ be 4 minor ++ brands

  pub brands_back : brands_in body ≡ brands
  brands_back = drop_at (be 4 major ++ be 4 minor) brands 8 (simp (length-append, length-be))

  pub read_back : allowed brands ≡ true → read_file_type body ≡ accepted major minor (length brands)
  unfolding read_file_type
  read_back h =
      let l : length body ≡ 8 + length brands = simp (length-append, length-be) in
      let long : 8 ≤ length body = omega (arith, l) in
      let n : length body - 8 ≡ length brands = omega (arith, l) in
      let a : num 4 body 0 ≡ major = rw append_assoc (field_at 4 major [] (be 4 minor ++ brands) 0 refl code) in
      let b : num 4 body 4 ≡ minor = rw append_assoc (field_at 4 minor (be 4 major) brands 4 (length-be 4 major) version) in
      rw (le-ltb _ _ long, brands_back, h, a, b, n)

-- the 'ftyp' of the equivalent file among them
major_code : (major minor : ℕ) → major < 4294967296 → minor < 4294967296 → major_of major minor < 4294967296
unfolding major_of
major_code major minor h k = go (renamed major minor) (eqb minor VVI3)
  where
    go : (t u : Bool) → cond t (cond u VVIC minor) major < 4294967296
    go true true = lit< tt
    go true false = k
    go false u = h

pub ftyp_read : (major minor : ℕ) (gain : Bool) (s : List ℕ) → major < 4294967296 → minor < 4294967296
    → allowed (brands_of major minor gain s) ≡ true
    → (read_file_type (ftyp_body major minor gain s) ≡ accepted (major_of major minor) 0 (length (brands_of major minor gain s)))
    × (brands_in (ftyp_body major minor gain s) ≡ brands_of major minor gain s)
unfolding ftyp_body
ftyp_read major minor gain s h k a =
    let m = major_code major minor h k in
    (read_back (major_of major minor) 0 (brands_of major minor gain s) m (lit< tt) a, brands_back (major_of major minor) 0 (brands_of major minor gain s) m (lit< tt))
