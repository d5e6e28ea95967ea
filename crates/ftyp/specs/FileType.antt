-- The 'ftyp' of the equivalent file (ISO/IEC 23008-12, O.2.1.2; document 01, 'The equivalent file' and refusal 15; mini.rs,
-- `equivalent_file_type`; ftyp.rs, `to_box`). A brand is the number that its four bytes stand for.
use Rattle.std.specs.Prelude.{Bool, true, false, not, cond, List, [], ◌++◌, ℕ, zero, suc, ◌+◌, ◌*◌, ◌/◌, ◌%◌, length, eqb, leb}
use Rattle.octets.specs.BigEndian.{be, num}
use Rattle.boxes.specs.Boxed.{boxed}
use Rattle.ftyp.specs.declared.EquivalentFileType.{EquivalentFileType}

abbrev pub MIF1 : ℕ
MIF1 = 0x6D696631

abbrev pub MIF3 : ℕ
MIF3 = 0x6D696633

abbrev pub TMAP : ℕ
TMAP = 0x746D6170

abbrev pub VVI3 : ℕ
VVI3 = 0x76766933

abbrev pub VVIC : ℕ
VVIC = 0x76766963

abbrev pub FTYP : ℕ
FTYP = 0x66747970

-- refusal 15's opposite: whole brands, and no more than 4,096 bytes of them
unfoldable pub allowed : List ℕ → Bool
allowed s = cond (eqb (length s % 4) 0) (leb (length s) 4096) false

-- one of the first k brands is b
abbrev pub among : List ℕ → ℕ → ℕ → Bool
among s b zero = false
among s b (suc k) = cond (eqb (num 4 s (k * 4)) b) true (among s b k)

unfoldable pub has_brand : List ℕ → ℕ → Bool
has_brand s b = among s b (length s / 4)

-- a brand is added where it is missing
abbrev pub push : ℕ → List ℕ → List ℕ
push b s = cond (has_brand s b) s (s ++ be 4 b)

-- 'mif3' with a codec brand in minor_version: that brand, or for 'vvi3' its equivalent 'vvic', becomes the major brand
unfoldable pub renamed : ℕ → ℕ → Bool
renamed major minor = cond (eqb major MIF3) (not (eqb minor 0)) false

unfoldable pub major_of : ℕ → ℕ → ℕ
major_of major minor = cond (renamed major minor) (cond (eqb minor VVI3) VVIC minor) major

-- 'mif3' is kept where it was the major brand; 'mif1', and with a gain map 'tmap', are added
unfoldable pub brands_of : ℕ → ℕ → Bool → List ℕ → List ℕ
brands_of major minor gain s =
    let s1 = cond (renamed major minor) (push MIF3 s) s in
    let s2 = push MIF1 s1 in
    cond gain (push TMAP s2) s2

-- major_brand, minor_version 0, compatible_brands
unfoldable pub ftyp_body : ℕ → ℕ → Bool → List ℕ → List ℕ
ftyp_body major minor gain s = be 4 (major_of major minor) ++ be 4 0 ++ brands_of major minor gain s

unfoldable pub ftyp : (major minor : ℕ) (gain : Bool) (brands : List ℕ) → List ℕ
ftyp major minor gain brands = boxed FTYP (ftyp_body major minor gain brands)

-- ---- the same with the list of brands left where it is lent: which brands come after it
-- a brand that is wanted and not in the list
abbrev pub lacks : List ℕ → ℕ → Bool → Bool
lacks s b wanted = cond wanted (not (has_brand s b)) false

unfoldable pub file_type : (major minor : ℕ) (gain : Bool) (brands : List ℕ) → EquivalentFileType
file_type major minor gain brands =
    record {
      major_brand = major_of major minor;
      minor_version = 0;
      add_mif3 = lacks brands MIF3 (renamed major minor);
      add_mif1 = lacks brands MIF1 true;
      add_tmap = lacks brands TMAP gain;
    }

-- a brand that is added or not
abbrev pub added : Bool → ℕ → List ℕ
added add b = cond add (be 4 b) []

abbrev pub added_len : Bool → ℕ
added_len add = cond add 4 0

unfoldable pub file_type_body : EquivalentFileType → List ℕ → List ℕ
file_type_body t s =
    be 4 t.major_brand ++ be 4 t.minor_version ++ s ++ added t.add_mif3 MIF3 ++ added t.add_mif1 MIF1 ++ added t.add_tmap TMAP

unfoldable pub file_type_box : EquivalentFileType → List ℕ → List ℕ
file_type_box t s = boxed FTYP (file_type_body t s)

-- ---- lengths: of the body, and of the box with its header
abbrev pub file_type_body_len : EquivalentFileType → List ℕ → ℕ
file_type_body_len t s = 8 + length s + added_len t.add_mif3 + added_len t.add_mif1 + added_len t.add_tmap

abbrev pub file_type_len : EquivalentFileType → List ℕ → ℕ
file_type_len t s = 8 + file_type_body_len t s

abbrev pub ftyp_len : (major minor : ℕ) (gain : Bool) (brands : List ℕ) → ℕ
ftyp_len major minor gain brands = file_type_len (file_type major minor gain brands) brands
