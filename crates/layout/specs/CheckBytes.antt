-- The desk check of a record as 14 bytes (docs/ABI.md): 6 flags, of all the conditions and then of each by itself in the order of document
-- 01, and the size as shown, which the last two are about; numbers big-endian.
use Rattle.std.specs.Prelude.{◌≡◌, Bool, List, ◌++◌, ℕ, length}
use Rattle.std.proofs.Common.{length-append}
use Rattle.octets.specs.BigEndian.{be}
use Rattle.octets.specs.BigEndianLaws.{length-be}
use Rattle.mini.specs.DisplayProfile.{display_conditions, meets_display_profile}
use Rattle.mini.specs.ShownSize.{shown_size}
use Rattle.mini.specs.declared.DisplayConditions.{DisplayConditions}
use Rattle.mini.specs.declared.MinimizedImage.{MinimizedImage}
use Rattle.mini.specs.declared.Size.{Size}
use Rattle.layout.specs.PartBytes.{flag_bytes, length-flag}

unfoldable pub check_parts : Bool → DisplayConditions → List ℕ
check_parts meets d =
    flag_bytes meets ++ flag_bytes d.integer_samples ++ flag_bytes d.no_gain_map ++ flag_bytes d.exif_present ++ flag_bytes d.width_fits
    ++ flag_bytes d.height_fits

unfoldable pub size_bytes : Size → List ℕ
size_bytes s = be 4 s.width ++ be 4 s.height

unfoldable pub check_bytes : MinimizedImage → List ℕ
check_bytes i = check_parts (meets_display_profile i) (display_conditions i) ++ size_bytes (shown_size i)

-- ---- its length
pub length-check_bytes : (i : MinimizedImage) → length (check_bytes i) ≡ 14
unfolding check_bytes check_parts size_bytes
length-check_bytes i = simp (length-append, length-flag, length-be)
