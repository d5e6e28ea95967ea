-- 'iref', the references between the items (ISO/IEC 14496-12, 8.11.12; ISO/IEC 23008-12, O.4; document 01, 'The equivalent file'; mini.rs,
-- `equivalent_file`).
use Rattle.std.specs.Prelude.{◌≡◌, refl, Bool, true, false, cond, List, [], ◌∷◌, ◌++◌, map, ℕ, ◌+◌, ◌≤◌, eqb, length}
use Rattle.std.proofs.Common.{arith, length-append}
use Rattle.octets.specs.BigEndian.{be}
use Rattle.octets.specs.BigEndianLaws.{length-be}
use Rattle.boxes.specs.Boxed.{boxed, full_box_header, length-boxed, length-full_box_header}
use Rattle.mini.specs.Cut.{joined}
use Rattle.mini.specs.declared.ItemKind.{ItemKind}
use Rattle.mini.specs.ItemKind.{MAIN, ALPHA, TMAP, GAIN_MAP, EXIF, XMP}
use Rattle.items.specs.declared.ItemSet.{ItemSet}
use Rattle.items.specs.Optional.{bytes_if, len_if, length_if, if_most}

abbrev pub item_ids : List ℕ → List ℕ
item_ids ids = joined (map (be 2) ids)

-- of the code's items, the numbers
abbrev pub numbers : List ItemKind → List ℕ
numbers kinds = map (λ kind. kind.0) kinds

-- from_item_ID, reference_count, the to_item_IDs
unfoldable pub reference : (type «from» : ℕ) (to : List ℕ) → List ℕ
reference type «from» to = boxed type (be 2 «from» ++ be 2 (length to) ++ item_ids to)

-- alpha: 'auxl' to the main picture, and premultiplied 'prem' back
abbrev pub alpha_refs : ItemSet → List ℕ
alpha_refs s =
    bytes_if s.alpha (reference 0x6175786C ALPHA (MAIN ∷ []) ++ bytes_if s.premultiplied (reference 0x7072656D MAIN (ALPHA ∷ [])))

-- the tone map: 'dimg' to the main picture and to the gain map that has data
abbrev pub tone_map_refs : ItemSet → List ℕ
tone_map_refs s = bytes_if s.tone_map (reference 0x64696D67 TMAP (MAIN ∷ cond s.gain_map (GAIN_MAP ∷ []) []))

-- Exif and XMP: 'cdsc' to the main picture
abbrev pub describes : Bool → ℕ → List ℕ
describes on id = bytes_if on (reference 0x63647363 id (MAIN ∷ []))

unfoldable pub references : ItemSet → List ℕ
references s = alpha_refs s ++ tone_map_refs s ++ describes s.exif EXIF ++ describes s.xmp XMP

unfoldable pub iref_body : ItemSet → List ℕ
iref_body s = full_box_header 0 0 ++ references s

unfoldable pub iref_box : ItemSet → List ℕ
iref_box s = boxed 0x69726566 (iref_body s)

-- no box where there is no reference
unfoldable pub iref : ItemSet → List ℕ
iref s = cond (eqb (length (references s)) 0) [] (iref_box s)

-- ---- lengths
abbrev pub alpha_refs_len : ItemSet → ℕ
alpha_refs_len s = len_if s.alpha (14 + len_if s.premultiplied 14)

abbrev pub tone_map_refs_len : ItemSet → ℕ
tone_map_refs_len s = len_if s.tone_map (14 + len_if s.gain_map 2)

abbrev pub references_len : ItemSet → ℕ
references_len s = alpha_refs_len s + tone_map_refs_len s + len_if s.exif 14 + len_if s.xmp 14

abbrev pub iref_len : ItemSet → ℕ
iref_len s = cond (eqb (references_len s) 0) 0 (8 + (4 + references_len s))

length-one : (type «from» to : ℕ) → length (reference type «from» (to ∷ [])) ≡ 14
unfolding reference
length-one type «from» to = simp (length-boxed, length-append, length-be)

length_prem : (on : Bool) (type «from» to : ℕ) → length (bytes_if on (reference type «from» (to ∷ []))) ≡ len_if on 14
length_prem on type «from» to = length_if on _ _ (length-one type «from» to)

length-alpha_refs : (s : ItemSet) → length (alpha_refs s) ≡ alpha_refs_len s
length-alpha_refs s = length_if s.alpha _ _ (simp (length-append, length-one, length_prem))

length_dimg : (gain : Bool) → length (reference 0x64696D67 TMAP (MAIN ∷ cond gain (GAIN_MAP ∷ []) [])) ≡ 14 + len_if gain 2
unfolding reference
length_dimg true = simp (length-boxed, length-append, length-be)
length_dimg false = simp (length-boxed, length-append, length-be)

length-tone_map_refs : (s : ItemSet) → length (tone_map_refs s) ≡ tone_map_refs_len s
length-tone_map_refs s = length_if s.tone_map _ _ (length_dimg s.gain_map)

pub length-references : (s : ItemSet) → length (references s) ≡ references_len s
unfolding references
length-references s = simp (length-append, length-alpha_refs, length-tone_map_refs, length_prem)

-- by which `grind` sees whether there is a reference
pub ruleset reference_laws = (length-references)

length-cond : (b : Bool) (bs : List ℕ) (n : ℕ) → length bs ≡ n → length (cond b [] bs) ≡ cond b 0 n
length-cond true bs n e = refl
length-cond false bs n e = e

pub length-iref : (s : ItemSet) → length (iref s) ≡ iref_len s
unfolding iref iref_box iref_body
length-iref s = rw (length-references s) (length-cond (eqb (references_len s) 0) _ _ (simp (length-boxed, length-append, length-full_box_header, length-references)))

alpha_most : (s : ItemSet) → alpha_refs_len s ≤ 28
alpha_most s = omega (arith, if_most s.alpha (14 + len_if s.premultiplied 14), if_most s.premultiplied 14)

tone_most : (s : ItemSet) → tone_map_refs_len s ≤ 16
tone_most s = omega (arith, if_most s.tone_map (14 + len_if s.gain_map 2), if_most s.gain_map 2)

pub references_most : (s : ItemSet) → references_len s ≤ 72
references_most s = omega (arith, alpha_most s, tone_most s, if_most s.exif 14, if_most s.xmp 14)

pub cond_most : (b : Bool) (n m : ℕ) → n ≤ m → cond b 0 n ≤ m
cond_most true n m h = omega arith
cond_most false n m h = h

pub iref_most : (s : ItemSet) → iref_len s ≤ 84
iref_most s = cond_most (eqb (references_len s) 0) (8 + (4 + references_len s)) 84 (omega (arith, references_most s))
