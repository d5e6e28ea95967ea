-- 'iinf', the items of the equivalent file (ISO/IEC 14496-12, 8.11.6; ISO/IEC 23008-12, O.4; document 01, 'The equivalent file'; mini.rs,
-- `equivalent_file`).
use Rattle.std.specs.Prelude.{◌≡◌, refl, Bool, true, false, cond, List, [], ◌∷◌, ◌++◌, ℕ, ◌+◌, ◌≤◌, length}
use Rattle.std.proofs.Common.{append-nil, arith, length-append}
use Rattle.mini.specs.Cut.{joined, joined-append}
use Rattle.octets.specs.BigEndian.{be}
use Rattle.octets.specs.BigEndianLaws.{length-be}
use Rattle.boxes.specs.Boxed.{boxed, full_box_header, length-boxed, length-full_box_header}
use Rattle.mini.specs.ItemKind.{MAIN, ALPHA, TMAP, GAIN_MAP, EXIF, XMP}
use Rattle.items.specs.declared.ItemSet.{ItemSet}
use Rattle.items.specs.Optional.{bytes_if, len_if, length_if, if_most}

-- the flags of an entry
abbrev pub SHOWN : ℕ
SHOWN = 0

abbrev pub HIDDEN : ℕ
HIDDEN = 1

-- version 2: item_ID, item_protection_index 0, item_type, an empty item_name
unfoldable pub infe_fields : (id flags type : ℕ) → List ℕ
infe_fields id flags type = full_box_header 2 flags ++ be 2 id ++ be 2 0 ++ be 4 type ++ (0 ∷ [])

unfoldable pub infe : (id flags type : ℕ) → List ℕ
infe id flags type = boxed 0x696E6665 (infe_fields id flags type)

-- 'Exif', deflated 'dExf'
abbrev pub exif_type : Bool → ℕ
exif_type compressed = cond compressed 0x64457866 0x45786966

-- content_type 'application/rdf+xml' with the zero byte that ends it
abbrev pub content_type : List ℕ
content_type =
    0x61 ∷ 0x70 ∷ 0x70 ∷ 0x6C ∷ 0x69 ∷ 0x63 ∷ 0x61 ∷ 0x74 ∷ 0x69 ∷ 0x6F ∷ 0x6E ∷ 0x2F ∷ 0x72 ∷ 0x64 ∷ 0x66 ∷ 0x2B ∷ 0x78 ∷ 0x6D ∷ 0x6C ∷ 0x00 ∷ []

-- content_encoding 'deflate' or empty, ended likewise
abbrev pub content_encoding : Bool → List ℕ
content_encoding compressed = bytes_if compressed (0x64 ∷ 0x65 ∷ 0x66 ∷ 0x6C ∷ 0x61 ∷ 0x74 ∷ 0x65 ∷ []) ++ (0x00 ∷ [])

-- the entry of the XMP item, item_type 'mime'
unfoldable pub mime_fields : Bool → List ℕ
mime_fields compressed = infe_fields XMP HIDDEN 0x6D696D65 ++ content_type ++ content_encoding compressed

unfoldable pub mime : Bool → List ℕ
mime compressed = boxed 0x696E6665 (mime_fields compressed)

-- an entry, where the item is there
abbrev pub entry_if : Bool → List ℕ → List (List ℕ)
entry_if on e = cond on (e ∷ []) []

unfoldable pub infe_entries : ItemSet → List (List ℕ)
infe_entries s =
    (infe MAIN SHOWN s.item_type ∷ []) ++ entry_if s.alpha (infe ALPHA HIDDEN s.item_type) ++ entry_if s.tone_map (infe TMAP SHOWN 0x746D6170)
    ++ entry_if s.gain_map (infe GAIN_MAP HIDDEN s.item_type)
    ++ entry_if s.exif (infe EXIF HIDDEN (exif_type s.compressed))
    ++ entry_if s.xmp (mime s.compressed)

-- entry_count and the entries
unfoldable pub iinf_body : ItemSet → List ℕ
iinf_body s = full_box_header 0 0 ++ be 2 (length (infe_entries s)) ++ joined (infe_entries s)

unfoldable pub iinf : ItemSet → List ℕ
iinf s = boxed 0x69696E66 (iinf_body s)

-- ---- lengths
abbrev pub infe_len : ℕ
infe_len = 21

abbrev pub encoding_len : Bool → ℕ
encoding_len compressed = 1 + len_if compressed 7

abbrev pub mime_len : Bool → ℕ
mime_len compressed = 8 + (33 + encoding_len compressed)

abbrev pub entries_len : ItemSet → ℕ
entries_len s =
    infe_len + len_if s.alpha infe_len + len_if s.tone_map infe_len + len_if s.gain_map infe_len + len_if s.exif infe_len
    + len_if s.xmp (mime_len s.compressed)

abbrev pub iinf_len : ItemSet → ℕ
iinf_len s = 8 + (6 + entries_len s)

-- the entries one after another, and how many they are
abbrev pub entry_bytes : ItemSet → List ℕ
entry_bytes s =
    infe MAIN SHOWN s.item_type ++ bytes_if s.alpha (infe ALPHA HIDDEN s.item_type) ++ bytes_if s.tone_map (infe TMAP SHOWN 0x746D6170)
    ++ bytes_if s.gain_map (infe GAIN_MAP HIDDEN s.item_type)
    ++ bytes_if s.exif (infe EXIF HIDDEN (exif_type s.compressed))
    ++ bytes_if s.xmp (mime s.compressed)

abbrev pub entry_count : ItemSet → ℕ
entry_count s = 1 + len_if s.alpha 1 + len_if s.tone_map 1 + len_if s.gain_map 1 + len_if s.exif 1 + len_if s.xmp 1

joined_if : (on : Bool) (e : List ℕ) → joined (entry_if on e) ≡ bytes_if on e
joined_if true e = append-nil e
joined_if false e = refl

count_if : (on : Bool) (e : List ℕ) → length (entry_if on e) ≡ len_if on 1
count_if true e = refl
count_if false e = refl

pub joined-entries : (s : ItemSet) → joined (infe_entries s) ≡ entry_bytes s
unfolding infe_entries
joined-entries s = simp (joined-append, joined_if)

pub count_entries : (s : ItemSet) → length (infe_entries s) ≡ entry_count s
unfolding infe_entries
count_entries s = simp (length-append, count_if) (omega arith)

-- by which `grind` sees that
pub ruleset entry_laws = (joined-entries, count_entries)

length-infe : (id flags type : ℕ) → length (infe id flags type) ≡ infe_len
unfolding infe infe_fields
length-infe id flags type = simp (length-boxed, length-append, length-full_box_header, length-be)

length-mime : (compressed : Bool) → length (mime compressed) ≡ mime_len compressed
unfolding mime mime_fields infe_fields
length-mime true = simp (length-boxed, length-append, length-full_box_header, length-be)
length-mime false = simp (length-boxed, length-append, length-full_box_header, length-be)

length_infe_if : (on : Bool) (id flags type : ℕ) → length (bytes_if on (infe id flags type)) ≡ len_if on infe_len
length_infe_if on id flags type = length_if on _ _ (length-infe id flags type)

length_mime_if : (on compressed : Bool) → length (bytes_if on (mime compressed)) ≡ len_if on (mime_len compressed)
length_mime_if on compressed = length_if on _ _ (length-mime compressed)

pub length-iinf : (s : ItemSet) → length (iinf s) ≡ iinf_len s
unfolding iinf iinf_body
length-iinf s = rw (joined-entries s) (simp (length-boxed, length-append, length-full_box_header, length-be, length-infe, length_infe_if, length_mime_if))

mime_most : (on compressed : Bool) → len_if on (mime_len compressed) ≤ 49
mime_most on compressed = omega (arith, if_most on (mime_len compressed), if_most compressed 7)

pub iinf_most : (s : ItemSet) → iinf_len s ≤ 168
iinf_most s =
    omega (arith, if_most s.alpha 21, if_most s.tone_map 21, if_most s.gain_map 21, if_most s.exif 21, mime_most s.xmp s.compressed)
