-- 'iloc', where the items' bytes lie (ISO/IEC 14496-12, 8.11.3; ISO/IEC 23008-12, O.4.9 and O.4.10; document 01, 'The equivalent file'; mini.rs,
-- `equivalent_file`).
use Rattle.std.specs.Prelude.{◌≡◌, refl, Bool, true, false, cond, List, [], ◌∷◌, ◌++◌, ℕ, ◌+◌, ◌≤◌, eqb, length}
use Rattle.std.proofs.Common.{append-nil, append_assoc, arith, length-append}
use Rattle.octets.specs.BigEndian.{be}
use Rattle.octets.specs.BigEndianLaws.{length-be}
use Rattle.boxes.specs.Boxed.{boxed, full_box_header, length-boxed, length-full_box_header}
use Rattle.mini.specs.ItemKind.{MAIN, ALPHA, TMAP, GAIN_MAP, EXIF, XMP}
use Rattle.items.specs.ItemReferences.{cond_most}
use Rattle.items.specs.declared.DataLengths.{DataLengths}

-- an item's number, the offset of its bytes from the file's first byte, and their length
pub record Location : Type 0 where
  pub id : ℕ
  pub off : ℕ
  pub len : ℕ

-- item_ID, construction_method 0, data_reference_index 0, extent_count 1, extent_offset, extent_length
unfoldable pub entry : Location → List ℕ
entry l = be 2 l.id ++ be 2 0 ++ be 2 0 ++ be 2 1 ++ be 4 l.off ++ be 4 l.len

abbrev pub entries : List Location → List ℕ
entries [] = []
entries (l ∷ ls) = entry l ++ entries ls

-- version 1: offset_size and length_size 4, base_offset_size and index_size 0; item_count; the entries
unfoldable pub iloc_body : List Location → List ℕ
iloc_body ls = full_box_header 1 0 ++ be 2 0x4400 ++ be 2 (length ls) ++ entries ls

unfoldable pub iloc : List Location → List ℕ
iloc ls = boxed 0x696C6F63 (iloc_body ls)

-- an item without bytes has no location
abbrev pub located : (id off len : ℕ) → List Location
located id off len = cond (eqb len 0) [] (record { id = id; off = off; len = len } ∷ [])

-- the items by number; their bytes lie from `base` on as alpha, tone map, gain map, main, Exif, XMP
unfoldable pub locations : ℕ → DataLengths → List Location
locations base l =
    located MAIN (base + l.alpha + l.tone_map + l.gain_map) l.main
    ++ located ALPHA base l.alpha
    ++ located TMAP (base + l.alpha) l.tone_map
    ++ located GAIN_MAP (base + l.alpha + l.tone_map) l.gain_map
    ++ located EXIF (base + l.alpha + l.tone_map + l.gain_map + l.main) l.exif
    ++ located XMP (base + l.alpha + l.tone_map + l.gain_map + l.main + l.exif) l.xmp

-- all locations of a list have a property
pub data Every (P : Location → Type 0) : List Location → Type 0 where
  none : Every P []
  next : {l : Location} {ls : List Location} → P l → Every P ls → Every P (l ∷ ls)

-- how many bytes the items have together
abbrev pub data_len : DataLengths → ℕ
data_len l = l.alpha + l.tone_map + l.gain_map + l.main + l.exif + l.xmp

-- ---- lengths
-- 0 for an item without bytes, else n
abbrev pub for_bytes : (len n : ℕ) → ℕ
for_bytes len n = cond (eqb len 0) 0 n

abbrev pub location_count : DataLengths → ℕ
location_count l =
    for_bytes l.main 1 + for_bytes l.alpha 1 + for_bytes l.tone_map 1 + for_bytes l.gain_map 1 + for_bytes l.exif 1 + for_bytes l.xmp 1

abbrev pub entries_len : DataLengths → ℕ
entries_len l =
    for_bytes l.main 16 + for_bytes l.alpha 16 + for_bytes l.tone_map 16 + for_bytes l.gain_map 16 + for_bytes l.exif 16
    + for_bytes l.xmp 16

abbrev pub iloc_len : DataLengths → ℕ
iloc_len l = 8 + (8 + entries_len l)

pub length-entry : (l : Location) → length (entry l) ≡ 16
unfolding entry
length-entry l = simp (length-append, length-be)

pub entries-append : (xs ys : List Location) → entries (xs ++ ys) ≡ entries xs ++ entries ys
entries-append [] ys = refl
entries-append (x ∷ xs) ys = rw (entries-append xs ys, append_assoc)

cond-entries : (b : Bool) (l : Location) → length (entries (cond b [] (l ∷ []))) ≡ cond b 0 16
cond-entries true l = refl
cond-entries false l = rw append-nil (length-entry l)

cond_count : (b : Bool) (l : Location) → length (cond b [] (l ∷ [])) ≡ cond b 0 1
cond_count true l = refl
cond_count false l = refl

length-located : (id off len : ℕ) → length (entries (located id off len)) ≡ for_bytes len 16
length-located id off len = cond-entries (eqb len 0) _

pub count_located : (id off len : ℕ) → length (located id off len) ≡ for_bytes len 1
count_located id off len = cond_count (eqb len 0) _

pub count_locations : (base : ℕ) (l : DataLengths) → length (locations base l) ≡ location_count l
unfolding locations
count_locations base l = simp (length-append, count_located)

-- by which `grind` sees how the locations' entries follow one another, and how many they are
pub ruleset location_laws = (entries-append, count_locations)

pub length-entries : (base : ℕ) (l : DataLengths) → length (entries (locations base l)) ≡ entries_len l
unfolding locations
length-entries base l = simp (entries-append, length-append, length-located)

pub length-iloc : (base : ℕ) (l : DataLengths) → length (iloc (locations base l)) ≡ iloc_len l
unfolding iloc iloc_body
length-iloc base l = simp (length-boxed, length-append, length-full_box_header, length-be, length-entries)

pub for_most : (len n : ℕ) → for_bytes len n ≤ n
for_most len n = cond_most (eqb len 0) n n (omega arith)

pub iloc_most : (l : DataLengths) → iloc_len l ≤ 112
iloc_most l =
    omega (arith, for_most l.main 16, for_most l.alpha 16, for_most l.tone_map 16, for_most l.gain_map 16, for_most l.exif 16, for_most l.xmp 16)

-- ---- a property of each item's location is one of all of them
pub every_append : {P : Location → Type 0} {xs ys : List Location} → Every P xs → Every P ys → Every P (xs ++ ys)
every_append none k = k
every_append (next p h) k = next p (every_append h k)

every_if : {P : Location → Type 0} (b : Bool) (l : Location) → P l → Every P (cond b [] (l ∷ []))
every_if true l p = none
every_if false l p = next p none

pub every_located : {P : Location → Type 0} (id off len : ℕ) → P (record { id = id; off = off; len = len }) → Every P (located id off len)
every_located id off len p = every_if (eqb len 0) _ p
