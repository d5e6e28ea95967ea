-- The locations read out of the bytes of an 'iloc' box's body are those that were written (ISO/IEC 14496-12, 8.11.3; document 01, 'The equivalent
-- file').
use Rattle.std.specs.Prelude.{◌≡◌, refl, List, [], ◌∷◌, ◌++◌, ℕ, zero, suc, ◌+◌, ◌≤◌, ◌<◌, ◌^◌, length, drop}
use Rattle.std.proofs.Common.{ap, ◌∙◌, append_assoc, arith, length-append, drop_at, lit<}
use Rattle.octets.specs.BigEndian.{be, num}
use Rattle.octets.specs.BigEndianLaws.{length-be, field_at}
use Rattle.boxes.specs.Boxed.{full_box_header, length-full_box_header}
use Rattle.mini.specs.ItemKind.{MAIN, ALPHA, TMAP, GAIN_MAP, EXIF, XMP}
use Rattle.items.specs.declared.DataLengths.{DataLengths}
use Rattle.items.specs.ItemLocations.{Location, entry, entries, iloc_body, Every, none, next, located, locations, data_len, for_most, count_locations, every_append, every_located}

-- n entries of version 1 with offsets and lengths of four bytes: item_ID at 0, extent_offset at 8, extent_length at 12, the next entry at 16
abbrev pub read_entries : ℕ → List ℕ → List Location
read_entries zero s = []
read_entries (suc n) s = record { id = num 2 s 0; off = num 4 s 8; len = num 4 s 12 } ∷ read_entries n (drop 16 s)

-- item_count at 6, the entries from 8 on
unfoldable pub read_locations : List ℕ → List Location
read_locations s = read_entries (num 2 s 6) (drop 8 s)

-- numbers that their fields hold
abbrev pub Fits : Location → Type 0
Fits l = (l.id < 65536) × (l.off < 4294967296) × (l.len < 4294967296)

entry_read : (l : Location) (n : ℕ) (rest : List ℕ) → Fits l → read_entries (suc n) (entry l ++ rest) ≡ l ∷ read_entries n rest
unfolding entry
entry_read l n rest h =
    let p8 = be 2 l.id ++ be 2 0 ++ be 2 0 ++ be 2 1 in
    let e1 : num 2 (entry l ++ rest) 0 ≡ l.id =
    simp append_assoc (field_at 2 l.id [] (be 2 0 ++ (be 2 0 ++ (be 2 1 ++ (be 4 l.off ++ (be 4 l.len ++ rest))))) 0 refl h.0) in
    let e2 : num 4 (entry l ++ rest) 8 ≡ l.off =
    simp append_assoc (simp append_assoc at (field_at 4 l.off p8 (be 4 l.len ++ rest) 8 (simp (length-append, length-be)) h.1)) in
    let e3 : num 4 (entry l ++ rest) 12 ≡ l.len =
    simp append_assoc (simp append_assoc at (field_at 4 l.len (p8 ++ be 4 l.off) rest 12 (simp (length-append, length-be)) h.2)) in
    let e4 : drop 16 (entry l ++ rest) ≡ rest =
    drop_at (entry l) rest 16 (simp (length-append, length-be)) in
    rw (e1, e2, e3, e4)

entries_read : (ls : List Location) → Every Fits ls → read_entries (length ls) (entries ls) ≡ ls
entries_read [] none = refl
entries_read (l ∷ ls) (next p h) = entry_read l (length ls) (entries ls) p ∙ ap (λ (t : List Location). l ∷ t) (entries_read ls h)

-- every list of locations whose numbers fit is read back
pub locations_read : (ls : List Location) → length ls ≤ 65535 → Every Fits ls → read_locations (iloc_body ls) ≡ ls
unfolding read_locations iloc_body
locations_read ls few h =
    let pre = full_box_header 1 0 ++ be 2 0x4400 in
    let c : length ls < 256 ^ 2 = omega arith in
    let count : num 2 (iloc_body ls) 6 ≡ length ls =
    simp append_assoc (simp append_assoc at (field_at 2 (length ls) pre (entries ls) 6 (simp (length-append, length-be, length-full_box_header)) c)) in
    let rest : drop 8 (iloc_body ls) ≡ entries ls =
    drop_at (pre ++ be 2 (length ls)) (entries ls) 8 (simp (length-append, length-be, length-full_box_header)) in
    rw (count, rest) (entries_read ls h)

-- ---- the items' locations are such a list
fits-located : (id off len : ℕ) → id < 65536 → off + len < 4294967296 → Every Fits (located id off len)
fits-located id off len i h = every_located id off len (i, omega arith, omega arith)

locations_fit : (base : ℕ) (l : DataLengths) → base + data_len l < 4294967296 → Every Fits (locations base l)
unfolding locations
locations_fit base l h =
    let tone_map = base + l.alpha in
    let gain_map = tone_map + l.tone_map in
    let main = gain_map + l.gain_map in
    let exif = main + l.main in
    let xmp = exif + l.exif in
    let lm = fits-located MAIN main l.main (lit< tt) (omega arith) in
    let la = fits-located ALPHA base l.alpha (lit< tt) (omega arith) in
    let lt = fits-located TMAP tone_map l.tone_map (lit< tt) (omega arith) in
    let lg = fits-located GAIN_MAP gain_map l.gain_map (lit< tt) (omega arith) in
    let le = fits-located EXIF exif l.exif (lit< tt) (omega arith) in
    let lx = fits-located XMP xmp l.xmp (lit< tt) (omega arith) in
    every_append (every_append (every_append (every_append (every_append lm la) lt) lg) le) lx

locations_few : (base : ℕ) (l : DataLengths) → length (locations base l) ≤ 6
locations_few base l =
    rw (count_locations base l) (omega (arith, for_most l.main 1, for_most l.alpha 1, for_most l.tone_map 1, for_most l.gain_map 1, for_most l.exif 1, for_most l.xmp 1))

pub iloc_read : (base : ℕ) (l : DataLengths) → base + data_len l < 4294967296 → read_locations (iloc_body (locations base l)) ≡ locations base l
iloc_read base l h = locations_read (locations base l) (omega (arith, locations_few base l)) (locations_fit base l h)
