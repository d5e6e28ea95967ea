-- The entries of 'iinf' are found again by walking its boxes.
use Rattle.std.specs.Prelude.{◌≡◌, refl, Bool, true, false, cond, List, [], ◌∷◌, ◌++◌, map, ℕ, ◌<◌, length, drop}
use Rattle.std.proofs.Common.{append_assoc, append-nil, arith, lit<, length-append, drop_at}
use Rattle.std.proofs.lemmas.List.{map-append}
use Rattle.octets.specs.BigEndian.{be, num}
use Rattle.octets.specs.BigEndianLaws.{length-be, field_at}
use Rattle.boxes.specs.Boxed.{full_box_header, length-boxed, length-full_box_header}
use Rattle.boxes.specs.BoxesIn.{boxes_in, boxes_again}
use Rattle.boxes.specs.Walk.{Box, joined, next, box_if, all_append, all_if, joined-append, joined_if}
use Rattle.items.specs.ItemInfo.{SHOWN, HIDDEN, infe_fields, infe, exif_type, content_type, content_encoding, mime_fields, mime, infe_entries, iinf_body, iinf, joined-entries, iinf_most, length-iinf}
use Rattle.items.specs.declared.ItemSet.{ItemSet}
use Rattle.mini.specs.ItemKind.{MAIN, ALPHA, TMAP, GAIN_MAP, EXIF, XMP}
use Rattle.expander.specs.EveryByte.{box}
use Rattle.carried.specs.ReadItems.{Entry, entry_of, entries_in}

-- ---- the entries of 'iinf' as boxes
abbrev infe_box : List ℕ → Box
infe_box body = box 0x696E6665 body

abbrev infe_boxes : ItemSet → List Box
infe_boxes t =
    infe_box (infe_fields MAIN SHOWN t.item_type)
    ∷ (box_if t.alpha (infe_box (infe_fields ALPHA HIDDEN t.item_type))
    ++ (box_if t.tone_map (infe_box (infe_fields TMAP SHOWN 0x746D6170))
    ++ (box_if t.gain_map (infe_box (infe_fields GAIN_MAP HIDDEN t.item_type))
    ++ (box_if t.exif (infe_box (infe_fields EXIF HIDDEN (exif_type t.compressed))) ++ box_if t.xmp (infe_box (mime_fields t.compressed))))))

info_is : (t : ItemSet) → iinf_body t ≡ (full_box_header 0 0 ++ be 2 (length (infe_entries t))) ++ joined (infe_boxes t)
unfolding iinf_body infe mime
info_is t = rw (joined-entries t) (simp (joined-append, joined_if, append_assoc))

info_read : (t : ItemSet) → boxes_in (iinf_body t) 6 ≡ infe_boxes t
unfolding iinf
info_read t =
    boxes_again (full_box_header 0 0 ++ be 2 (length (infe_entries t))) (infe_boxes t) 6 (info_is t) (simp (length-append, length-be, length-full_box_header))
    (omega (arith, length-iinf t, length-boxed 0x69696E66 (iinf_body t), iinf_most t)) (next refl (search (all_append, all_if)))

-- ---- one entry
abbrev pub infe_entry : ℕ → ℕ → List ℕ → Entry
infe_entry id type more = record { id = id; type = type; more = more }

entry_read : (id flags type : ℕ) (more : List ℕ) → id < 65536 → type < 4294967296 → entry_of (infe_box (infe_fields id flags type ++ more)) ≡ infe_entry id type more
unfolding infe_fields
entry_read id flags type more small code =
    let pre = full_box_header 2 flags in
    let b = infe_fields id flags type ++ more in
    let i : num 2 b 4 ≡ id = simp append_assoc (field_at 2 id pre (be 2 0 ++ (be 4 type ++ ((0 ∷ []) ++ more))) 4 (length-full_box_header 2 flags) small) in
    let t : num 4 b 8 ≡ type =
    simp append_assoc
    (simp append_assoc at (field_at 4 type (pre ++ be 2 id ++ be 2 0) ((0 ∷ []) ++ more) 8 (simp (length-append, length-be, length-full_box_header)) code)) in
    let m : drop 13 b ≡ more = drop_at (infe_fields id flags type) more 13 (simp (length-append, length-be, length-full_box_header)) in
    λ j. record { id = i j; type = t j; more = m j }

plain_read : (id flags type : ℕ) → id < 65536 → type < 4294967296 → entry_of (infe_box (infe_fields id flags type)) ≡ infe_entry id type []
plain_read id flags type h k = rw append-nil at (entry_read id flags type [] h k)

-- ---- all entries
abbrev pub infe_entry_if : Bool → Entry → List Entry
infe_entry_if on e = cond on (e ∷ []) []

abbrev pub infe_list : ItemSet → List Entry
infe_list t =
    infe_entry MAIN t.item_type []
    ∷ (infe_entry_if t.alpha (infe_entry ALPHA t.item_type [])
    ++ (infe_entry_if t.tone_map (infe_entry TMAP 0x746D6170 [])
    ++ (infe_entry_if t.gain_map (infe_entry GAIN_MAP t.item_type [])
    ++ (infe_entry_if t.exif (infe_entry EXIF (exif_type t.compressed) [])
    ++ infe_entry_if t.xmp (infe_entry XMP 0x6D696D65 (content_type ++ content_encoding t.compressed))))))

map_if : (on : Bool) (b : Box) → map entry_of (box_if on b) ≡ infe_entry_if on (entry_of b)
map_if true b = refl
map_if false b = refl

exif_code : (c : Bool) → exif_type c < 4294967296
exif_code true = lit< tt
exif_code false = lit< tt

pub entries_read : (t : ItemSet) → t.item_type < 4294967296 → entries_in (iinf_body t) ≡ infe_list t
unfolding entries_in mime_fields
entries_read t h =
    let m = plain_read MAIN SHOWN t.item_type (lit< tt) h in
    let a = plain_read ALPHA HIDDEN t.item_type (lit< tt) h in
    let o = plain_read TMAP SHOWN 0x746D6170 (lit< tt) (lit< tt) in
    let g = plain_read GAIN_MAP HIDDEN t.item_type (lit< tt) h in
    let e = plain_read EXIF HIDDEN (exif_type t.compressed) (lit< tt) (exif_code t.compressed) in
    let x : entry_of (infe_box (mime_fields t.compressed)) ≡ infe_entry XMP 0x6D696D65 (content_type ++ content_encoding t.compressed) =
    rw append_assoc (entry_read XMP HIDDEN 0x6D696D65 (content_type ++ content_encoding t.compressed) (lit< tt) (lit< tt)) in
    rw (info_read t)
    (simp (map-append, map_if)
    (λ j.
    m j
    ∷ (infe_entry_if t.alpha (a j)
    ++ (infe_entry_if t.tone_map (o j) ++ (infe_entry_if t.gain_map (g j) ++ (infe_entry_if t.exif (e j) ++ infe_entry_if t.xmp (x j)))))))
