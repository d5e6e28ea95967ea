-- Which items a file has, read from the bodies of 'iinf' and 'iref' (ISO/IEC 14496-12, 8.11.6 and 8.11.12).
use Rattle.std.specs.Prelude.{Bool, true, ◌&&◌, ◌||◌, List, [], ◌∷◌, ◌++◌, map, ℕ, eqb, drop}
use Rattle.std.specs.List.{list_any}
use Rattle.bits.specs.Format.{is_list}
use Rattle.octets.specs.BigEndian.{num}
use Rattle.boxes.specs.BoxesIn.{boxes_in, has_box}
use Rattle.boxes.specs.Walk.{Box}
use Rattle.items.specs.ItemInfo.{exif_type, content_type, content_encoding}
use Rattle.items.specs.declared.ItemSet.{ItemSet}
use Rattle.mini.specs.ItemKind.{ALPHA, TMAP, GAIN_MAP, EXIF, XMP}

-- ---- the entries of 'iinf': number, type, and what follows the empty name
pub record Entry : Type 0 where
  pub id : ℕ
  pub type : ℕ
  pub more : List ℕ

abbrev pub entry_of : Box → Entry
entry_of b = record { id = num 2 b.body 4; type = num 4 b.body 8; more = drop 13 b.body }

unfoldable pub entries_in : List ℕ → List Entry
entries_in info = map entry_of (boxes_in info 6)

abbrev pub first_type : List Entry → ℕ
first_type [] = 0
first_type (e ∷ es) = e.type

abbrev pub numbered : ℕ → Entry → Bool
numbered id e = eqb e.id id

-- compressed: Exif by its type 'dExf', XMP by its content encoding
abbrev pub compressed : Entry → Bool
compressed e = (eqb e.id EXIF && eqb e.type (exif_type true)) || (eqb e.id XMP && is_list e.more (content_type ++ content_encoding true))

-- ---- the items; alpha is premultiplied where 'iref' has a 'prem'
abbrev pub PREM : ℕ
PREM = 0x7072656D

unfoldable pub items_in : (info refs : List ℕ) → ItemSet
items_in info refs =
    let es = entries_in info in
    record {
      item_type = first_type es;
      alpha = list_any (numbered ALPHA) es;
      premultiplied = has_box PREM (boxes_in refs 4);
      tone_map = list_any (numbered TMAP) es;
      gain_map = list_any (numbered GAIN_MAP) es;
      exif = list_any (numbered EXIF) es;
      xmp = list_any (numbered XMP) es;
      compressed = list_any compressed es;
    }
