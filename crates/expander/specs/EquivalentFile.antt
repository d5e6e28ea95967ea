-- The equivalent file (ISO/IEC 23008-12, O.4; document 01, 'The equivalent file'; mini.rs, `equivalent_file`): ftyp, meta, mdat.
use Rattle.std.specs.Prelude.{List, [], ◌∷◌, ◌++◌, ℕ, ◌+◌, Option, Some, None, is_some}
use Rattle.boxes.specs.Boxed.{boxed, full_box_header}
use Rattle.ftyp.specs.FileType.{ftyp, ftyp_len}
use Rattle.items.specs.HandlerAndPrimary.{hdlr, hdlr_len, pitm, pitm_len}
use Rattle.items.specs.ItemBytes.{ItemBytes, item_data}
use Rattle.items.specs.ItemGroup.{grpl, grpl_len}
use Rattle.items.specs.ItemInfo.{iinf, iinf_len}
use Rattle.items.specs.ItemLocations.{iloc, locations, iloc_len, data_len}
use Rattle.items.specs.ItemReferences.{iref, iref_len}
use Rattle.items.specs.Optional.{bytes_if, len_if}
use Rattle.items.specs.declared.DataLengths.{DataLengths}
use Rattle.items.specs.declared.ItemSet.{ItemSet}
use Rattle.mini.specs.Same.{chunk_len, chunk_bytes, span_bytes}
use Rattle.mini.specs.declared.CodecTypes.{CodecTypes}
use Rattle.mini.specs.declared.MinimizedImage.{MinimizedImage}
use Rattle.slots.specs.Associations.{iprp}
use Rattle.slots.specs.Lengths.{iprp_len}
use Rattle.slots.specs.Slots.{has_alpha_item, has_gain_map_item}

-- the type of coded items; expanding is refused where there is none (14)
abbrev pub item_type : Option CodecTypes → ℕ
item_type None = 0
item_type (Some types) = types.infe_type

-- ---- the items
unfoldable pub item_set : MinimizedImage → ItemSet
item_set i =
    record {
      item_type = item_type i.explicit_codec_types;
      alpha = has_alpha_item i;
      premultiplied = i.alpha_premultiplied;
      tone_map = i.has_gain_map;
      gain_map = has_gain_map_item i;
      exif = is_some i.exif;
      xmp = is_some i.xmp;
      compressed = i.exif_xmp_compressed;
    }

-- an item's own bytes; the tone map's are one zero byte and the gain map's metadata
unfoldable pub item_bytes : MinimizedImage → List ℕ → ItemBytes
item_bytes i s =
    record {
      alpha = span_bytes i.alpha_data s;
      tone_map = bytes_if i.has_gain_map ((0 ∷ []) ++ span_bytes i.gain_map.metadata s);
      gain_map = bytes_if i.has_gain_map (span_bytes i.gain_map.«data» s);
      main = span_bytes i.main_data s;
      exif = chunk_bytes i.exif s;
      xmp = chunk_bytes i.xmp s;
    }

-- how many they are, from the record alone
unfoldable pub data_lengths : MinimizedImage → DataLengths
data_lengths i =
    record {
      alpha = i.alpha_data.len;
      tone_map = len_if i.has_gain_map (1 + i.gain_map.metadata.len);
      gain_map = len_if i.has_gain_map i.gain_map.«data».len;
      main = i.main_data.len;
      exif = chunk_len i.exif;
      xmp = chunk_len i.xmp;
    }

-- ---- meta: what the items are, their properties, their group, and where their bytes lie, from `base` on
unfoldable pub item_boxes : ItemSet → List ℕ
item_boxes t = hdlr ++ pitm ++ iinf t ++ iref t

unfoldable pub meta_body : MinimizedImage → List ℕ → ℕ → List ℕ
meta_body i s base =
    full_box_header 0 0 ++ item_boxes (item_set i) ++ iprp i s ++ grpl (item_set i) ++ iloc (locations base (data_lengths i))

unfoldable pub meta : MinimizedImage → List ℕ → ℕ → List ℕ
meta i s base = boxed 0x6D657461 (meta_body i s base)

-- ---- mdat: the items' bytes, one item after another
unfoldable pub mdat : MinimizedImage → List ℕ → List ℕ
mdat i s = boxed 0x6D646174 (item_data (item_bytes i s))

-- ---- lengths, from the record and the file type alone
abbrev pub item_boxes_len : ItemSet → ℕ
item_boxes_len t = hdlr_len + pitm_len + iinf_len t + iref_len t

abbrev pub meta_body_len : MinimizedImage → ℕ
meta_body_len i = 4 + item_boxes_len (item_set i) + iprp_len i + grpl_len (item_set i) + iloc_len (data_lengths i)

-- where mdat's content begins: after ftyp, meta and mdat's header
abbrev pub content_start : MinimizedImage → (major minor : ℕ) → (brands : List ℕ) → ℕ
content_start i major minor brands = ftyp_len major minor i.has_gain_map brands + (8 + meta_body_len i) + 8

abbrev pub file_len : MinimizedImage → (major minor : ℕ) → (brands : List ℕ) → ℕ
file_len i major minor brands = ftyp_len major minor i.has_gain_map brands + (8 + meta_body_len i) + (8 + data_len (data_lengths i))

-- ---- the file, for an original file type of a major brand, a minor version and compatible brands
unfoldable pub file : MinimizedImage → List ℕ → (major minor : ℕ) → (brands : List ℕ) → List ℕ
file i s major minor brands =
    ftyp major minor i.has_gain_map brands ++ meta i s (content_start i major minor brands) ++ mdat i s
