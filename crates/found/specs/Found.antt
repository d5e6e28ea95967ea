-- The record found in a file (document 02, 3): the normal form that is read from what the file carries, with its chunks where the file holds
-- their bytes, and empty ones at 0. Of any bytes: whether it expands to the file is another question (Expansion.antt).
use Rattle.std.specs.Prelude.{cond, List, ℕ, ◌+◌, eqb, Option, option_map}
use Rattle.mini.specs.ItemKind.{MAIN, ALPHA, TMAP, GAIN_MAP, EXIF, XMP}
use Rattle.mini.specs.declared.MinimizedImage.{MinimizedImage}
use Rattle.octets.specs.declared.Span.{Span}
use Rattle.carried.specs.ReadFile.{carried_in}
use Rattle.normal_form.specs.ReadRecord.{record_in}
use Rattle.found.specs.Places.{slot_place, item_place}

abbrev pub placed_span : ℕ → Span → Span
placed_span place x = record x { at = cond (eqb x.len 0) 0 place }

abbrev pub placed_chunk : ℕ → Option Span → Option Span
placed_chunk place c = option_map (placed_span place) c

-- an ICC profile follows the four bytes of its type 'prof', and the gain map's metadata the first byte of the tone map's item
unfoldable pub found_record : List ℕ → MinimizedImage
found_record f =
    let r = record_in (carried_in f) in
    record r {
      main_codec_config = placed_span (slot_place f 1) r.main_codec_config;
      alpha_codec_config = placed_chunk (slot_place f 6) r.alpha_codec_config;
      gain_map =
          record (r.gain_map) {
            codec_config = placed_chunk (slot_place f 17) r.gain_map.codec_config;
            tmap_icc = placed_chunk (slot_place f 23 + 4) r.gain_map.tmap_icc;
            metadata = placed_span (item_place f TMAP + 1) r.gain_map.metadata;
            «data» = placed_span (item_place f GAIN_MAP) r.gain_map.«data»;
          };
      icc = placed_chunk (slot_place f 5 + 4) r.icc;
      alpha_data = placed_span (item_place f ALPHA) r.alpha_data;
      main_data = placed_span (item_place f MAIN) r.main_data;
      exif = placed_chunk (item_place f EXIF) r.exif;
      xmp = placed_chunk (item_place f XMP) r.xmp;
    }
