-- The normal form of a record, positions aside, and its chunks, read from what a file carries.
use Rattle.std.specs.Prelude.{cond, ◌||◌, List, [], ◌∷◌, ℕ, ◌-◌, length, drop, get_or, Option, Some, None}
use Rattle.octets.specs.BigEndian.{num}
use Rattle.octets.specs.declared.Span.{Span}
use Rattle.mini.specs.Blank.{blank_gain_map}
use Rattle.mini.specs.Chunks.{chunk_if}
use Rattle.mini.specs.Cicp.{table_cicp}
use Rattle.mini.specs.declared.Cicp.{Cicp}
use Rattle.mini.specs.declared.MiniGainMap.{MiniGainMap}
use Rattle.mini.specs.declared.MiniHdrBoxes.{MiniHdrBoxes}
use Rattle.mini.specs.declared.MinimizedImage.{MinimizedImage}
use Rattle.mini.specs.declared.TmapCicp.{TmapCicp}
use Rattle.slots.specs.Slots.{Slot, is_used}
use Rattle.carried.specs.Carried.{Carried}
use Rattle.normal_form.specs.NormalForm.{short_cicp, has_body, short_tmap_cicp, plain_own}
use Rattle.normal_form.specs.ReadProperties.{slot_at, body_in, type_in, body_at, span_of, format_in, chroma_in, cicp_in, range_in, profile_bytes, profile_in, config_bytes, config_in, turn_in, orientation_of, hdr_in}

-- ---- parts of the record
-- the configurations' type: that of slot 1, else 6, else 17
abbrev pub config_type_in : List Slot → ℕ
config_type_in l =
    cond (is_used (slot_at 1 l)) (type_in (slot_at 1 l))
    (cond (is_used (slot_at 6 l)) (type_in (slot_at 6 l)) (cond (is_used (slot_at 17 l)) (type_in (slot_at 17 l)) 0))

abbrev pub triple_in : List Slot → Option Cicp
triple_in l =
    short_cicp (Some (cicp_in (body_at 4 l))) (table_cicp (is_used (slot_at 5 l)) (chroma_in (body_at 3 l)).subsampling)

-- a tone map's colours, beside its profile
abbrev pub tone_in : Slot → Option Span → Option TmapCicp
tone_in x icc =
    cond (is_used x) (short_tmap_cicp (Some (record { cicp = cicp_in (body_in x); full_range = range_in (body_in x) })) icc) None

abbrev pub main_hdr_in : List Slot → MiniHdrBoxes
main_hdr_in l = hdr_in (slot_at 11 l) (slot_at 12 l) (slot_at 13 l) (slot_at 14 l) (slot_at 15 l) (slot_at 16 l)

abbrev pub tmap_hdr_in : List Slot → MiniHdrBoxes
tmap_hdr_in l = hdr_in (slot_at 24 l) (slot_at 25 l) (slot_at 26 l) (slot_at 27 l) (slot_at 28 l) (slot_at 29 l)

-- the main picture's size
abbrev pub width_in : List ℕ → ℕ
width_in ispe = num 4 ispe 4

abbrev pub height_in : List ℕ → ℕ
height_in ispe = num 4 ispe 8

-- a gain map's own size, matrix, range, chroma and format, where it has an item
abbrev pub own_fields_in : Carried → MiniGainMap
own_fields_in c =
    let l = c.slots in
    cond c.items.gain_map
    (record blank_gain_map {
      width = width_in (body_at 18 l);
      height = height_in (body_at 18 l);
      matrix_coefficients = get_or (body_at 20 l) 9 0;
      full_range = range_in (body_at 20 l);
      chroma = chroma_in (body_at 19 l);
      format = format_in (body_at 19 l);
    })
    (plain_own (width_in (body_at 2 l)) (height_in (body_at 2 l)))

-- the metadata follows the tone map's first byte
unfoldable pub gain_map_in : Carried → MiniGainMap
gain_map_in c =
    let l = c.slots in
    record (own_fields_in c) {
      tmap_cicp = tone_in (slot_at 22 l) (profile_in (slot_at 23 l));
      tmap_icc = profile_in (slot_at 23 l);
      tmap_hdr = tmap_hdr_in l;
      metadata = span_of (length c.bytes.tone_map - 1);
      codec_config = config_in (slot_at 17 l) (body_at 1 l);
      «data» = span_of (length c.bytes.gain_map);
    }

-- ---- the record
unfoldable pub record_in : Carried → MinimizedImage
record_in c =
    let t = c.items in
    let l = c.slots in
    let b = c.bytes in
    record {
      explicit_codec_types = Some (record { infe_type = t.item_type; codec_config_type = config_type_in l });
      format = format_in (body_at 3 l);
      full_range = range_in (body_at 4 l);
      chroma = chroma_in (body_at 3 l);
      orientation = orientation_of (turn_in (slot_at 9 l)) (turn_in (slot_at 10 l));
      width = width_in (body_at 2 l);
      height = height_in (body_at 2 l);
      explicit_cicp = triple_in l;
      icc = profile_in (slot_at 5 l);
      alpha = t.alpha;
      alpha_premultiplied = t.premultiplied;
      hdr = t.tone_map || has_body (main_hdr_in l);
      hdr_boxes = main_hdr_in l;
      has_gain_map = t.tone_map;
      gain_map = cond t.tone_map (gain_map_in c) blank_gain_map;
      main_codec_config = span_of (length (body_at 1 l));
      main_data = span_of (length b.main);
      alpha_codec_config = config_in (slot_at 6 l) (body_at 1 l);
      alpha_data = span_of (length b.alpha);
      exif_xmp_compressed = t.compressed;
      exif = chunk_if t.exif (span_of (length b.exif));
      xmp = chunk_if t.xmp (span_of (length b.xmp));
    }

-- ---- and its chunks, in stored order
unfoldable pub chunks_in : Carried → List (List ℕ)
chunks_in c =
    let l = c.slots in
    let b = c.bytes in
    body_at 1 l
    ∷ config_bytes (slot_at 6 l) (body_at 1 l)
    ∷ config_bytes (slot_at 17 l) (body_at 1 l)
    ∷ profile_bytes (slot_at 5 l)
    ∷ profile_bytes (slot_at 23 l)
    ∷ drop 1 b.tone_map
    ∷ b.alpha
    ∷ b.gain_map
    ∷ b.main
    ∷ b.exif
    ∷ b.xmp
    ∷ []
