-- The record found, from what is held of the file.
use Rattle.std.specs.Prelude.{◌≡◌, true, ◌||◌, List, ℕ, ◌+◌, ◌-◌, length, Some}
use Rattle.std.proofs.Common.{sym, ap, ◌∙◌}
use Rattle.mini.specs.Chunks.{chunk_if}
use Rattle.octets.specs.Part.{part_of}
use Rattle.carried.specs.ReadFile.{ipco_in, slots_in, item_bytes_in, carried_in}
use Rattle.normal_form.specs.NormalForm.{has_body}
use Rattle.normal_form.specs.ReadProperties.{slot_at, body_at, span_of, format_in, chroma_in, range_in, profile_in, config_in, turn_in, orientation_of}
use Rattle.normal_form.specs.ReadRecord.{config_type_in, triple_in, tone_in, main_hdr_in, tmap_hdr_in, width_in, height_in, own_fields_in, gain_map_in, record_in}
use Rattle.found.specs.Found.{placed_span, placed_chunk, found_record}
use Rattle.found.specs.Places.{slot_header, slot_place}
use Rattle.find_record.specs.Holds.{Holds}
use Rattle.find_record.specs.declared.held.Held.{Held}

module _ (f : List ℕ) (h : Held) (holds : Holds f h) (x : List ℕ) (e : x ≡ part_of f h.ipco.at h.ipco.len) where
  body : x ≡ ipco_in f
  body = e ∙ holds.ipco.bytes

  pub gain_map_parts : h.items.tone_map ≡ true
      → let l = slots_in x in
      (found_record f).gain_map
      ≡ record (own_fields_in (record { items = h.items; slots = l; bytes = item_bytes_in f })) {
        tmap_cicp = tone_in (slot_at 22 l) (profile_in (slot_at 23 l));
        tmap_icc = placed_chunk (h.ipco.at + (slot_header x 23).payload_start + 4) (profile_in (slot_at 23 l));
        tmap_hdr = tmap_hdr_in l;
        metadata = placed_span (h.tone_map.at + 1) (span_of (h.tone_map.len - 1));
        codec_config = placed_chunk (h.ipco.at + (slot_header x 17).payload_start) (config_in (slot_at 17 l) (body_at 1 l));
        «data» = placed_span h.gain_map.at (span_of h.gain_map.len);
      }
  unfolding found_record slot_place record_in gain_map_in carried_in item_bytes_in
  gain_map_parts there =
      let t : (carried_in f).items.tone_map ≡ true = ap (λ i. i.tone_map) (sym holds.items) ∙ there in
      rw (body, holds.ipco.place, holds.items, holds.tone_map.place, holds.tone_map.len, holds.gain_map.place, holds.gain_map.len, t)

  pub record_parts : let l = slots_in x in
      found_record f
      ≡ record {
        explicit_codec_types = Some (record { infe_type = h.items.item_type; codec_config_type = config_type_in l });
        format = format_in (body_at 3 l);
        full_range = range_in (body_at 4 l);
        chroma = chroma_in (body_at 3 l);
        orientation = orientation_of (turn_in (slot_at 9 l)) (turn_in (slot_at 10 l));
        width = width_in (body_at 2 l);
        height = height_in (body_at 2 l);
        explicit_cicp = triple_in l;
        icc = placed_chunk (h.ipco.at + (slot_header x 5).payload_start + 4) (profile_in (slot_at 5 l));
        alpha = h.items.alpha;
        alpha_premultiplied = h.items.premultiplied;
        hdr = h.items.tone_map || has_body (main_hdr_in l);
        hdr_boxes = main_hdr_in l;
        has_gain_map = h.items.tone_map;
        gain_map = (found_record f).gain_map;
        main_codec_config = placed_span (h.ipco.at + (slot_header x 1).payload_start) (span_of (length (body_at 1 l)));
        main_data = placed_span h.main.at (span_of h.main.len);
        alpha_codec_config = placed_chunk (h.ipco.at + (slot_header x 6).payload_start) (config_in (slot_at 6 l) (body_at 1 l));
        alpha_data = placed_span h.alpha.at (span_of h.alpha.len);
        exif_xmp_compressed = h.items.compressed;
        exif = placed_chunk h.exif.at (chunk_if h.items.exif (span_of h.exif.len));
        xmp = placed_chunk h.xmp.at (chunk_if h.items.xmp (span_of h.xmp.len));
      }
  unfolding found_record slot_place record_in carried_in item_bytes_in
  record_parts =
      rw
      (body, holds.ipco.place, holds.items, holds.main.place, holds.main.len, holds.alpha.place, holds.alpha.len, holds.exif.place, holds.exif.len, holds.xmp.place, holds.xmp.len)
