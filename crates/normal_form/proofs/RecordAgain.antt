-- What is read from what a file carries of a record is the record's normal form, positions aside, with its chunks.
use Rattle.std.specs.Prelude.{◌≡◌, ◌||◌, List, [], ◌∷◌, ℕ, Some, is_some, length}
use Rattle.std.proofs.Common.{ap, ◌∙◌}
use Rattle.mini.specs.Cicp.{table_cicp, cicp_of}
use Rattle.mini.specs.NoPayloadGives.{Lawful, lawful}
use Rattle.mini.specs.Same.{chunk_bytes, span_bytes, unplaced_span, unplaced, chunks_of}
use Rattle.mini.specs.declared.Cicp.{Cicp}
use Rattle.mini.specs.declared.MiniHdrBoxes.{MiniHdrBoxes}
use Rattle.mini.specs.declared.MinimizedImage.{MinimizedImage}
use Rattle.properties.specs.Orientation.{turns_of}
use Rattle.slots.specs.SlotLaws.{used_only}
use Rattle.slots.specs.Slots.{irot_slot, imir_slot, config_slot, main_slots, alpha_slots, orientation_slots, hdr_slots, gain_map_slots, tmap_slots}
use Rattle.slots.specs.Sound.{Sound, sound}
use Rattle.expander.specs.EquivalentFile.{item_set, item_bytes}
use Rattle.expander.specs.Expands.{Expands}
use Rattle.expander.specs.Placed.{DataPlaced, data_placed}
use Rattle.carried.specs.Carried.{carried}
use Rattle.carried.proofs.Found.{alpha_item}
use Rattle.normal_form.specs.NormalForm.{short_cicp, has_body, normal}
use Rattle.normal_form.specs.ReadProperties.{body_in, turn_in, span_of, orientation_of}
use Rattle.normal_form.specs.ReadRecord.{triple_in, record_in, chunks_in}
use Rattle.normal_form.proofs.PropertiesRead.{width_read, height_read, cicp_read, range_read, format_read, chroma_read, orientation_read}
use Rattle.normal_form.proofs.RecordConfigs.{alpha_config_again, gain_config_again, codec_types_again}
use Rattle.normal_form.proofs.RecordGainMap.{gain_map_again}
use Rattle.normal_form.proofs.RecordParts.{span_again, chunk_again, cicp_small, hdr_again, gain_chunks}
use Rattle.normal_form.proofs.ShortForms.{cicp_again}
use Rattle.normal_form.proofs.SlotsHdr.{hdr_read}
use Rattle.normal_form.proofs.SlotsRead.{irot_read, imir_read, profile_read, profile_placed, config_body}
use Rattle.normal_form.proofs.SlotsTable.{flat_carried, carried_is}
use Rattle.slots.specs.SlotLaws.{flat_slots}

module _ (i : MinimizedImage) (s brands : List ℕ) (x : Expands i s brands) where
  l : Lawful i
  l = lawful i x.can_write

  p : Sound i s
  p = sound i s x.placed x.can_write

  d : DataPlaced i s
  d = data_placed i s x.placed

  abbrev table : Cicp
  table = table_cicp (is_some i.icc) i.chroma.subsampling

  triple_again : triple_in (flat_slots i s) ≡ short_cicp i.explicit_cicp table
  unfolding main_slots alpha_slots orientation_slots hdr_slots gain_map_slots tmap_slots
  triple_again =
      let c = cicp_read (cicp_of i) i.full_range (cicp_small i.explicit_cicp (is_some i.icc) i.chroma.subsampling l.cicp) in
      let u = used_only (is_some i.icc) _ in
      let h = chroma_read i.format i.chroma l.subsampling l.main_centred in
      (λ j. short_cicp (Some (c j)) (table_cicp (u j) (h j).subsampling)) ∙ cicp_again i.explicit_cicp table

  main_again : span_of (length (body_in (config_slot i.explicit_codec_types i.main_codec_config s))) ≡ unplaced_span i.main_codec_config
  main_again = rw (config_body i.explicit_codec_types i.main_codec_config s) (span_again i.main_codec_config s p.main_config)

  orientation_again : let t = turns_of i.orientation in orientation_of (turn_in (irot_slot t.angle)) (turn_in (imir_slot t.axis)) ≡ i.orientation
  orientation_again = rw (irot_read, imir_read) (orientation_read i.orientation l.orientation)

  record_flat : record_in (flat_carried i s) ≡ unplaced (normal i s)
  unfolding record_in unplaced normal item_set item_bytes main_slots alpha_slots orientation_slots hdr_slots gain_map_slots tmap_slots
  record_flat =
      let b = hdr_read i.hdr_boxes l.boxes_bodies in
      let hdr = hdr_again i.hdr i.has_gain_map i.hdr_boxes l.gain_hdr l.boxes_hdr in
      λ j. record {
        explicit_codec_types = codec_types_again i s brands x j;
        format = format_read i.format i.chroma j;
        full_range = range_read (cicp_of i) i.full_range j;
        chroma = chroma_read i.format i.chroma l.subsampling l.main_centred j;
        orientation = orientation_again j;
        width = width_read i.width i.height l.width.1 j;
        height = height_read i.width i.height l.height.1 j;
        explicit_cicp = triple_again j;
        icc = profile_placed i.icc s p.icc_placed j;
        alpha = alpha_item i s brands x j;
        alpha_premultiplied = i.alpha_premultiplied;
        hdr = (ap (λ (h : MiniHdrBoxes). i.has_gain_map || has_body h) b ∙ hdr) j;
        hdr_boxes = b j;
        has_gain_map = i.has_gain_map;
        gain_map = gain_map_again i s brands x j;
        main_codec_config = main_again j;
        main_data = span_again i.main_data s d.main j;
        alpha_codec_config = (alpha_config_again i s brands x).0 j;
        alpha_data = span_again i.alpha_data s d.alpha j;
        exif_xmp_compressed = i.exif_xmp_compressed;
        exif = chunk_again i.exif s d.exif j;
        xmp = chunk_again i.xmp s d.xmp j;
      }

  pub record_again : record_in (carried i s) ≡ unplaced (normal i s)
  record_again = ap record_in (carried_is i s) ∙ record_flat

  chunks_flat : chunks_in (flat_carried i s) ≡ chunks_of (normal i s) s
  unfolding chunks_in chunks_of normal item_bytes main_slots alpha_slots orientation_slots hdr_slots gain_map_slots tmap_slots
  chunks_flat =
      let g = gain_chunks i s i.has_gain_map l.gain_blank in
      λ j. config_body i.explicit_codec_types i.main_codec_config s j
      ∷ (alpha_config_again i s brands x).1 j
      ∷ (gain_config_again i s brands x).1 j
      ∷ profile_read i.icc s j
      ∷ g.0 j
      ∷ g.1 j
      ∷ span_bytes i.alpha_data s
      ∷ g.2 j
      ∷ span_bytes i.main_data s
      ∷ chunk_bytes i.exif s
      ∷ chunk_bytes i.xmp s
      ∷ []

  pub chunks_again : chunks_in (carried i s) ≡ chunks_of (normal i s) s
  chunks_again = ap chunks_in (carried_is i s) ∙ chunks_flat
