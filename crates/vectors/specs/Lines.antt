-- Document 01's lines marked P, those of 'src/mini.rs, reading', 'writing' and 'expanding', as one table proved by one statement over the
-- definitions that the contracts cite.
use Rattle.std.specs.Prelude.{◌≡◌, refl, false, cond, List, [], ◌∷◌, ◌++◌, map, ℕ, eqb, length, take, drop, replicate, None}
use Rattle.std.proofs.Common.{ap, ap₂, ◌∙◌, arith}
use Rattle.octets.specs.BigEndian.{be, num}
use Rattle.octets.specs.Overwrite.{overwrite}
use Rattle.octets.specs.Part.{part_of}
use Rattle.boxes.specs.Boxed.{box_header, boxed, full_box_header}
use Rattle.boxes.specs.Header.{typed_at, header_at}
use Rattle.boxes.specs.Size.{bounded, size_at}
use Rattle.boxes.specs.Walk.{walk}
use Rattle.ftyp.specs.FileType.{MIF3, allowed, has_brand, renamed, major_of, brands_of, ftyp_body, ftyp}
use Rattle.items.specs.HandlerAndPrimary.{hdlr_body, hdlr, pitm_body, pitm}
use Rattle.items.specs.ItemBytes.{item_data}
use Rattle.items.specs.ItemInfo.{infe, infe_fields, infe_entries, iinf_body, iinf}
use Rattle.items.specs.ItemLocations.{Location, entry, iloc_body, iloc, locations, data_len}
use Rattle.items.specs.ItemReferences.{references, iref_body, iref_box, iref}
use Rattle.items.specs.ReadLocations.{read_locations}
use Rattle.properties.specs.Orientation.{turn_table, turns_of}
use Rattle.properties.specs.Pixi.{channel_bytes, pixi_body, pixi}
use Rattle.properties.specs.Property.{full_box, ispe_body, ispe, nclx_body, nclx}
use Rattle.slots.specs.Associations.{main_row, alpha_row, tmap_row, gain_map_row, kept, row, ipma_body, ipma_with, ipma, iprp}
use Rattle.slots.specs.Slots.{free, main_slots, alpha_slots, orientation_slots, hdr_slots, gain_map_slots, tmap_slots, picture_slots, tone_map_slots, slots, slots_bytes, ipco}
use Rattle.expander.specs.EquivalentFile.{item_set, item_bytes, data_lengths, item_boxes, meta_body, meta, mdat, content_start, file}
use Rattle.expander.specs.EveryByte.{locations_found}
use Rattle.expander.specs.Expands as expanding-laws
use Rattle.expander.specs.FileLength.{length_file}
use Rattle.expander.specs.LocationsInFile.{meta_in, iloc_in, locations_in}
use Rattle.expander.specs.Outcome.{refusal_of}
use Rattle.bits.specs.State.{ahead, part, bytes_of, bytes_at, read_bits, read_bytes}
use Rattle.bits.specs.Format.{◌>>=◌, view}
use Rattle.mini.specs.Blank.{blank_hdr_boxes, blank_gain_map, blank_image}
use Rattle.mini.specs.Chunks.{stored_sizes, stored_spans, end_within, first_past}
use Rattle.mini.specs.Image.{image_of}
use Rattle.mini.specs.Payload.{header_bits, chunks_start}
use Rattle.mini.specs.Read.{bits_to_boundary, past_trailing_bits, test_chunks, read_chunks, read_mini, Reading}
use Rattle.mini.specs.Same.{well_placed, chunks_of}
use Rattle.mini.specs.Syntax.{flags, dimensions, chroma, float_format, integer_format, sample_format, explicit_cicp, explicit_codec_types, main_format, tmap_cicp, gain_map_dimension, gain_map_format, gain_map_header, cclv, cclv_for, hdr_boxes, chunk_sizes, header, trailing_bits}
use Rattle.mini.specs.Cclv.{cclv_more}
use Rattle.mini.specs.Views.{float_code}
use Rattle.mini.specs.Write.{least, header_with, header_of, payload_with, payload_of, writable}
use Rattle.writer.specs.ToBox.{box_of}
use Rattle.exports.specs.Answer.{answer, expand_refusal}
use Rattle.mini.specs.declared.SampleFormat.TheVariants.{Integer}
use Rattle.mini.specs.declared.MinimizedImage.{MinimizedImage}

-- what a line calls, and what it says comes back
pub data Call : Type 0 where
  reading : List ℕ → Call
  -- a payload rewritten into an output
  rewriting : List ℕ → List ℕ → Call
  -- a payload expanded under major brand, minor version and brands; the length alone, and where an item lies
  expanding : List ℕ → ℕ → ℕ → List ℕ → Call

pub data Outcome : Type 0 where
  reads : Reading → Outcome
  -- the number returned, and what the output holds
  returns : ℕ × List ℕ → Outcome
  -- the refusal's number, the length and the locations read from the file
  expands : ℕ → ℕ → List Location → Outcome

unfoldable pub outcome : Call → Outcome
outcome (reading payload) = reads (read_mini payload)
outcome (rewriting payload out) = returns (answer (read_mini payload).refusal (read_mini payload).bit (box_of (read_mini payload).image payload) out)
outcome (expanding payload major minor brands) =
    let r = expand_refusal payload brands in
    let f = file (read_mini payload).image payload major minor brands in
    cond (eqb r 0) (expands 0 (length f) (locations_in f)) (expands r 0 [])

-- the number, and the bit
unfoldable pub refused : ℕ → ℕ → Outcome
refused n bit = reads (record { refusal = n; bit = bit; image = blank_image })

-- 1 by 1, orientation 1, integer 8 bits, main data the byte at 7, no other chunk
unfoldable pub smallest : Outcome
smallest =
    reads
    (record {
      refusal = 0;
      bit = 0;
      image =
          record {
            explicit_codec_types = None;
            format = Integer 8;
            full_range = false;
            chroma = record { subsampling = 0; horizontally_centered = false; vertically_centered = false };
            orientation = 1;
            width = 1;
            height = 1;
            explicit_cicp = None;
            icc = None;
            alpha = false;
            alpha_premultiplied = false;
            hdr = false;
            hdr_boxes = blank_hdr_boxes;
            has_gain_map = false;
            gain_map = blank_gain_map;
            main_codec_config = record { at = 7; len = 0 };
            main_data = record { at = 7; len = 1 };
            alpha_codec_config = None;
            alpha_data = record { at = 7; len = 0 };
            exif_xmp_compressed = false;
            exif = None;
            xmp = None;
          };
    })

unfoldable pub zeros : ℕ → List ℕ
zeros n = replicate n 0

-- an output of n bytes
unfoldable pub output : ℕ → List ℕ
output n = replicate n 0xFF

-- the box of the smallest payload
unfoldable pub smallest_box : List ℕ
smallest_box = 0x00 ∷ 0x00 ∷ 0x00 ∷ 0x10 ∷ 0x6D ∷ 0x69 ∷ 0x6E ∷ 0x69 ∷ (zeros 7 ++ 0xAA ∷ [])

-- explicit codec types 'av01' and 'av1C'
unfoldable pub typed : List ℕ
typed =
    0x20 ∷ 0x00 ∷ 0x00 ∷ 0x00 ∷ 0x61 ∷ 0x76 ∷ 0x30 ∷ 0x31 ∷ 0x61 ∷ 0x76 ∷ 0x31 ∷ 0x43 ∷ 0x00 ∷ 0x00 ∷ 0x00 ∷ 0xAA ∷ []

unfoldable pub mif3 : List ℕ
mif3 = 0x6D ∷ 0x69 ∷ 0x66 ∷ 0x33 ∷ []

unfoldable pub table : List (Call × Outcome)
table =
    (reading [], refused 5 0)
    ∷ (reading (0x40 ∷ []), refused 6 0)
    ∷ (reading (0x10 ∷ 0x00 ∷ 0x00 ∷ 0x01 ∷ 0x80 ∷ []), refused 7 31)
    ∷ (reading (zeros 7 ++ 0xAA ∷ []), smallest)
    ∷ (reading (zeros 7), refused 9 56)
    ∷ (reading (zeros 6 ++ 0x01 ∷ 0xAA ∷ []), refused 8 52)
    ∷ (reading (zeros 6 ++ 0x10 ∷ 0xAA ∷ []), refused 9 56)
    ∷ (reading (zeros 7 ++ 0xAA ∷ 0xFF ∷ 0xFF ∷ []), smallest)
    ∷ (rewriting (zeros 7 ++ 0xAA ∷ []) (output 18), returns (16, smallest_box ++ output 2))
    ∷ (rewriting (0x00 ∷ 0x00 ∷ 0x80 ∷ (zeros 6 ++ 0xAA ∷ [])) (output 18), returns (16, smallest_box ++ output 2))
    ∷ (expanding typed MIF3 0 mif3, expands 0 484 (record { id = 1; off = 483; len = 1 } ∷ []))
    ∷ (expanding (zeros 7 ++ 0xAA ∷ []) MIF3 0 mif3, expands 14 0 [])
    ∷ []

abbrev typed_image : MinimizedImage
typed_image = (read_mini typed).image

-- what walking that file finds is by the theorem of crate expander; all else is computed
expand_line : outcome (expanding typed MIF3 0 mif3) ≡ expands 0 484 (record { id = 1; off = 483; len = 1 } ∷ [])
unfolding outcome refused smallest zeros output smallest_box table answer typed mif3 expand_refusal refusal_of well_placed writable allowed file ftyp ftyp_body major_of renamed brands_of has_brand meta meta_body item_boxes hdlr hdlr_body pitm pitm_body iinf iinf_body infe_entries infe infe_fields iref references iref_box iref_body iprp ipco slots_bytes slots picture_slots main_slots alpha_slots orientation_slots hdr_slots tone_map_slots gain_map_slots tmap_slots free ispe ispe_body pixi pixi_body channel_bytes nclx nclx_body full_box turns_of turn_table ipma ipma_with ipma_body main_row alpha_row tmap_row gain_map_row kept row iloc iloc_body entry locations data_lengths item_set item_bytes item_data mdat walk header_at size_at bounded typed_at num part_of meta_in iloc_in locations_in read_locations full_box_header overwrite be box_header boxed box_of payload_of payload_with header_of header_with least chunks_of header_bits chunks_start float_code ahead part bytes_of bytes_at read_bits read_bytes ◌>>=◌ view flags dimensions chroma float_format integer_format sample_format explicit_cicp explicit_codec_types main_format tmap_cicp gain_map_dimension gain_map_format gain_map_header cclv_more cclv cclv_for hdr_boxes chunk_sizes header trailing_bits stored_sizes stored_spans end_within first_past image_of bits_to_boundary past_trailing_bits test_chunks read_chunks read_mini
expand_line =
    let n : length (file typed_image typed MIF3 0 mif3) ≡ 484 = refl in
    let z : refusal_of typed_image typed mif3 ≡ 0 = refl in
    let x = expanding-laws.expands typed_image typed mif3 z in
    let d : data_len (data_lengths typed_image) ≡ 1 = refl in
    let c : content_start typed_image MIF3 0 mif3 ≡ 483 = omega (arith, n, length_file typed_image typed mif3 x MIF3 0, d) in
    let l : locations 483 (data_lengths typed_image) ≡ record { id = 1; off = 483; len = 1 } ∷ [] = refl in
    ap₂ (λ (k : ℕ) (ls : List Location). expands 0 k ls) n
    (locations_found typed_image typed MIF3 0 mif3 x ∙ ap (λ (k : ℕ). locations k (data_lengths typed_image)) c ∙ l)

pub lines : map (λ l. outcome l.0) table ≡ map (λ l. l.1) table
unfolding outcome refused smallest zeros output smallest_box table answer typed mif3 expand_refusal refusal_of well_placed writable allowed file ftyp ftyp_body major_of renamed brands_of has_brand meta meta_body item_boxes hdlr hdlr_body pitm pitm_body iinf iinf_body infe_entries infe infe_fields iref references iref_box iref_body iprp ipco slots_bytes slots picture_slots main_slots alpha_slots orientation_slots hdr_slots tone_map_slots gain_map_slots tmap_slots free ispe ispe_body pixi pixi_body channel_bytes nclx nclx_body full_box turns_of turn_table ipma ipma_with ipma_body main_row alpha_row tmap_row gain_map_row kept row iloc iloc_body entry locations data_lengths item_set item_bytes item_data mdat walk header_at size_at bounded typed_at num part_of meta_in iloc_in locations_in read_locations full_box_header overwrite be box_header boxed box_of payload_of payload_with header_of header_with least chunks_of header_bits chunks_start float_code ahead part bytes_of bytes_at read_bits read_bytes ◌>>=◌ view flags dimensions chroma float_format integer_format sample_format explicit_cicp explicit_codec_types main_format tmap_cicp gain_map_dimension gain_map_format gain_map_header cclv_more cclv cclv_for hdr_boxes chunk_sizes header trailing_bits stored_sizes stored_spans end_within first_past image_of bits_to_boundary past_trailing_bits test_chunks read_chunks read_mini
lines = ap (λ (x : Outcome). map (λ (l : Call × Outcome). l.1) (take 10 table) ++ (x ∷ map (λ (l : Call × Outcome). l.1) (drop 11 table))) expand_line
