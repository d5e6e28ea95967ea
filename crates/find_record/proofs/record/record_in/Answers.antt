use Rattle.std.proofs.Common.{◌||◌, Some}
use Rattle.find_record.proofs.FoundParts.{record_parts}
use Rattle.find_record.proofs.record.record_in.Goals as goal

pub returns : goal.returns
returns c =
    let items = c.args.held.items in
    let size = rw c.slot_body.ensures at c.size_in-size.ensures in
    let format = rw c.slot_body-pixi.ensures at c.format_in.ensures in
    let chroma = rw c.slot_body-pixi.ensures at c.chroma_in.ensures in
    let range = rw c.slot_body-2.ensures at c.range_in.ensures in
    let hdr = rw c.hdr_in-hdr_boxes.ensures at c.has_body.ensures in
    rw
    (record_parts c.args.file.now c.args.held c.requires c.part-ipco.result.now c.part-ipco.ensures.bytes)
    (λ j.
    record {
      explicit_codec_types = Some (record { infe_type = items.item_type; codec_config_type = c.config_type_in.ensures j });
      format = format j;
      full_range = range j;
      chroma = chroma j;
      orientation = c.orientation_in.ensures j;
      width = (size j).width;
      height = (size j).height;
      explicit_cicp = c.triple_in.ensures j;
      icc = c.profile_in.ensures j;
      alpha = items.alpha;
      alpha_premultiplied = items.premultiplied;
      hdr = items.tone_map || hdr j;
      hdr_boxes = c.hdr_in-hdr_boxes.ensures j;
      has_gain_map = items.tone_map;
      gain_map = c.gain_map_in.ensures j;
      main_codec_config = c.main_config.ensures j;
      main_data = c.placed.ensures j;
      alpha_codec_config = c.config_in.ensures j;
      alpha_data = c.placed-2.ensures j;
      exif_xmp_compressed = items.compressed;
      exif = c.item_chunk.ensures j;
      xmp = c.item_chunk-2.ensures j;
    })
