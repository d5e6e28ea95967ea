-- The blank record, which goes with every refusal: numbers 0, flags false, formats integer of 0 bits, chunks absent, or empty at 0 where
-- they are always present, all other options absent. Document 01, 'What goes back when it cannot be done'.
use Rattle.std.specs.Prelude.{false, replicate, None}
use Rattle.octets.specs.declared.Span.{Span}
use Rattle.mini.specs.declared.SampleFormat.TheVariants.{Integer}
use Rattle.mini.specs.declared.MiniHdrBoxes.{MiniHdrBoxes}
use Rattle.mini.specs.declared.MiniGainMap.{MiniGainMap}
use Rattle.mini.specs.declared.MinimizedImage.{MinimizedImage}

abbrev pub empty_span : Span
empty_span = record { at = 0; len = 0 }

abbrev pub blank_hdr_boxes : MiniHdrBoxes
blank_hdr_boxes =
    record {
      has_clli = false;
      has_mdcv = false;
      has_cclv = false;
      has_amve = false;
      has_reve = false;
      has_ndwt = false;
      clli = replicate 4 0;
      mdcv = replicate 24 0;
      cclv = replicate 37 0;
      amve = replicate 8 0;
      reve = replicate 20 0;
      ndwt = replicate 4 0;
    }

abbrev pub blank_gain_map : MiniGainMap
blank_gain_map =
    record {
      width = 0;
      height = 0;
      matrix_coefficients = 0;
      full_range = false;
      chroma = record { subsampling = 0; horizontally_centered = false; vertically_centered = false };
      format = Integer 0;
      tmap_cicp = None;
      tmap_icc = None;
      tmap_hdr = blank_hdr_boxes;
      metadata = empty_span;
      codec_config = None;
      «data» = empty_span;
    }

abbrev pub blank_image : MinimizedImage
blank_image =
    record {
      explicit_codec_types = None;
      format = Integer 0;
      full_range = false;
      chroma = record { subsampling = 0; horizontally_centered = false; vertically_centered = false };
      orientation = 0;
      width = 0;
      height = 0;
      explicit_cicp = None;
      icc = None;
      alpha = false;
      alpha_premultiplied = false;
      hdr = false;
      hdr_boxes = blank_hdr_boxes;
      has_gain_map = false;
      gain_map = blank_gain_map;
      main_codec_config = empty_span;
      main_data = empty_span;
      alpha_codec_config = None;
      alpha_data = empty_span;
      exif_xmp_compressed = false;
      exif = None;
      xmp = None;
    }
