-- The record that a header gives, with its chunks from a byte of the payload on: ISO/IEC 23008-12 Amd 2, Annex O.3.3; document 01, 'The
-- record and its order of bits'. A configuration for alpha or gain map is present where its size is not 0.
use Rattle.std.specs.Prelude.{ℕ, ltb}
use Rattle.mini.specs.Chunks.{stored_spans, chunk_if, span_if}
use Rattle.mini.specs.declared.MiniHdrBoxes.{MiniHdrBoxes}
use Rattle.mini.specs.declared.GainMapHeader.{GainMapHeader}
use Rattle.mini.specs.declared.MiniGainMap.{MiniGainMap}
use Rattle.mini.specs.declared.ChunkSpans.{ChunkSpans}
use Rattle.mini.specs.declared.Header.{Header}
use Rattle.mini.specs.declared.MinimizedImage.{MinimizedImage}

abbrev pub gain_map_of : GainMapHeader → MiniHdrBoxes → ChunkSpans → MiniGainMap
gain_map_of g tmap p =
    record {
      width = g.width;
      height = g.height;
      matrix_coefficients = g.matrix_coefficients;
      full_range = g.full_range;
      chroma = g.chroma;
      format = g.format;
      tmap_cicp = g.tmap_cicp;
      tmap_icc = chunk_if g.tmap_icc p.tmap_icc;
      tmap_hdr = tmap;
      metadata = span_if g.present p.gain_map_metadata;
      codec_config = chunk_if (ltb 0 p.gain_map_codec_config.len) p.gain_map_codec_config;
      «data» = span_if g.present p.gain_map_data;
    }

unfoldable pub image_of : Header → ℕ → MinimizedImage
image_of h at =
    let f = h.flags in
    let m = h.main in
    let g = h.gain_map in
    let p = stored_spans h.sizes at in
    record {
      explicit_codec_types = m.explicit_codec_types;
      format = m.format;
      full_range = f.full_range;
      chroma = m.chroma;
      orientation = f.orientation;
      width = h.dimensions.width;
      height = h.dimensions.height;
      explicit_cicp = m.explicit_cicp;
      icc = chunk_if f.icc p.icc;
      alpha = f.alpha;
      alpha_premultiplied = m.alpha_premultiplied;
      hdr = f.hdr;
      hdr_boxes = h.hdr_boxes;
      has_gain_map = g.present;
      gain_map = gain_map_of g h.tmap_hdr p;
      main_codec_config = p.main_codec_config;
      main_data = p.main_data;
      alpha_codec_config = chunk_if (ltb 0 p.alpha_codec_config.len) p.alpha_codec_config;
      alpha_data = p.alpha_data;
      exif_xmp_compressed = h.sizes.exif_xmp_compressed;
      exif = chunk_if f.exif p.exif;
      xmp = chunk_if f.xmp p.xmp;
    }
