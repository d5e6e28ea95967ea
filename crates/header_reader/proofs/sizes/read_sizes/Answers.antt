use Rattle.std.proofs.Common.{arith}
use Rattle.bits.specs.Run.{run_view, run_seq}
use Rattle.mini.specs.Chunks.{stored_sizes}
use Rattle.mini.specs.Syntax.{chunk_sizes}
use Rattle.header_reader.proofs.sizes.read_sizes.Goals as goal

pub returns : goal.returns
unfolding chunk_sizes stored_sizes
returns c =
    record {
      run = run_view _ _ _ _ _ _
          (run_seq _ _ c.flag_if-large_metadata.ensures
          (run_seq _ _ c.flag-large_codec_config.ensures
          (run_seq _ _ c.flag-large_item_data.ensures
          (run_seq _ _ c.minus1_if-icc.ensures.run
          (run_seq _ _ c.minus1_if-tmap_icc.ensures.run
          (run_seq _ _ c.size_if-gain_map_metadata.ensures.run
          (run_seq _ _ c.size_if-gain_map_data.ensures.run
          (run_seq _ _ c.size_if-gain_map_codec_config.ensures.run
          (run_seq _ _ c.size_if-main_codec_config.ensures.run
          (run_seq _ _ c.minus1_if-main_data.ensures.run
          (run_seq _ _ c.size_if-alpha_data.ensures.run
          (run_seq _ _ c.size_if-alpha_codec_config.ensures.run
          (run_seq _ _ c.flag_if-exif_xmp_compressed.ensures
          (run_seq _ _ c.minus1_if-exif.ensures.run
          c.minus1_if-xmp.ensures.run))))))))))))));
      value_bound = omega (
        arith,
        c.minus1_if-icc.ensures.value_bound,
        c.minus1_if-tmap_icc.ensures.value_bound,
        c.size_if-gain_map_metadata.ensures.value_bound,
        c.size_if-gain_map_data.ensures.value_bound,
        c.size_if-gain_map_codec_config.ensures.value_bound,
        c.size_if-main_codec_config.ensures.value_bound,
        c.minus1_if-main_data.ensures.value_bound,
        c.size_if-alpha_data.ensures.value_bound,
        c.size_if-alpha_codec_config.ensures.value_bound,
        c.minus1_if-exif.ensures.value_bound,
        c.minus1_if-xmp.ensures.value_bound,
      );
    }
