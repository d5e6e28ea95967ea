-- The defaults of document 02, 3: what a record found has in the fields that a file does not carry.
use Rattle.std.specs.Prelude.{◌≡◌, true, false}
use Rattle.mini.specs.Blank.{blank_gain_map}
use Rattle.mini.specs.declared.MinimizedImage.{MinimizedImage}
use Rattle.mini.specs.declared.SampleFormat.TheVariants.{Integer}
use Rattle.slots.specs.Slots.{config_type}
use Rattle.normal_form.specs.NormalForm.{needs_hdr, writes_config}
use Rattle.normal_form.specs.ReadProperties.{monochrome}

pub record Defaults (i : MinimizedImage) : Type 0 where
  -- an absent gain map is blank
  pub absent : i.has_gain_map ≡ false → i.gain_map ≡ blank_gain_map
  -- one without data has the main picture's size, integers of 8 bits, and zeros
  pub without_data :
      i.has_gain_map ≡ true → i.gain_map.«data».len ≡ 0
      → i.gain_map
      ≡ record (i.gain_map) {
        width = i.width;
        height = i.height;
        matrix_coefficients = 0;
        full_range = false;
        chroma = monochrome;
        format = Integer 8;
      }
  -- hdr is false without gain map and without HDR body
  pub hdr : needs_hdr i ≡ false → i.hdr ≡ false
  -- the configurations' type is 0 where no configuration is written
  pub config_type : writes_config i ≡ false → config_type i.explicit_codec_types ≡ 0
