-- Which records a display takes as they are: the desk check of document 01, whose width and height are those of the picture as shown
-- (document 02, point 2).
use Rattle.std.specs.Prelude.{Bool, not, ◌&&◌, ℕ, leb, is_some}
use Rattle.mini.specs.ShownSize.{shown_size}
use Rattle.mini.specs.Views.{is_float}
use Rattle.mini.specs.declared.DisplayConditions.{DisplayConditions}
use Rattle.mini.specs.declared.MinimizedImage.{MinimizedImage}

abbrev pub max_display_width : ℕ
max_display_width = 1920

abbrev pub max_display_height : ℕ
max_display_height = 1080

-- the five conditions, in document 01's order
unfoldable pub display_conditions : MinimizedImage → DisplayConditions
display_conditions i =
    record {
      integer_samples = not (is_float i.format);
      no_gain_map = not i.has_gain_map;
      exif_present = is_some i.exif;
      width_fits = leb (shown_size i).width max_display_width;
      height_fits = leb (shown_size i).height max_display_height;
    }

-- all of them
abbrev pub all_hold : DisplayConditions → Bool
all_hold d = d.integer_samples && (d.no_gain_map && (d.exif_present && (d.width_fits && d.height_fits)))

abbrev pub meets_display_profile : MinimizedImage → Bool
meets_display_profile i = all_hold (display_conditions i)
