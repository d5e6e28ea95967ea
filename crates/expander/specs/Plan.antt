-- What is known of the equivalent file before it is written, from the record and the original file type alone.
use Rattle.std.specs.Prelude.{List, ℕ}
use Rattle.ftyp.specs.FileType.{file_type}
use Rattle.mini.specs.declared.MinimizedImage.{MinimizedImage}
use Rattle.expander.specs.EquivalentFile.{content_start, file_len}
use Rattle.expander.specs.declared.file.FilePlan.{FilePlan}

abbrev pub file_plan : MinimizedImage → (major minor : ℕ) → (brands : List ℕ) → FilePlan
file_plan i major minor brands =
    record {
      file_type = file_type major minor i.has_gain_map brands;
      content_start = content_start i major minor brands;
      len = file_len i major minor brands;
    }
