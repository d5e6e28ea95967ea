-- When a record expands to a file (document 02, 3): expanding does not refuse it, and gives the file under the original file type. Its source
-- may be any list, also of numbers that are no bytes: 17 denies so much the more, and the source of a record found is the file itself.
use Rattle.std.specs.Prelude.{◌≡◌, List, ℕ}
use Rattle.mini.specs.declared.MinimizedImage.{MinimizedImage}
use Rattle.expander.specs.EquivalentFile.{file}
use Rattle.expander.specs.Outcome.{refusal_of}

-- a record, with its source, that expands to f
pub record ExpandsTo (f : List ℕ) (major minor : ℕ) (brands : List ℕ) : Type 0 where
  pub image : MinimizedImage
  pub source : List ℕ
  pub expands : refusal_of image source brands ≡ 0
  pub gives : file image source major minor brands ≡ f
