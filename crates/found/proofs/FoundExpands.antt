-- The record found in the file of a record that expands does too, under the same file type, and to this file.
use Rattle.std.specs.Prelude.{◌≡◌, List, ℕ}
use Rattle.std.proofs.Common.{◌∙◌}
use Rattle.mini.specs.Same.{Same}
use Rattle.mini.specs.declared.MinimizedImage.{MinimizedImage}
use Rattle.expander.specs.EquivalentFile.{file}
use Rattle.expander.specs.Expands.{Expands, not_refused}
use Rattle.normal_form.specs.NormalForm.{normal}
use Rattle.normal_form.proofs.NormalExpands.{normal_expands}
use Rattle.normal_form.proofs.OneFile.{normal_file}
use Rattle.normal_form.proofs.SameFile.{same_expands, same_gives}
use Rattle.found.specs.Found.{found_record}
use Rattle.found.proofs.ChunkPlaces.{found_placed}
use Rattle.found.proofs.FoundSame.{found_same}

module _ (i : MinimizedImage) (s : List ℕ) (major minor : ℕ) (brands : List ℕ) (x : Expands i s brands) where
  abbrev f : List ℕ
  f = file i s major minor brands

  abbrev same : Same (found_record f) f (normal i s) s
  same = found_same i s major minor brands x

  abbrev z : Expands (normal i s) s brands
  z = normal_expands i s brands x

  pub found_expands : Expands (found_record f) f brands
  found_expands = same_expands (found_record f) f (normal i s) s brands same (found_placed f) z

  pub found_file : file (found_record f) f major minor brands ≡ f
  found_file =
      same_gives (found_record f) f (normal i s) s brands same (found_placed f) z major minor ∙ normal_file i s brands (not_refused i s brands x) major minor
