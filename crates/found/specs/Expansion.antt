-- The test whether a file is an expansion (document 02, 3), which looks at one record alone, the one found in the file. That it holds exactly where
-- some record expands to the file is a law (proofs/Expansions.antt).
use Rattle.std.specs.Prelude.{Bool, ◌&&◌, List, ℕ, eqb}
use Rattle.bits.specs.Format.{is_list}
use Rattle.mini.specs.declared.MinimizedImage.{MinimizedImage}
use Rattle.expander.specs.EquivalentFile.{file}
use Rattle.expander.specs.Outcome.{refusal_of}
use Rattle.found.specs.Found.{found_record}

-- a record whose source is f itself expands to f
unfoldable pub expands_to_source : MinimizedImage → List ℕ → (major minor : ℕ) → (brands : List ℕ) → Bool
expands_to_source i f major minor brands = eqb (refusal_of i f brands) 0 && is_list (file i f major minor brands) f

abbrev pub is_expansion : List ℕ → (major minor : ℕ) → (brands : List ℕ) → Bool
is_expansion f = expands_to_source (found_record f) f
