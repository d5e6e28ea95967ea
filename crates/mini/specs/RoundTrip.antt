-- A payload that reads to a record, positions aside. That what is written is read back, and is the one shortest payload that reads so,
-- is proved in proofs/RoundTrip.antt.
use Rattle.std.specs.Prelude.{◌≡◌, List, ℕ}
use Rattle.mini.specs.Read.{read_mini}
use Rattle.mini.specs.Same.{unplaced, chunks_of}
use Rattle.mini.specs.declared.MinimizedImage.{MinimizedImage}

-- ---- a payload that reads to the record i of the source t, positions aside
pub record ReadsTo (s : List ℕ) (i : MinimizedImage) (t : List ℕ) : Type 0 where
  pub took : (read_mini s).refusal ≡ 0
  pub same : unplaced (read_mini s).image ≡ unplaced i
  pub chunks : chunks_of (read_mini s).image s ≡ chunks_of i t
