-- What is promised of the payload of a restored box (document 02, 3), by the reader and the expander alone: it expands to exactly the file under the
-- original file type, and no payload that does is shorter.
use Rattle.std.specs.Prelude.{◌≡◌, List, ℕ, ◌≤◌, T, length}
use Rattle.std.proofs.Math.Pow.{are_bytes}
use Rattle.mini.specs.Read.{read_mini}
use Rattle.expander.specs.EquivalentFile.{file}
use Rattle.expander.specs.Outcome.{refusal_of}

-- neither the reader refuses p, nor the expander what is read, and the file is f
pub record PayloadExpands (f : List ℕ) (major minor : ℕ) (brands p : List ℕ) : Type 0 where
  pub reads : (read_mini p).refusal ≡ 0
  pub accepted : refusal_of (read_mini p).image p brands ≡ 0
  pub gives : file (read_mini p).image p major minor brands ≡ f

pub record Restores (f : List ℕ) (major minor : ℕ) (brands p : List ℕ) : Type 0 where
  pub expands : PayloadExpands f major minor brands p
  pub shortest : (q : List ℕ) → T (are_bytes q) → PayloadExpands f major minor brands q → length p ≤ length q
