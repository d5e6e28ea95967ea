-- Rewriting a payload (document 01: the payload written back is the written box without its first eight bytes), and demand 3's first half
-- about what comes out: it reads to the same record, and every other payload that does is longer.
use Rattle.std.specs.Prelude.{◌≡◌, cond, ◌⊎◌, List, ℕ, ◌<◌, T, eqb, length}
use Rattle.std.proofs.Math.Pow.{are_bytes}
use Rattle.mini.specs.Read.{read_mini}
use Rattle.mini.specs.RoundTrip.{ReadsTo}
use Rattle.writer.specs.ToBox.{refused, written}
use Rattle.refusals.specs.Outcome.{Written}

-- the reader's refusal with its bit, or the record's box: 16 where the output is shorter. What is read is well placed and can be written
-- (`read_is_written`), so 10 and 11 do not occur
unfoldable pub rewritten : List ℕ → List ℕ → Written × List ℕ
rewritten p o =
    let r = read_mini p in
    cond (eqb r.refusal 0) (written r.image p o) (refused r.refusal r.bit o)

-- q reads to the record of p, and every other payload that does is at least one byte longer
pub record WrittenBack (p q : List ℕ) : Type 0 where
  pub same : ReadsTo q (read_mini p).image p
  pub shortest : (x : List ℕ) → T (are_bytes x) → ReadsTo x (read_mini p).image p → (x ≡ q) ⊎ (length q < length x)
