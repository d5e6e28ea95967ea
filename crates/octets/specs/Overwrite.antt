-- Writing into a lent output: what it holds after bytes were stored in it (document 01, 'What changes shape': each body is
-- written straight into its own stretch of the output).
use Rattle.std.specs.Prelude.{◌≡◌, List, ℕ, ◌+◌, length}
use Rattle.std.proofs.lemmas.List.Edits.{sets}

-- `out` with `bs` stored one after another from position `at` on. A store past the end changes nothing, as `set` has it,
-- so that the laws need no side conditions; every writing function asks for room all the same.
unfoldable pub overwrite : List ℕ → ℕ → List ℕ → List ℕ
overwrite out at bs = sets out at bs

-- a writing function's promise: it stored the `n` bytes `bs` from `at` on, which left `out'`, and returned the position after them
pub record Wrote (out : List ℕ) (at n : ℕ) (bs : List ℕ) (out' : List ℕ) (r : ℕ) : Type 0 where
  pub next : r ≡ at + n
  pub size : length bs ≡ n
  pub left : out' ≡ overwrite out at bs
