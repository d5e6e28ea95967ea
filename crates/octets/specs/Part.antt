-- A part of a lent slice, handed out where it lies (document 01, 'What changes shape': a part, not a copy; one that passes the
-- bytes lent is the empty part at their start).
use Rattle.std.specs.Prelude.{◌≡◌, Bool, cond, List, [], ℕ, ◌+◌, leb, length, take, drop}
use Rattle.std.specs.Borrow.{Bor}

-- a part of `len` bytes from `at` on ends within n bytes. The sum is one of numbers without a largest, so it never wraps
abbrev pub within : ℕ → ℕ → ℕ → Bool
within at len n = leb (at + len) n

-- the bytes of the part, none where it passes the end
unfoldable pub part_of : List ℕ → ℕ → ℕ → List ℕ
part_of s at len = cond (within at len (length s)) (take len (drop at s)) []

-- where the part begins, counted from the first byte lent: at the start where it passes the end
unfoldable pub part_at : List ℕ → ℕ → ℕ → ℕ
part_at s at len = cond (within at len (length s)) at 0

-- `part` is the part of `whole` of `len` bytes from `at` on: the same memory, the place `part_at` bytes after the place of `whole`
pub record Part (whole : Bor (List ℕ)) (at len : ℕ) (part : Bor (List ℕ)) : Type 0 where
  pub place : part.ref_ptr ≡ (whole.ref_ptr.0, part_at whole.now at len + whole.ref_ptr.1)
  pub bytes : part.now ≡ part_of whole.now at len
