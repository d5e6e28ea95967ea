-- A part of an output that bytes were copied to.
use Rattle.std.proofs.Common.{◌≡◌, refl, List, ℕ, ◌+◌, ◌≤◌, append_assoc, length, arith, drop-drop}
use borrow.Rule.Slice.PartMut.{put_mid}
use Rattle.octets.specs.Overwrite.{Wrote}
use Rattle.octets.specs.OverwriteLaws.{overwrite-within}

-- the part is of k bytes, and it holds `p` when it comes back
pub copied : (out : List ℕ) (at n k r : ℕ) (bs p : List ℕ) → at + n ≤ length out → k ≡ n → r ≡ at + n → length bs ≡ n → p ≡ bs
    → Wrote out at n bs (put_mid at k out p) r
copied out at n k r bs p room e next size same = record {
  next = next;
  size = size;
  left = let h : at + length bs ≤ length out = omega arith in rw (overwrite-within out at bs h, drop-drop, e, size, same, append_assoc) refl;
}
