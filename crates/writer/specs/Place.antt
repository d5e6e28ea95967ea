-- A part ends within a source, as it is tested without a sum that might pass the largest usize. Assumes nothing.
use Rattle.std.specs.Prelude.{◌≡◌, ℕ, ◌+◌, ◌-◌, ◌<◌, ◌≤◌, Bool, true, false, nat_le, nat_lt, refl}
use Rattle.std.proofs.Common.{sym, ◌∙◌, arith, ltb-true, ltb-false, le-leb}
use Rattle.std.proofs.lemmas.Bool.{lt-leb}

pub out_of : (p len n : ℕ) → n < p → false ≡ nat_le (p + len) n
out_of p len n h = sym (lt-leb (p + len) n (omega arith))

pub in_of : (p len n : ℕ) → p ≤ n → nat_le len (n - p) ≡ nat_le (p + len) n
in_of p len n h = go (nat_lt (n - p) len) refl
  where
    go : (t : Bool) → nat_lt (n - p) len ≡ t → nat_le len (n - p) ≡ nat_le (p + len) n
    go true e = let k = ltb-true (n - p) len e in lt-leb len (n - p) k ∙ sym (lt-leb (p + len) n (omega arith))
    go false e = let k = ltb-false (n - p) len e in le-leb len (n - p) k ∙ sym (le-leb (p + len) n (omega arith))
