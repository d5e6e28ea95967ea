-- Lists of bytes, joined and cut, are lists of bytes. Assumes nothing.
use Rattle.std.specs.Prelude.{List, [], ◌∷◌, ◌++◌, ℕ, zero, suc, T, ltb, take, drop}
use Rattle.std.proofs.Math.Pow.{are_bytes}
use Rattle.bits.specs.Format.{and_split, and_join}

pub bytes-append : (s t : List ℕ) → T (are_bytes s) → T (are_bytes t) → T (are_bytes (s ++ t))
bytes-append [] t p q = q
bytes-append (b ∷ s) t p q =
    let w = and_split (ltb b 256) (are_bytes s) p in
    and_join (ltb b 256) (are_bytes (s ++ t)) (w.0, bytes-append s t w.1 q)

pub bytes_take : (n : ℕ) (s : List ℕ) → T (are_bytes s) → T (are_bytes (take n s))
bytes_take zero s h = tt
bytes_take (suc n) [] h = tt
bytes_take (suc n) (b ∷ s) h =
    let w = and_split (ltb b 256) (are_bytes s) h in
    and_join (ltb b 256) (are_bytes (take n s)) (w.0, bytes_take n s w.1)

pub bytes_drop : (n : ℕ) (s : List ℕ) → T (are_bytes s) → T (are_bytes (drop n s))
bytes_drop zero s h = h
bytes_drop (suc n) [] h = tt
bytes_drop (suc n) (b ∷ s) h = bytes_drop n s (and_split (ltb b 256) (are_bytes s) h).1
