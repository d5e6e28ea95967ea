-- Big-endian numbers, as std's conversions of eight bytes have them.
use Rattle.std.proofs.Common.{Fits, w8, take_all, ◌≡◌, refl, List, ◌∷◌, ◌++◌, ℕ, zero, suc, ◌+◌, ◌-◌, ◌*◌, ◌/◌, ◌%◌, ◌^◌, ◌<◌, ◌≤◌, ◌∙◌, length, replicate, take, drop, get_or, arith, sym, ap, pow-suc, length-take-le, length-drop}
use native.Mathlib.Numerals.{towards_numerals}
use Rattle.std.specs.Int.{bytes_high_first}
use Rattle.std.proofs.lemmas.List.{take-append-drop, take-replicate, length-replicate}
use Rattle.octets.specs.BigEndian.{be, num}
use Rattle.octets.specs.BigEndianLaws.{length-be, be_split, num_split, num-append, num_shift}

-- ---- writing
be_high_first : (n x : ℕ) → bytes_high_first n x ≡ be n x
unfolding be
be_high_first zero x = refl
be_high_first (suc zero) x = refl
be_high_first (suc (suc n)) x =
    let e : 1 + suc n ≡ suc (suc n) = omega arith in
    ap (λ (l : List ℕ). (x / 256 ^ suc n % 256) ∷ l) (be_high_first (suc n) x) ∙ sym (be_split 1 (suc n) x) ∙ ap (λ (k : ℕ). be k x) e

drop_high_first : (m n k x : ℕ) → k ≡ m + n → drop m (bytes_high_first k x) ≡ bytes_high_first n x
drop_high_first zero n k x e = ap (λ (j : ℕ). bytes_high_first j x) (omega arith)
drop_high_first (suc m) n zero x e = absurd (omega arith)
drop_high_first (suc m) n (suc k) x e = drop_high_first m n k x (omega arith)

-- the last n of the eight bytes of a number
pub last_bytes : (n x y : ℕ) → n ≤ 8 → x ≡ y → drop (8 - n) (bytes_high_first 8 x) ≡ be n y
last_bytes n x y h e = drop_high_first (8 - n) n 8 x (omega arith) ∙ be_high_first n x ∙ ap (λ (k : ℕ). be n k) e

-- ---- reading
pub num_bound : (n : ℕ) (s : List ℕ) (i : ℕ) → ((k : ℕ) → get_or s k 0 < 256) → num n s i < 256 ^ n
unfolding num
num_bound zero s i h = omega arith
num_bound (suc n) s i h = rw (pow-suc) (omega (arith, num_bound n s i h, h (i + n)))

zero_at : (m i : ℕ) → ◌≡◌ {A = ℕ} (get_or (replicate m 0) i 0) 0
zero_at zero i = refl
zero_at (suc m) zero = refl
zero_at (suc m) (suc i) = zero_at m i

num_zeros : (n m i : ℕ) → num n (replicate m 0) i ≡ 0
unfolding num
num_zeros zero m i = refl
num_zeros (suc n) m i = omega (arith, num_zeros n m i, zero_at m (i + n))

-- the number of n bytes is that of eight, of which the others before them are zero
padded : (n : ℕ) (p q : List ℕ) → n ≤ 8 → length p ≡ n → num 8 (replicate (8 - n) 0 ++ (p ++ q)) 0 ≡ num n p 0
padded n p q h e =
    let zs : List ℕ = replicate (8 - n) 0 in
    let w : 8 ≡ 8 - n + n = omega arith in
    let z : length zs ≡ 8 - n = length-replicate (8 - n) 0 in
    let k : 0 + (8 - n) ≤ length zs = omega arith in
    let i : 0 + (8 - n) ≡ length zs + 0 = omega arith in
    let j : 0 + n ≤ length p = omega arith in
    ap (λ (k : ℕ). num k (zs ++ (p ++ q)) 0) w
    ∙ num_split (8 - n) n (zs ++ (p ++ q)) 0
    ∙ rw (num-append (8 - n) zs (p ++ q) 0 k, num_zeros (8 - n) (8 - n) 0, i, num_shift n zs (p ++ q) 0, num-append n p q 0 j) (omega arith)

-- the number of a part is that of its place in the whole
num_part : (n at : ℕ) (s : List ℕ) → at + n ≤ length s → num n (take n (drop at s)) 0 ≡ num n s at
num_part n at s h =
    let rest : List ℕ = drop at s in
    let room : n ≤ length rest = omega (arith, length-drop at s) in
    let all : 0 + n ≤ length (take n rest) = omega (arith, length-take-le n rest room) in
    let before : length (take at s) ≡ at = length-take-le at s (omega arith) in
    let i : at ≡ length (take at s) + 0 = omega arith in
    sym (num-append n (take n rest) (drop n rest) 0 all)
    ∙ ap (λ (l : List ℕ). num n l 0) (take-append-drop n rest)
    ∙ sym (num_shift n (take at s) rest 0)
    ∙ ap (λ (k : ℕ). num n (take at s ++ rest) k) (sym i)
    ∙ ap (λ (l : List ℕ). num n l at) (take-append-drop at s)

-- eight bytes, as std adds them up
pub eight : (s : List ℕ)
    → get_or s 0 0 * 72057594037927936 + get_or s 1 0 * 281474976710656 + get_or s 2 0 * 1099511627776 + get_or s 3 0 * 4294967296 + get_or s 4 0 * 16777216 + get_or s 5 0 * 65536 + get_or s 6 0 * 256 + get_or s 7 0
    ≡ num 8 s 0
unfolding num
eight s = simp towards_numerals (omega arith)

-- the number of n bytes of a slice that were copied to the end of eight zeros
pub number : (n at from k : ℕ) (s p q : List ℕ) → n ≤ 8 → at + n ≤ length s → from ≡ at → k ≡ n → p ≡ take k (drop from s)
    → num 8 (take (8 - n) (replicate 8 0) ++ (p ++ q)) 0 ≡ num n s at
number n at from k s p q h room there e was =
    let same : p ≡ take k (drop at s) = was ∙ ap (λ (j : ℕ). take k (drop j s)) there in
    let size : length p ≡ n = simp (same, e) (length-take-le n (drop at s) (omega (arith, length-drop at s))) in
    ap (λ (l : List ℕ). num 8 (l ++ (p ++ q)) 0) (take-replicate (8 - n) 8 0 (omega arith))
    ∙ padded n p q h size
    ∙ ap (λ (l : List ℕ). num n l 0) same
    ∙ ap (λ (j : ℕ). num n (take j (drop at s)) 0) e
    ∙ num_part n at s room

-- it is below 256 ^ n
pub number_bound : (n at from k : ℕ) (s p q : List ℕ) → ((k : ℕ) → Fits w8 (get_or s k 0)) → n ≤ 8 → at + n ≤ length s → from ≡ at → k ≡ n → p ≡ take k (drop from s)
    → num 8 (take (8 - n) (replicate 8 0) ++ (p ++ q)) 0 < 256 ^ n
number_bound n at from k s p q h a b c d e = rw (number n at from k s p q a b c d e) (num_bound n s at (λ k. (h k).fits))

-- by which `grind` sees what `put` and `get` do
pub ruleset putting = (length-be, last_bytes, take_all, length-drop)

pub ruleset getting = (eight, number, number_bound)
