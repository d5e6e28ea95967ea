-- Laws of big-endian numbers, each over the width.
use Rattle.std.specs.Prelude.{◌≡◌, refl, List, [], ◌∷◌, ◌++◌, ℕ, zero, suc, ◌+◌, ◌*◌, ◌/◌, ◌%◌, ◌^◌, ◌<◌, ◌≤◌, length, get_or}
use Rattle.std.proofs.Common.{sym, ◌∙◌, append_assoc, append-nil, arith, add-suc, add-zero, add_assoc, mul_assoc, add-mul, mul-one, div-one, pow-suc, mod-eq_of_lt, mod-lt, lit<, lit≤, length-append, get_or-append-add}
use Rattle.std.proofs.Math.Nat.{mod-one, pow-zero, pow-succ', one-le-pow, div-div-eq-div-mul}
use Rattle.std.proofs.Math.Arith.{mod-mul, digits_div, digits_mod}
use Rattle.std.proofs.Math.ListN.{get_or-append}
use Rattle.octets.specs.BigEndian.{be, num}

-- ---- writing
pub length-be : (n x : ℕ) → length (be n x) ≡ n
unfolding be
length-be zero x = refl
length-be (suc n) x = rw (length-append, length-be n (x / 256)) (omega arith)

-- the bytes of a number are those of its high part and then those of its low part
pub be_split : (n m x : ℕ) → be (n + m) x ≡ be n (x / 256 ^ m) ++ be m x
unfolding be
be_split n zero x = simp (add-zero, pow-zero, div-one, append-nil)
be_split n (suc m) x =
    rw (add-suc) (rw (be_split n m (x / 256), div-div-eq-div-mul, ← pow-succ') (append_assoc (be n (x / 256 ^ suc m)) (be m (x / 256)) (x % 256 ∷ [])))

low : (n x : ℕ) → (x % 256 ^ suc n / 256 ≡ x / 256 % 256 ^ n) × (x % 256 ^ suc n % 256 ≡ x % 256)
low n x =
    let d = mod-mul x {m = 256 ^ n} {c = 256} (one-le-pow n 256 (lit≤ tt)) (lit< tt) in
    let r = mod-lt x {m = 256} (lit< tt) in
    (rw (pow-suc, d) (digits_div (x / 256 % 256 ^ n) r), rw (pow-suc, d) (digits_mod (x / 256 % 256 ^ n) r))

-- bytes above the low n do not matter
pub be-mod : (n x : ℕ) → be n (x % 256 ^ n) ≡ be n x
unfolding be
be-mod zero x = refl
be-mod (suc n) x = rw ((low n x).0, (low n x).1, be-mod n (x / 256))

-- so a number is written as two of half the width
pub be_halves : (n m x : ℕ) → be n (x / 256 ^ m) ++ be m (x % 256 ^ m) ≡ be (n + m) x
be_halves n m x = rw (be-mod, be_split)

-- ---- reading
-- the number of a run of bytes is that of its high part and that of its low part
pub num_split : (n m : ℕ) (s : List ℕ) (i : ℕ) → num (n + m) s i ≡ num n s i * 256 ^ m + num m s (i + n)
unfolding num
num_split n zero s i = simp (add-zero, pow-zero, mul-one)
num_split n (suc m) s i = rw (add-suc) (rw (num_split n m s i, add-mul, mul_assoc, ← pow-suc, add_assoc, add_assoc))

-- bytes after do not matter
pub num-append : (n : ℕ) (s t : List ℕ) (i : ℕ) → i + n ≤ length s → num n (s ++ t) i ≡ num n s i
unfolding num
num-append zero s t i h = refl
num-append (suc n) s t i h =
    let k : i + n < length s = omega arith in
    rw (get_or-append, num-append n s t i (omega arith))

-- nor do bytes before
pub num_shift : (n : ℕ) (s t : List ℕ) (i : ℕ) → num n (s ++ t) (length s + i) ≡ num n t i
unfolding num
num_shift zero s t i = refl
num_shift (suc n) s t i = rw (add_assoc, get_or-append-add, num_shift n s t i)

-- ---- what is written is read again
after : (s : List ℕ) (b i : ℕ) → length s ≡ i → get_or (s ++ (b ∷ [])) i 0 ≡ b
after s b i e = rw (← e, ← (add-zero (length s)), get_or-append-add)

pub num-be : (n x : ℕ) → num n (be n x) 0 ≡ x % 256 ^ n
unfolding num be
num-be zero x = sym (mod-one x)
num-be (suc n) x =
    let k : 0 + n ≤ length (be n (x / 256)) = rw length-be (omega arith) in
    let at : get_or (be n (x / 256) ++ (x % 256 ∷ [])) (0 + n) 0 ≡ x % 256 = after (be n (x / 256)) (x % 256) (0 + n) (length-be n (x / 256) ∙ omega arith) in
    rw (num-append n (be n (x / 256)) (x % 256 ∷ []) 0 k, num-be n (x / 256), at, pow-suc)
    (sym (mod-mul x {m = 256 ^ n} {c = 256} (one-le-pow n 256 (lit≤ tt)) (lit< tt)))

-- a field that was written is read back, wherever it stands
pub field_at : (n x : ℕ) (pre post : List ℕ) (i : ℕ) → length pre ≡ i → x < 256 ^ n → num n (pre ++ (be n x ++ post)) i ≡ x
field_at n x pre post i e h =
    let i0 : i ≡ length pre + 0 = omega arith in
    let room : 0 + n ≤ length (be n x) = rw length-be (omega arith) in
    rw (i0, num_shift n pre (be n x ++ post) 0, num-append n (be n x) post 0 room) (num-be n x ∙ mod-eq_of_lt h)
