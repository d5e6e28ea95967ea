-- Numbers as bytes, the highest byte first (ISO/IEC 14496-12, 4.2: all fields are stored in network byte order).
use Rattle.std.specs.Prelude.{List, [], ◌∷◌, ◌++◌, ℕ, zero, suc, ◌+◌, ◌*◌, ◌/◌, ◌%◌, get_or}

-- the low n bytes of x, the lowest one last
unfoldable pub be : ℕ → ℕ → List ℕ
be zero x = []
be (suc n) x = be n (x / 256) ++ (x % 256 ∷ [])

-- the number that the n bytes of `s` from `i` on stand for
unfoldable pub num : ℕ → List ℕ → ℕ → ℕ
num zero s i = 0
num (suc n) s i = num n s i * 256 + get_or s (i + n) 0
