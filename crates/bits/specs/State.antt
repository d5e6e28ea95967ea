-- Reading bits from a list of bytes, high bit first: a field of n bits, n bytes as one field, and a test on what was read. The state
-- is sticky: a refusal, once met, stays, and every later read gives 0 and the same state.
use Rattle.std.specs.Prelude.{Bool, true, false, ◌&&◌, ◌||◌, List, [], ◌∷◌, ℕ, zero, suc, ◌+◌, ◌*◌, eqb, leb, length, take, drop, replicate}
use Rattle.bits.specs.Bit.{val, bits_of}

-- a reader's state: the place in bits, and the refusal met so far (0: none). Once there is one, the place is the bit at which the field that
-- was being read began
pub record State : Type 0 where
  pub at : ℕ
  pub refusal : ℕ

-- the refusals of reading are 5 to 9 (document 01, 'What goes back when it cannot be done')
abbrev pub is_reading_refusal : ℕ → Bool
is_reading_refusal r = leb 5 r && leb r 9

-- a test refuses with one of the others: 5 is that of a field which passes the end
abbrev pub is_test_refusal : ℕ → Bool
is_test_refusal r = leb 6 r && leb r 9

-- none, or one of these
abbrev pub is_reading_state : State → Bool
is_reading_state b = eqb b.refusal 0 || is_reading_refusal b.refusal

-- no refusal so far, at bit p
abbrev pub clean : ℕ → State
clean p = record { at = p; refusal = 0 }

-- ---- the primitive: whether n bits more are there, and the state past them; 5 if they pass the end; nothing once a refusal is set
abbrev pub ahead_if : Bool → Bool → State → ℕ → Bool × State
ahead_if true true b n = (true, record { at = b.at + n; refusal = 0 })
ahead_if true false b n = (false, record { at = b.at; refusal = 5 })
ahead_if false fits b n = (false, b)

unfoldable pub ahead : List ℕ → State → ℕ → Bool × State
ahead s b n = ahead_if (eqb b.refusal 0) (leb (b.at + n) (8 * length s)) b n

-- the number that the n bits from p on write
unfoldable pub part : List ℕ → ℕ → ℕ → ℕ
part s p n = val (take n (drop p (bits_of s)))

-- the first 8 * n bits, as n bytes
unfoldable pub bytes_of : ℕ → List Bool → List ℕ
bytes_of zero l = []
bytes_of (suc n) l = val (take 8 l) ∷ bytes_of n (drop 8 l)

-- the n bytes from bit p on
unfoldable pub bytes_at : List ℕ → ℕ → ℕ → List ℕ
bytes_at s p n = bytes_of n (take (8 * n) (drop p (bits_of s)))

-- what is read where the bits are there, and else
abbrev pub part_if : Bool → List ℕ → ℕ → ℕ → ℕ
part_if true s p n = part s p n
part_if false s p n = 0

abbrev pub bytes_if : Bool → List ℕ → ℕ → ℕ → List ℕ
bytes_if true s p n = bytes_at s p n
bytes_if false s p n = replicate n 0

unfoldable pub read_bits : List ℕ → State → ℕ → ℕ × State
read_bits s b n = let a = ahead s b n in (part_if a.0 s b.at n, a.1)

unfoldable pub read_bytes : List ℕ → State → ℕ → List ℕ × State
read_bytes s b n = let a = ahead s b (8 * n) in (bytes_if a.0 s b.at n, a.1)

-- ---- a test on what was read from bit p on: refusal n, and back to p, where it fails and none was met before
abbrev pub refuse_if : Bool → Bool → ℕ → State → ℕ → State
refuse_if true true p b n = b
refuse_if true false p b n = record { at = p; refusal = n }
refuse_if false t p b n = b

abbrev pub test : ℕ → State → Bool → ℕ → State
test p b t n = refuse_if (eqb b.refusal 0) t p b n
