-- Writing bits, high bit first, from a byte of an output on (ISO/IEC 23008-12 Amd 2, Annex O.3.2; document 01: multi-byte fields are
-- big-endian, bits run from the high bit down). Eight bits make a byte, which is stored; fewer wait for more. A byte past the end of the
-- output is not stored, and the place counts as a usize does, so that writing is total and room is asked for once, at the entry.
use Rattle.std.specs.Prelude.{◌≡◌, ℕ, ◌+◌, ◌%◌, ◌^◌, Bool, ◌&&◌, List, [], ◌∷◌, ◌++◌, ◌==◌, slice_set}
use Rattle.std.specs.List.{list_all}
use Rattle.bits.specs.Bit.{val, bits_n}
use Rattle.bits.specs.Format.{Format}
use Rattle.bit_writer.specs.declared.BitWriter.{BitWriter}

-- the output, the place of the next byte, and the bits that wait, after the bits given
unfoldable pub feed : List ℕ → ℕ → List Bool → List ℕ × (ℕ × List Bool)
feed o k [] = (o, (k, []))
feed o k (a ∷ []) = (o, (k, a ∷ []))
feed o k (a ∷ (b ∷ [])) = (o, (k, a ∷ (b ∷ [])))
feed o k (a ∷ (b ∷ (c ∷ []))) = (o, (k, a ∷ (b ∷ (c ∷ []))))
feed o k (a ∷ (b ∷ (c ∷ (d ∷ [])))) = (o, (k, a ∷ (b ∷ (c ∷ (d ∷ [])))))
feed o k (a ∷ (b ∷ (c ∷ (d ∷ (e ∷ []))))) = (o, (k, a ∷ (b ∷ (c ∷ (d ∷ (e ∷ []))))))
feed o k (a ∷ (b ∷ (c ∷ (d ∷ (e ∷ (f ∷ [])))))) = (o, (k, a ∷ (b ∷ (c ∷ (d ∷ (e ∷ (f ∷ [])))))))
feed o k (a ∷ (b ∷ (c ∷ (d ∷ (e ∷ (f ∷ (g ∷ []))))))) = (o, (k, a ∷ (b ∷ (c ∷ (d ∷ (e ∷ (f ∷ (g ∷ []))))))))
feed o k (a ∷ (b ∷ (c ∷ (d ∷ (e ∷ (f ∷ (g ∷ (h ∷ l)))))))) =
    feed (slice_set o k (val (a ∷ (b ∷ (c ∷ (d ∷ (e ∷ (f ∷ (g ∷ (h ∷ [])))))))))) ((k + 1) % 2 ^ 64) l

-- ---- what the code's writer holds: the place of the next byte, the bits that wait for it, and whether every value so far was one that
-- its format prints
abbrev pub place : BitWriter → ℕ
place w = w.at.0

unfoldable pub waiting : BitWriter → List Bool
waiting w = bits_n (w.at.1 % 8) w.bits

abbrev pub fits : BitWriter → Bool
fits w = w.fits

-- from o and w on, the bits l were written, which left o' and w'
pub record Fed (o : List ℕ) (w : BitWriter) (l : List Bool) (o' : List ℕ) (w' : BitWriter) : Type 0 where
  pub eq : feed o (place w) (waiting w ++ l) ≡ (o', (place w', waiting w'))

-- w' is w with a test's answer
pub record Tested (w : BitWriter) (t : Bool) (w' : BitWriter) : Type 0 where
  pub same_place : place w' ≡ place w
  pub same_bits : waiting w' ≡ waiting w
  pub ok : fits w' ≡ (fits w && t)

-- a writing function's promise: it wrote the print of a, and tested that the format prints a
pub record Puts {A : Type 0} (p : Format A) (o : List ℕ) (w : BitWriter) (a : A) (o' : List ℕ) (w' : BitWriter) : Type 0 where
  pub fed : Fed o w (p.print a) o' w'
  pub ok : fits w' ≡ (fits w && p.good a)

-- an absent body is zeros
abbrev pub all_zero : List ℕ → Bool
all_zero l = list_all (λ x. x == 0) l
