-- Reading a MinimizedImageBox payload, for every list of bytes: the header, zero bits up to the byte boundary, the chunks in stored order.
-- ISO/IEC 23008-12 Amd 2, Annex O.3; document 01, 'What goes back when it cannot be done', 5 to 9, and 'The record and its order of bits';
-- document 02, point 5, the bit that comes with a refusal.
use Rattle.std.specs.Prelude.{Bool, true, false, List, ℕ, ◌-◌, ◌*◌, ◌/◌, ◌%◌, eqb, length, Result, Ok, Err}
use Rattle.bits.specs.State.{State, clean, test}
use Rattle.mini.specs.Syntax.{header, trailing_bits}
use Rattle.mini.specs.Chunks.{stored_sizes, end_within, first_past}
use Rattle.mini.specs.Image.{image_of}
use Rattle.mini.specs.Blank.{blank_image}
use Rattle.mini.specs.declared.ChunkSizes.{ChunkSizes}
use Rattle.mini.specs.declared.Header.{Header}
use Rattle.mini.specs.declared.MinimizedImage.{MinimizedImage}
use Rattle.bits.specs.ReadError.{number}
use Rattle.bits.specs.declared.ReadError.{ReadError}

-- how many bits are left up to the byte boundary
unfoldable pub bits_to_boundary : ℕ → ℕ
bits_to_boundary p = (8 - p % 8) % 8

-- past them: refusal 8 where they are not all zero
unfoldable pub past_trailing_bits : List ℕ → State → State
past_trailing_bits s b = ((trailing_bits (bits_to_boundary b.at)).parse s b).1

-- at a byte boundary, before the chunks: refusal 9, at the first bit of the first that does, where one ends past the payload
unfoldable pub test_chunks : List ℕ → ChunkSizes → State → State
test_chunks s z b =
    let at = b.at / 8 in
    let sizes = stored_sizes z in
    test (8 * first_past (length s) at sizes) b (end_within (length s) at sizes) 9

-- ---- what reading says: the number of the refusal and its bit, both 0 for none, and the record
pub record Reading : Type 0 where
  pub refusal : ℕ
  pub bit : ℕ
  pub image : MinimizedImage

-- an answer says the record, or a refusal's number, its bit and the blank record
abbrev pub reading_of : Result MinimizedImage ReadError → Reading
reading_of (Ok image) = record { refusal = 0; bit = 0; image = image }
reading_of (Err e) = record { refusal = number e; bit = e.bit; image = blank_image }

-- a state before the chunks says the record where there is no refusal, else the number, the place and the blank record
abbrev pub reading_if : Bool → State → MinimizedImage → Reading
reading_if true b image = record { refusal = 0; bit = 0; image = image }
reading_if false b image = record { refusal = b.refusal; bit = b.at; image = blank_image }

-- what a header reads to, with the chunks from the byte boundary b on
unfoldable pub read_chunks : List ℕ → Header → State → Reading
read_chunks s h b =
    let e = test_chunks s h.sizes b in
    reading_if (eqb e.refusal 0) e (image_of h (b.at / 8))

unfoldable pub read_mini : List ℕ → Reading
read_mini s =
    let r = header.parse s (clean 0) in
    read_chunks s r.0 (past_trailing_bits s r.1)
