-- Parts of what reading says (mini/specs/Read.antt), for functions that give no whole answer: the refusal without the record, and the record or the
-- refusal's number, without its bit.
use Rattle.std.specs.Prelude.{ℕ, Option, Some, None, Result, Ok, Err}
use Rattle.bits.specs.ReadError.{number}
use Rattle.bits.specs.declared.ReadError.{ReadError}
use Rattle.mini.specs.Blank.{blank_image}
use Rattle.mini.specs.Read.{Reading, reading_of}
use Rattle.mini.specs.declared.MinimizedImage.{MinimizedImage}

-- the refusal, or the record where there is none
abbrev pub reading_with : Option ReadError → MinimizedImage → Reading
reading_with None image = record { refusal = 0; bit = 0; image = image }
reading_with (Some e) image = reading_of (Err e)

-- the number of a refusal and its bit, both 0 for none
abbrev pub number_and_bit : Option ReadError → ℕ × ℕ
number_and_bit None = (0, 0)
number_and_bit (Some e) = (number e, e.bit)

abbrev pub without_record : Reading → ℕ × ℕ
without_record r = (r.refusal, r.bit)

-- 0 with the record, or the number of a refusal with the blank one
abbrev pub number_and_record : Result MinimizedImage ℕ → ℕ × MinimizedImage
number_and_record (Ok image) = (0, image)
number_and_record (Err n) = (n, blank_image)

abbrev pub without_bit : Reading → ℕ × MinimizedImage
without_bit r = (r.refusal, r.image)
