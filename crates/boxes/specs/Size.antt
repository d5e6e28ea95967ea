-- A box's size (ISO/IEC 14496-12, 4.2.2; document 01, refusals 2 and 3):
--
--     unsigned int(32) size;
--     unsigned int(32) type;
--     if (size == 1) unsigned int(64) largesize;
--     else if (size == 0) the box extends to the end
--
-- `size` and `largesize` count the whole box, header and all.
use Rattle.std.specs.Prelude.{cond, ◌&&◌, List, ℕ, ◌+◌, ◌-◌, ◌≤◌, leb, ltb, eqb, length, Result, Ok, Err}
use Rattle.octets.specs.BigEndian.{num}
use Rattle.boxes.specs.declared.BoxSize.{BoxSize}
use Rattle.boxes.specs.declared.HeaderError.{HeaderError}
use Rattle.boxes.specs.declared.HeaderError.TheVariants.{TruncatedLargesize, SizeOutOfRange}

-- a box of `total` bytes, `head` of them for size, type and largesize
abbrev pub whole : ℕ → ℕ → Result BoxSize HeaderError
whole total head = Ok (record { total = total; head = head })

-- refusal 3 unless the box holds its head and ends within the `rest`
unfoldable pub bounded : ℕ → ℕ → ℕ → Result BoxSize HeaderError
bounded head total rest = cond (leb head total && leb total rest) (whole total head) (Err SizeOutOfRange)

-- where size is 1: refusal 2 if the largesize passes the end
unfoldable pub large_size_at : List ℕ → ℕ → Result BoxSize HeaderError
large_size_at s i =
    let rest = length s - i in
    cond (ltb rest 16) (Err TruncatedLargesize) (bounded 16 (num 8 s (i + 8)) rest)

-- the size of the box at i, of which at least eight bytes are there
unfoldable pub size_at : List ℕ → ℕ → Result BoxSize HeaderError
size_at s i =
    let size = num 4 s i in
    let rest = length s - i in
    cond (eqb size 0) (whole rest 8) (cond (eqb size 1) (large_size_at s i) (bounded 8 size rest))

-- a box of `total` bytes at i lies in s, and holds its `head`
abbrev pub InBuffer : List ℕ → ℕ → ℕ → ℕ → Type 0
InBuffer s i total head = (8 ≤ head) × ((head ≤ total) × (i + total ≤ length s))
