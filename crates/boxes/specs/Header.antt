-- A box's header (ISO/IEC 14496-12, 4.2.2; document 01, refusals 1 to 4, in this order):
--
--     unsigned int(32) size;
--     unsigned int(32) type;
--     if (size == 1) unsigned int(64) largesize;
--     if (type == 'uuid') unsigned int(8)[16] usertype;
--
-- The payload is what follows, up to the box's end.
use Rattle.std.specs.Prelude.{◌≡◌, cond, List, ℕ, ◌+◌, ◌-◌, leb, ltb, eqb, length, Option, Some, None, Result, Ok, Err}
use Rattle.std.proofs.Common.{arith, rules}
use Rattle.octets.specs.BigEndian.{num}
use Rattle.refusals.specs.Outcome.{refusal_in}
use Rattle.boxes.specs.Size.{size_at}
use Rattle.boxes.specs.declared.BoxHeader.{BoxHeader}
use Rattle.boxes.specs.declared.BoxSize.{BoxSize}
use Rattle.boxes.specs.declared.HeaderError.{HeaderError}
use Rattle.boxes.specs.declared.HeaderError.TheVariants.{TruncatedHeader, TruncatedLargesize, SizeOutOfRange, TruncatedUserType}
use Rattle.boxes.specs.declared.UserType.{UserType}

-- 'uuid'
abbrev pub UUID : ℕ
UUID = 0x75756964

-- ---- refusals
-- the number of each (document 01)
abbrev pub number : HeaderError → ℕ
number TruncatedHeader = 1
number TruncatedLargesize = 2
number SizeOutOfRange = 3
number TruncatedUserType = 4

-- none is 0
pub number_not_zero : (e : HeaderError) → number e ≡ 0 → ⊥
number_not_zero e = search (rules, arith)

-- all zeros, without extended type
abbrev pub blank : BoxHeader
blank = record { box_type = 0; user_type = None; start = 0; payload_start = 0; payload_len = 0 }

-- what reading a header hands out as a number and a header: 0 and the header, or the refusal's number and the blank header
abbrev pub header_refusal : Result BoxHeader HeaderError → ℕ
header_refusal = refusal_in number

abbrev pub header_or_blank : Result BoxHeader HeaderError → BoxHeader
header_or_blank (Ok h) = h
header_or_blank (Err e) = blank

-- ---- headers
-- a header, from its type, extended type, start, length and the length of its box
abbrev pub found : ℕ → Option UserType → ℕ → ℕ → ℕ → Result BoxHeader HeaderError
found type user i head total =
    Ok (record { box_type = type; user_type = user; start = i; payload_start = i + head; payload_len = total - head })

-- the extended type, sixteen bytes
unfoldable pub user_type_at : List ℕ → ℕ → UserType
user_type_at s i = record { high = num 8 s i; low = num 8 s (i + 8) }

-- the header of a box of `total` bytes at i, of which size, type and largesize take `head`: 4 if a 'uuid' box ends before its extended type
unfoldable pub typed_at : List ℕ → ℕ → ℕ → ℕ → Result BoxHeader HeaderError
typed_at s i total head =
    let type = num 4 s (i + 4) in
    cond (eqb type UUID)
    (cond (ltb (total - head) 16) (Err TruncatedUserType) (found type (Some (user_type_at s (i + head))) i (head + 16) total))
    (found type None i head total)

-- after the size
abbrev pub sized_at : List ℕ → ℕ → Result BoxSize HeaderError → Result BoxHeader HeaderError
sized_at s i (Err e) = Err e
sized_at s i (Ok size) = typed_at s i size.total size.head

-- the header of the box at i: 1 if fewer than eight bytes are there
unfoldable pub header_at : List ℕ → ℕ → Result BoxHeader HeaderError
header_at s i = cond (leb (i + 8) (length s)) (sized_at s i (size_at s i)) (Err TruncatedHeader)
