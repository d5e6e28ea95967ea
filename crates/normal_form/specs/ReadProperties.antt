-- What the properties of a file say: the bodies of the slots, each read as its box is written (properties/specs).
use Rattle.std.specs.Prelude.{Bool, false, not, cond, ◌&&◌, List, [], ◌++◌, ℕ, ◌+◌, ◌-◌, ◌%◌, eqb, ltb, leb, length, take, drop, get_or, replicate, Option, Some, None}
use Rattle.bits.specs.Format.{is_list}
use Rattle.octets.specs.BigEndian.{num}
use Rattle.octets.specs.declared.Span.{Span}
use Rattle.mini.specs.Chunks.{chunk_if}
use Rattle.mini.specs.declared.Cicp.{Cicp}
use Rattle.mini.specs.declared.MiniChroma.{MiniChroma}
use Rattle.mini.specs.declared.MiniHdrBoxes.{MiniHdrBoxes}
use Rattle.mini.specs.declared.SampleFormat.{SampleFormat}
use Rattle.mini.specs.declared.SampleFormat.TheVariants.{Integer, Float}
use Rattle.slots.specs.Slots.{Slot, none, some, is_used}

-- ---- the slot numbered k, from 1 on
abbrev pub slot_at : ℕ → List Slot → Slot
slot_at k l = get_or l (k - 1) none

-- a box's body and type; none and 0 where the slot is unused
abbrev pub body_in : Slot → List ℕ
body_in none = []
body_in (some box) = drop 8 box

abbrev pub type_in : Slot → ℕ
type_in none = 0
type_in (some box) = num 4 box 4

abbrev pub body_at : ℕ → List Slot → List ℕ
body_at k l = body_in (slot_at k l)

-- n bytes, positions aside
abbrev pub span_of : ℕ → Span
span_of n = record { at = 0; len = n }

-- ---- bodies of properties
-- 'pixi' (properties/specs/Pixi.antt): byte 4 is the number of channels; the bits of each follow, and then two bytes for each. Of the first
-- channel the first of them is 2 * 32 + 4 + 2 for floats; of the second the last one is 16 times its subsampling_type, 2 for 4:2:0 and 1 for
-- 4:2:2, and its siting: 2, plus 1 if centred horizontally, minus 2 if vertically.
abbrev pub format_in : List ℕ → SampleFormat
format_in body = cond (eqb (get_or body (5 + get_or body 4 0) 0) 70) (Float (get_or body 5 0)) (Integer (get_or body 5 0))

abbrev pub monochrome : MiniChroma
monochrome = record { subsampling = 0; horizontally_centered = false; vertically_centered = false }

abbrev pub chroma_of : (channels second : ℕ) → MiniChroma
chroma_of channels second =
    cond (eqb channels 1) monochrome
    (record {
      subsampling = cond (leb 32 second) 1 (cond (leb 16 second) 2 3);
      horizontally_centered = eqb (second % 2) 1;
      vertically_centered = ltb (second % 4) 2;
    })

abbrev pub chroma_in : List ℕ → MiniChroma
chroma_in body = chroma_of (get_or body 4 0) (get_or body 11 0)

-- 'colr' nclx: each code in two bytes, of which the second holds it
abbrev pub cicp_in : List ℕ → Cicp
cicp_in body = record { primaries = get_or body 5 0; transfer = get_or body 7 0; matrix = get_or body 9 0 }

abbrev pub range_in : List ℕ → Bool
range_in body = eqb (get_or body 10 0) 0x80

-- 'colr' prof: the profile follows its type
abbrev pub profile_bytes : Slot → List ℕ
profile_bytes x = drop 4 (body_in x)

abbrev pub profile_in : Slot → Option Span
profile_in x = chunk_if (is_used x) (span_of (length (profile_bytes x)))

-- a configuration that has not the main one's bytes
abbrev pub is_own_config : Slot → List ℕ → Bool
is_own_config x main = is_used x && not (is_list (body_in x) main)

abbrev pub config_bytes : Slot → List ℕ → List ℕ
config_bytes x main = cond (is_own_config x main) (body_in x) []

abbrev pub config_in : Slot → List ℕ → Option Span
config_in x main = chunk_if (is_own_config x main) (span_of (length (body_in x)))

-- 'irot', 'imir'
abbrev pub turn_in : Slot → Option ℕ
turn_in none = None
turn_in (some box) = Some (get_or (drop 8 box) 0 0)

-- the row of the table of orientations
abbrev pub orientation_of : (angle axis : Option ℕ) → ℕ
orientation_of None None = 1
orientation_of None (Some m) = cond (eqb m 1) 2 4
orientation_of (Some a) None = cond (eqb a 2) 3 (cond (eqb a 3) 6 8)
orientation_of (Some a) (Some m) = cond (eqb m 0) 5 7

-- n bytes of a body, with zeros where it is shorter: a cclv's ends before its 37 bytes, and an HDR body that is absent is all zeros
abbrev pub padded : ℕ → List ℕ → List ℕ
padded n body = take n body ++ replicate (n - length body) 0

-- 'reve' and 'ndwt' are full boxes, whose version and flags come first
abbrev pub hdr_in : (a b c d e f : Slot) → MiniHdrBoxes
hdr_in a b c d e f =
    record {
      has_clli = is_used a;
      has_mdcv = is_used b;
      has_cclv = is_used c;
      has_amve = is_used d;
      has_reve = is_used e;
      has_ndwt = is_used f;
      clli = padded 4 (body_in a);
      mdcv = padded 24 (body_in b);
      cclv = padded 37 (body_in c);
      amve = padded 8 (body_in d);
      reve = padded 20 (drop 4 (body_in e));
      ndwt = padded 4 (drop 4 (body_in f));
    }
