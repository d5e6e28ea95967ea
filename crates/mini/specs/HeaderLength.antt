-- The header is at most 2,007 bits long, and with its padding 2,014, read or printed. Assumes nothing.
use Rattle.std.specs.Prelude.{Bool, true, false, ◌&&◌, ◌||◌, List, ℕ, ◌-◌, ◌*◌, ◌%◌, ◌≤◌, eqb, ltb}
use Rattle.std.proofs.Common.{arith, lit≤}
use Rattle.bits.specs.State.{clean}
use Rattle.bits.specs.Format.{Format, sized, field, flag, offset, minus1, field_if, minus1_if, flag_if, bytes_for}
use Rattle.bits.specs.Near.{Near, weaken, near_field, near_bytes, near_const, near_ensure, near_choose, near_view, near_exactly, near_next, ◌then◌}
use Rattle.mini.specs.Read.{bits_to_boundary, past_trailing_bits}
use Rattle.mini.specs.Syntax.{flags, dimensions, chroma, float_format, integer_format, sample_format, explicit_cicp, explicit_codec_types, main_format, tmap_cicp, gain_map_dimension, gain_map_format, gain_map_header, cclv, cclv_for, hdr_boxes, chunk_sizes, header, trailing_bits}
use Rattle.mini.specs.Cclv.{cclv_more}
use Rattle.mini.specs.declared.Dimensions.{Dimensions}
use Rattle.mini.specs.declared.Flags.{Flags}
use Rattle.mini.specs.declared.GainMapHeader.{GainMapHeader}

-- ---- what the header is written with
near_flag : Near flag 1
near_flag = near_view _ _ _ _ _ _ (near_field 1)

near_offset : (k n : ℕ) → Near (offset k n) n
near_offset k n = near_view _ _ _ _ _ _ (near_field n)

near_sized : (t : Bool) (a b : ℕ) → b ≤ a → Near (field (sized t a b)) a
near_sized true a b h = near_field a
near_sized false a b h = weaken b h (near_field b)

near_minus1 : (t : Bool) (a b : ℕ) → b ≤ a → Near (minus1 (sized t a b)) a
near_minus1 t a b h = near_view _ _ _ _ _ _ (near_sized t a b h)

near_none : {A : Type 0} {p : Format A} (n : ℕ) → Near p 0 → Near p n
near_none n e = weaken 0 (omega arith) e

near_flag_if : (t : Bool) → Near (flag_if t) 1
near_flag_if t = near_choose t _ _ near_flag (near_none 1 (near_const _ _ _))

near_field_if : (t : Bool) (n : ℕ) → Near (field_if t n) n
near_field_if t n = near_choose t _ _ (near_field n) (near_none n (near_const _ _ _))

near_size_if : (t u : Bool) (a b : ℕ) → b ≤ a → Near (field_if t (sized u a b)) a
near_size_if t u a b h = near_choose t _ _ (near_sized u a b h) (near_none a (near_const _ _ _))

near_minus1_if : (t u : Bool) (a b : ℕ) → b ≤ a → Near (minus1_if t (sized u a b)) a
near_minus1_if t u a b h = near_choose t _ _ (near_minus1 u a b h) (near_none a (near_const _ _ _))

near_bytes_for : (t : Bool) (n : ℕ) → Near (bytes_for t n) (8 * n)
near_bytes_for t n = near_choose t _ _ (near_bytes n) (near_none (8 * n) (near_const _ _ _))

-- ---- the parts of the header
near_flags : Near flags 16
unfolding flags
near_flags =
    near_view _ _ _ _ _ _
    (near_next _ _ (near_exactly 2 0 6 tt)
    (near_flag then λ a. near_flag then λ b. near_flag then λ c. near_flag then λ d. near_flag then λ e. near_flag
    then λ f. near_flag then λ g. near_flag then λ h. near_flag then λ i. near_field 2 then λ j. near_offset 1 3))

near_dimensions : Near dimensions 31
unfolding dimensions
near_dimensions =
    near_view _ _ _ _ _ _ (near_flag then λ large. near_minus1 large 15 7 (lit≤ tt) then λ w. near_minus1 large 15 7 (lit≤ tt))

near_chroma : (sub : ℕ) → Near (chroma sub) 2
unfolding chroma
near_chroma sub = near_view _ _ _ _ _ _ (near_flag_if (eqb sub 1 || eqb sub 2) then λ h. near_flag_if (eqb sub 1))

near_format : (float : Bool) → Near (sample_format float) 4
unfolding sample_format float_format integer_format
near_format float =
    near_choose float _ _
    (near_view _ _ _ _ _ _ (near_ensure (λ code. ltb code 3) 7 tt (weaken 2 (lit≤ tt) (near_field 2))))
    (near_view _ _ _ _ _ _ (near_flag then λ high. near_choose high _ _ (near_offset 9 3) (near_none 3 (near_const _ _ _))))

near_cicp : (t : Bool) → Near (explicit_cicp t) 24
unfolding explicit_cicp
near_cicp t =
    near_choose t _ _ (near_view _ _ _ _ _ _ (near_field 8 then λ p. near_field 8 then λ q. near_field 8)) (near_none 24 (near_const _ _ _))

near_codec_types : (t : Bool) → Near (explicit_codec_types t) 64
unfolding explicit_codec_types
near_codec_types t = near_choose t _ _ (near_view _ _ _ _ _ _ (near_field 32 then λ p. near_field 32)) (near_none 64 (near_const _ _ _))

near_tmap_cicp : (t : Bool) → Near (tmap_cicp t) 25
unfolding tmap_cicp
near_tmap_cicp t =
    near_choose t _ _ (near_view _ _ _ _ _ _ (near_field 8 then λ p. near_field 8 then λ q. near_field 8 then λ m. near_flag))
    (near_none 25 (near_const _ _ _))

near_main : (f : Flags) → Near (main_format f) 95
unfolding main_format
near_main f =
    near_view _ _ _ _ _ _
    (near_chroma f.subsampling then λ c. near_format f.float then λ o. near_flag_if f.alpha then λ p. near_cicp f.explicit_cicp
    then λ i. near_codec_types f.explicit_codec_types)

pub cclv_most : (f : ℕ) → 8 * cclv_more f ≤ 288
unfolding cclv_more
cclv_most f = omega arith

near_cclv_for : (t : Bool) → Near (cclv_for t) 296
unfolding cclv_for cclv
near_cclv_for t =
    near_choose t _ _
    (near_view _ _ _ _ _ _ (near_field 8 then λ f. weaken (8 * cclv_more f) (cclv_most f) (near_bytes (cclv_more f))))
    (near_none 296 (near_const _ _ _))

near_hdr_boxes : (on : Bool) → Near (hdr_boxes on) 782
unfolding hdr_boxes
near_hdr_boxes on =
    near_view _ _ _ _ _ _
    (near_flag_if on then λ a. near_flag_if on then λ b. near_flag_if on then λ c. near_flag_if on then λ d. near_flag_if on then λ e. near_flag_if on
    then λ f. near_bytes_for a 4 then λ g. near_bytes_for b 24 then λ h. near_cclv_for c then λ i. near_bytes_for d 8 then λ j. near_bytes_for e 20
    then λ k. near_bytes_for f 4)

near_gain_map_dimension : (has same large : Bool) (main : ℕ) → Near (gain_map_dimension has same large main) 15
unfolding gain_map_dimension
near_gain_map_dimension has same large main =
    near_choose has _ _ (near_choose same _ _ (near_none 15 (near_const _ _ _)) (near_minus1 large 15 7 (lit≤ tt))) (near_none 15 (near_const _ _ _))

near_gain_map_format : (has float : Bool) → Near (gain_map_format has float) 4
unfolding gain_map_format
near_gain_map_format has float = near_choose has _ _ (near_format float) (near_none 4 (near_const _ _ _))

near_gain_map : (hdr : Bool) (d : Dimensions) → Near (gain_map_header hdr d) 77
unfolding gain_map_header
near_gain_map hdr d =
    near_view _ _ _ _ _ _
    (near_flag_if hdr then λ has. near_flag_if has then λ same. near_gain_map_dimension has same d.large d.width
    then λ w. near_gain_map_dimension has same d.large d.height then λ h. near_field_if has 8 then λ m. near_flag_if has
    then λ f. near_field_if has 2 then λ sub. near_chroma sub then λ c. near_flag_if has then λ float. near_gain_map_format has float
    then λ o. near_flag_if has then λ i. near_flag_if has then λ e. near_tmap_cicp e)

near_sizes : (f : Flags) (g : GainMapHeader) → Near (chunk_sizes f g) 224
unfolding chunk_sizes
near_sizes f g =
    near_view _ _ _ _ _ _
    (near_flag_if (f.icc || f.exif || f.xmp || g.present) then λ md. near_flag then λ cc. near_flag
    then λ id. near_minus1_if f.icc md 20 10 (lit≤ tt) then λ a. near_minus1_if (g.present && g.tmap_icc) md 20 10 (lit≤ tt)
    then λ b. near_size_if g.present md 20 10 (lit≤ tt) then λ c. near_size_if g.present id 28 15 (lit≤ tt)
    then λ d. near_size_if (g.present && ltb 0 d) cc 12 3 (lit≤ tt) then λ e. near_sized cc 12 3 (lit≤ tt) then λ m. near_minus1 id 28 15 (lit≤ tt)
    then λ n. near_size_if f.alpha id 28 15 (lit≤ tt) then λ h. near_size_if (f.alpha && ltb 0 h) cc 12 3 (lit≤ tt)
    then λ i. near_flag_if (f.exif || f.xmp) then λ j. near_minus1_if f.exif md 20 10 (lit≤ tt)
    then λ k. near_minus1_if f.xmp md 20 10 (lit≤ tt))

-- the header, read or printed, is at most 2,007 bits long
pub near_header : Near header 2007
unfolding header
near_header =
    near_view _ _ _ _ _ _
    (near_flags then λ f. near_dimensions then λ d. near_main f then λ l. near_gain_map f.hdr d then λ g. near_hdr_boxes f.hdr
    then λ b. near_hdr_boxes g.present then λ t. near_sizes f g)

near_trailing : (n : ℕ) → Near (trailing_bits n) n
unfolding trailing_bits
near_trailing n = near_exactly n 0 8 tt

-- the place after the header and its padding, whether they are accepted or not
pub header_end : (s : List ℕ) → (past_trailing_bits s (header.parse s (clean 0)).1).at ≤ 2014
unfolding past_trailing_bits bits_to_boundary
header_end s =
    let b = (header.parse s (clean 0)).1 in
    omega (arith, near_header.far s (clean 0), (near_trailing ((8 - b.at % 8) % 8)).far s b)
