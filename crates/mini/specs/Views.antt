-- How the values of a group of fields, in the order read, make up a part of the record, and back. Which fields there are, how wide and
-- in which order, stands in Syntax; here is only how tuples become records and back, with the laws. Assumes nothing.
use Rattle.std.specs.Prelude.{◌≡◌, refl, Bool, true, false, not, List, [], ◌∷◌, ◌↔◌, ℕ, zero, suc, ◌+◌, ◌^◌, ◌<◌, T, eqb, ltb, take, Option, Some, None, is_some}
use Rattle.std.proofs.Common.{sym, ap, subst, arith, eqb→eq, ltb→lt, take_at, eq-eqb, ne_eqb}
use Rattle.std.proofs.Math.Dec.{eqb_refl}
use Rattle.bits.specs.Format.{Format, sized, padded37, field, bytes, is_list, list_is, const, choose, ◌>>=◌, view, renamed, flag, offset, number}
use Rattle.mini.specs.Cclv.{cclv_more}
use Rattle.mini.specs.declared.SampleFormat.{SampleFormat}
use Rattle.mini.specs.declared.SampleFormat.TheVariants.{Integer, Float}
use Rattle.mini.specs.declared.CodecTypes.{CodecTypes}
use Rattle.mini.specs.declared.Cicp.{Cicp}
use Rattle.mini.specs.declared.TmapCicp.{TmapCicp}
use Rattle.mini.specs.declared.MiniChroma.{MiniChroma}
use Rattle.mini.specs.declared.Flags.{Flags}
use Rattle.mini.specs.declared.Dimensions.{Dimensions}
use Rattle.mini.specs.declared.MainFormat.{MainFormat}
use Rattle.mini.specs.declared.MiniHdrBoxes.{MiniHdrBoxes}
use Rattle.mini.specs.declared.GainMapHeader.{GainMapHeader}
use Rattle.mini.specs.declared.ChunkSizes.{ChunkSizes}
use Rattle.mini.specs.declared.Header.{Header}

-- ---- the first sixteen bits
abbrev pub FlagParts : Type 0
FlagParts = Bool × (Bool × (Bool × (Bool × (Bool × (Bool × (Bool × (Bool × (Bool × (ℕ × ℕ)))))))))

abbrev pub flags_to : FlagParts → Flags
flags_to (types, (float, (full, (alpha, (cicp, (hdr, (icc, (exif, (xmp, (subsampling, orientation)))))))))) =
    record {
      explicit_codec_types = types;
      float = float;
      full_range = full;
      alpha = alpha;
      explicit_cicp = cicp;
      hdr = hdr;
      icc = icc;
      exif = exif;
      xmp = xmp;
      subsampling = subsampling;
      orientation = orientation;
    }

abbrev pub flags_from : Flags → FlagParts
flags_from f = (f.explicit_codec_types, (f.float, (f.full_range, (f.alpha, (f.explicit_cicp, (f.hdr, (f.icc, (f.exif, (f.xmp, (f.subsampling, f.orientation))))))))))

abbrev pub as_flags : Format FlagParts → Format Flags
as_flags p = renamed flags_to flags_from p (λ x. refl) (λ f. refl)

-- ---- width and height
abbrev pub dimensions_to : Bool × (ℕ × ℕ) → Dimensions
dimensions_to (large, (width, height)) = record { large = large; width = width; height = height }

abbrev pub dimensions_from : Dimensions → Bool × (ℕ × ℕ)
dimensions_from d = (d.large, (d.width, d.height))

abbrev pub as_dimensions : Format (Bool × (ℕ × ℕ)) → Format Dimensions
as_dimensions p = renamed dimensions_to dimensions_from p (λ x. refl) (λ d. refl)

-- ---- the centring flags, under a subsampling that is stored elsewhere
abbrev pub chroma_to : ℕ → Bool × Bool → MiniChroma
chroma_to subsampling (horizontally, vertically) =
    record { subsampling = subsampling; horizontally_centered = horizontally; vertically_centered = vertically }

abbrev pub chroma_from : MiniChroma → Bool × Bool
chroma_from c = (c.horizontally_centered, c.vertically_centered)

pub chroma_is : (sub : ℕ) (c : MiniChroma) → T (eqb sub c.subsampling) ↔ (chroma_to sub (chroma_from c) ≡ c)
chroma_is sub c = (
  λ t. ap (λ (k : ℕ). chroma_to k (chroma_from c)) (eqb→eq sub c.subsampling t),
  λ e. subst (λ (x : MiniChroma). T (eqb sub x.subsampling)) e (eqb_refl sub),
)

abbrev pub as_chroma : ℕ → Format (Bool × Bool) → Format MiniChroma
as_chroma sub p = view (chroma_to sub) chroma_from (λ c. eqb sub c.subsampling) p (λ x g. refl) (chroma_is sub)

-- ---- the sample format
abbrev pub is_format : SampleFormat → SampleFormat → Bool
is_format (Integer m) (Integer n) = eqb n m
is_format (Integer m) (Float n) = false
is_format (Float m) (Integer n) = false
is_format (Float m) (Float n) = eqb n m

pub format_is : (f g : SampleFormat) → T (is_format f g) ↔ (f ≡ g)
format_is (Integer m) (Integer n) =
    (λ t. ap Integer (sym (eqb→eq n m t)), λ e. subst (λ f. T (is_format (Integer m) f)) e (eqb_refl m))
format_is (Integer m) (Float n) = (λ t. absurd t, λ e. absurd (subst (λ f. T (is_format (Integer m) f)) e (eqb_refl m)))
format_is (Float m) (Integer n) = (λ t. absurd t, λ e. absurd (subst (λ f. T (is_format (Float m) f)) e (eqb_refl m)))
format_is (Float m) (Float n) =
    (λ t. ap Float (sym (eqb→eq n m t)), λ e. subst (λ f. T (is_format (Float m) f)) e (eqb_refl m))

abbrev pub bits_in : SampleFormat → ℕ
bits_in (Integer n) = n
bits_in (Float n) = n

abbrev pub is_float : SampleFormat → Bool
is_float (Integer n) = false
is_float (Float n) = true

-- the code bit_depth_log2_minus4 says 2 ^ (code + 4) bits
abbrev pub float_to : ℕ → SampleFormat
float_to code = Float (2 ^ (code + 4))

unfoldable pub float_code : ℕ → ℕ
float_code bits = sized (eqb bits 16) 0 (sized (eqb bits 32) 1 2)

pub float_code_of : (c : ℕ) → T (ltb c 3) → float_code (2 ^ (c + 4)) ≡ c
unfolding float_code
float_code_of zero h = refl
float_code_of (suc zero) h = refl
float_code_of (suc (suc zero)) h = refl
float_code_of (suc (suc (suc c))) h = absurd (lt3 c (ltb→lt _ _ h))
  where
    lt3 : (c : ℕ) → suc (suc (suc c)) < 3 → ⊥
    lt3 c h = omega arith

abbrev pub as_float : (p : Format ℕ) → ((code : ℕ) → p.Good code → T (ltb code 3)) → Format SampleFormat
as_float p h =
    view float_to (λ f. float_code (bits_in f)) (λ f. is_format (float_to (float_code (bits_in f))) f) p (λ c g. float_code_of c (h c g))
    (λ f. format_is (float_to (float_code (bits_in f))) f)

-- an integer: whether it has more than 8 bits, and its bits
abbrev pub integer_to : Bool × ℕ → SampleFormat
integer_to (high, bits) = Integer bits

abbrev pub integer_from : SampleFormat → Bool × ℕ
integer_from f = (not (eqb (bits_in f) 8), bits_in f)

pub high_of : (h : Bool) (n : ℕ) → (choose h (offset 9 3) (number 8)).Good n → not (eqb n 8) ≡ h
unfolding view
high_of true n g = ap not (ne_eqb n 8 (omega (arith, g.1)))
high_of false n g = ap not (eq-eqb n 8 g)

pub high_depth : (x : Bool × ℕ) → (flag >>= λ high. choose high (offset 9 3) (number 8)).Good x → integer_from (integer_to x) ≡ x
unfolding ◌>>=◌
high_depth x g = ap (λ (h : Bool). (h, x.1)) (high_of x.0 x.1 g.1)

abbrev pub as_integer : (p : Format (Bool × ℕ)) → ((x : Bool × ℕ) → p.Good x → integer_from (integer_to x) ≡ x) → Format SampleFormat
as_integer p h = view integer_to integer_from (λ f. is_format (Integer (bits_in f)) f) p h (λ f. format_is (Integer (bits_in f)) f)

-- no gain map: integers of 0 bits
abbrev pub no_format : Format SampleFormat
no_format = const (Integer 0) (λ f. is_format f (Integer 0)) (λ f. format_is f (Integer 0))

-- ---- what may be absent
pub absent_is : {A : Type 0} (o : Option A) → T (not (is_some o)) ↔ (o ≡ None)
absent_is None = (λ t. refl, λ e. tt)
absent_is (Some x) = (λ t. absurd t, λ e. subst (λ o. T (not (is_some o))) (sym e) tt)

abbrev pub absent : {A : Type 0} → Format (Option A)
absent = const None (λ o. not (is_some o)) absent_is

-- ---- colour, where it is told
abbrev pub cicp_to : ℕ × (ℕ × ℕ) → Option Cicp
cicp_to (primaries, (transfer, matrix)) = Some (record { primaries = primaries; transfer = transfer; matrix = matrix })

abbrev pub cicp_from : Option Cicp → ℕ × (ℕ × ℕ)
cicp_from None = (0, (0, 0))
cicp_from (Some c) = (c.primaries, (c.transfer, c.matrix))

pub cicp_told : (c : Option Cicp) → T (is_some c) ↔ (cicp_to (cicp_from c) ≡ c)
cicp_told None = (λ t. absurd t, λ e. subst (λ (c : Option Cicp). T (is_some c)) e tt)
cicp_told (Some c) = (λ t. refl, λ e. tt)

-- its three fields
abbrev pub cicp_fields : Format (ℕ × (ℕ × ℕ))
cicp_fields = field 8 >>= λ primaries. field 8 >>= λ transfer. field 8

abbrev pub as_cicp : Format (ℕ × (ℕ × ℕ)) → Format (Option Cicp)
as_cicp p = view cicp_to cicp_from is_some p (λ x g. refl) cicp_told

-- ---- codec types, where they are told
abbrev pub codec_types_to : ℕ × ℕ → Option CodecTypes
codec_types_to (infe, config) = Some (record { infe_type = infe; codec_config_type = config })

abbrev pub codec_types_from : Option CodecTypes → ℕ × ℕ
codec_types_from None = (0, 0)
codec_types_from (Some c) = (c.infe_type, c.codec_config_type)

pub types_told : (c : Option CodecTypes) → T (is_some c) ↔ (codec_types_to (codec_types_from c) ≡ c)
types_told None = (λ t. absurd t, λ e. subst (λ (c : Option CodecTypes). T (is_some c)) e tt)
types_told (Some c) = (λ t. refl, λ e. tt)

abbrev pub as_codec_types : Format (ℕ × ℕ) → Format (Option CodecTypes)
as_codec_types p = view codec_types_to codec_types_from is_some p (λ x g. refl) types_told

-- ---- the tone-mapped picture's colour, where it is told
abbrev pub tmap_cicp_to : ℕ × (ℕ × (ℕ × Bool)) → Option TmapCicp
tmap_cicp_to (primaries, (transfer, (matrix, full))) =
    Some (record { cicp = record { primaries = primaries; transfer = transfer; matrix = matrix }; full_range = full })

abbrev pub tmap_cicp_from : Option TmapCicp → ℕ × (ℕ × (ℕ × Bool))
tmap_cicp_from None = (0, (0, (0, false)))
tmap_cicp_from (Some c) = (c.cicp.primaries, (c.cicp.transfer, (c.cicp.matrix, c.full_range)))

pub tmap_told : (c : Option TmapCicp) → T (is_some c) ↔ (tmap_cicp_to (tmap_cicp_from c) ≡ c)
tmap_told None = (λ t. absurd t, λ e. subst (λ (c : Option TmapCicp). T (is_some c)) e tt)
tmap_told (Some c) = (λ t. refl, λ e. tt)

abbrev pub as_tmap_cicp : Format (ℕ × (ℕ × (ℕ × Bool))) → Format (Option TmapCicp)
as_tmap_cicp p = view tmap_cicp_to tmap_cicp_from is_some p (λ x g. refl) tmap_told

-- ---- the main picture's samples and coding
abbrev pub MainParts : Type 0
MainParts = MiniChroma × (SampleFormat × (Bool × (Option Cicp × Option CodecTypes)))

abbrev pub main_to : MainParts → MainFormat
main_to (chroma, (format, (premultiplied, (cicp, types)))) =
    record {
      chroma = chroma;
      format = format;
      alpha_premultiplied = premultiplied;
      explicit_cicp = cicp;
      explicit_codec_types = types;
    }

abbrev pub main_from : MainFormat → MainParts
main_from m = (m.chroma, (m.format, (m.alpha_premultiplied, (m.explicit_cicp, m.explicit_codec_types))))

abbrev pub as_main_format : Format MainParts → Format MainFormat
as_main_format p = renamed main_to main_from p (λ x. refl) (λ m. refl)

-- ---- a cclv: its flag byte and the bytes after it, with zeros up to the 37 bytes of the record
abbrev pub uncons : List ℕ → ℕ × List ℕ
uncons [] = (0, [])
uncons (b ∷ l) = (b, l)

abbrev pub cclv_to : ℕ × List ℕ → List ℕ
cclv_to x = padded37 x

abbrev pub cclv_from : List ℕ → ℕ × List ℕ
cclv_from l = ((uncons l).0, take (cclv_more (uncons l).0) (uncons l).1)

pub cclv_body : (x : ℕ × List ℕ) → (field 8 >>= λ flags. bytes (cclv_more flags)).Good x → cclv_from (cclv_to x) ≡ x
unfolding ◌>>=◌
cclv_body x g = ap (λ (l : List ℕ). (x.0, l)) (take_at x.1 _ (cclv_more x.0) g.1.0)

abbrev pub as_cclv : (p : Format (ℕ × List ℕ)) → ((x : ℕ × List ℕ) → p.Good x → cclv_from (cclv_to x) ≡ x) → Format (List ℕ)
as_cclv p h = view cclv_to cclv_from (λ l. is_list (cclv_to (cclv_from l)) l) p h (λ l. list_is l (cclv_to (cclv_from l)))

-- ---- the HDR bodies of one picture
abbrev pub HdrParts : Type 0
HdrParts = Bool × (Bool × (Bool × (Bool × (Bool × (Bool × (List ℕ × (List ℕ × (List ℕ × (List ℕ × (List ℕ × List ℕ))))))))))

abbrev pub hdr_to : HdrParts → MiniHdrBoxes
hdr_to (has-clli, (has-mdcv, (has-cclv, (has-amve, (has-reve, (has-ndwt, (clli, (mdcv, (cclv, (amve, (reve, ndwt))))))))))) =
    record {
      has_clli = has-clli;
      has_mdcv = has-mdcv;
      has_cclv = has-cclv;
      has_amve = has-amve;
      has_reve = has-reve;
      has_ndwt = has-ndwt;
      clli = clli;
      mdcv = mdcv;
      cclv = cclv;
      amve = amve;
      reve = reve;
      ndwt = ndwt;
    }

abbrev pub hdr_from : MiniHdrBoxes → HdrParts
hdr_from b = (b.has_clli, (b.has_mdcv, (b.has_cclv, (b.has_amve, (b.has_reve, (b.has_ndwt, (b.clli, (b.mdcv, (b.cclv, (b.amve, (b.reve, b.ndwt)))))))))))

abbrev pub as_hdr_boxes : Format HdrParts → Format MiniHdrBoxes
as_hdr_boxes p = renamed hdr_to hdr_from p (λ x. refl) (λ b. refl)

-- ---- the gain map's part
abbrev pub GainMapParts : Type 0
GainMapParts = Bool × (Bool × (ℕ × (ℕ × (ℕ × (Bool × (ℕ × (MiniChroma × (Bool × (SampleFormat × (Bool × (Bool × Option TmapCicp)))))))))))

abbrev pub gain_map_to : GainMapParts → GainMapHeader
gain_map_to (present, (same, (width, (height, (matrix, (full, (subsampling, (chroma, (float, (format, (icc, (explicit, cicp)))))))))))) =
    record {
      present = present;
      same_dimensions = same;
      width = width;
      height = height;
      matrix_coefficients = matrix;
      full_range = full;
      subsampling = subsampling;
      chroma = chroma;
      float = float;
      format = format;
      tmap_icc = icc;
      tmap_explicit_cicp = explicit;
      tmap_cicp = cicp;
    }

abbrev pub gain_map_from : GainMapHeader → GainMapParts
gain_map_from g = (g.present, (g.same_dimensions, (g.width, (g.height, (g.matrix_coefficients, (g.full_range, (g.subsampling, (g.chroma, (g.float, (g.format, (g.tmap_icc, (g.tmap_explicit_cicp, g.tmap_cicp))))))))))))

abbrev pub as_gain_map_header : Format GainMapParts → Format GainMapHeader
as_gain_map_header p = renamed gain_map_to gain_map_from p (λ x. refl) (λ g. refl)

-- ---- the sizes
abbrev pub SizeParts : Type 0
SizeParts = Bool × (Bool × (Bool × (ℕ × (ℕ × (ℕ × (ℕ × (ℕ × (ℕ × (ℕ × (ℕ × (ℕ × (Bool × (ℕ × ℕ)))))))))))))

abbrev pub sizes_to : SizeParts → ChunkSizes
sizes_to (metadata, (config, (item, (icc, (tmap_icc, (gain_map_metadata, (gain_map_data, (gain_map_config, (main_config, (main_data, (alpha_data, (alpha_config, (compressed, (exif, xmp)))))))))))))) =
    record {
      large_metadata = metadata;
      large_codec_config = config;
      large_item_data = item;
      icc = icc;
      tmap_icc = tmap_icc;
      gain_map_metadata = gain_map_metadata;
      gain_map_data = gain_map_data;
      gain_map_codec_config = gain_map_config;
      main_codec_config = main_config;
      main_data = main_data;
      alpha_data = alpha_data;
      alpha_codec_config = alpha_config;
      exif_xmp_compressed = compressed;
      exif = exif;
      xmp = xmp;
    }

abbrev pub sizes_from : ChunkSizes → SizeParts
sizes_from z = (z.large_metadata, (z.large_codec_config, (z.large_item_data, (z.icc, (z.tmap_icc, (z.gain_map_metadata, (z.gain_map_data, (z.gain_map_codec_config, (z.main_codec_config, (z.main_data, (z.alpha_data, (z.alpha_codec_config, (z.exif_xmp_compressed, (z.exif, z.xmp))))))))))))))

abbrev pub as_chunk_sizes : Format SizeParts → Format ChunkSizes
as_chunk_sizes p = renamed sizes_to sizes_from p (λ x. refl) (λ z. refl)

-- ---- the whole header
abbrev pub HeaderParts : Type 0
HeaderParts = Flags × (Dimensions × (MainFormat × (GainMapHeader × (MiniHdrBoxes × (MiniHdrBoxes × ChunkSizes)))))

abbrev pub header_to : HeaderParts → Header
header_to (flags, (dimensions, (main, (gain_map, (hdr, (tmap-hdr, sizes)))))) =
    record {
      flags = flags;
      dimensions = dimensions;
      main = main;
      gain_map = gain_map;
      hdr_boxes = hdr;
      tmap_hdr = tmap-hdr;
      sizes = sizes;
    }

abbrev pub header_from : Header → HeaderParts
header_from h = (h.flags, (h.dimensions, (h.main, (h.gain_map, (h.hdr_boxes, (h.tmap_hdr, h.sizes))))))

abbrev pub as_header : Format HeaderParts → Format Header
as_header p = renamed header_to header_from p (λ x. refl) (λ h. refl)
