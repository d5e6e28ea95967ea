-- Rules for the parts of the header that are no plain sequence: a cclv, the trailing bits, what is left out without the HDR flag.
use Rattle.std.specs.Prelude.{◌≡◌, Bool, false, List, ℕ, eqb, None}
use Rattle.std.proofs.Common.{sym, ap, ap₂, ◌∙◌}
use Rattle.bits.specs.State.{State, read_bytes, test}
use Rattle.bits.specs.Format.{Format, field, padded37, view, ◌>>=◌}
use Rattle.bits.specs.Run.{Run, run_exactly, run_seq}
use Rattle.mini.specs.Blank.{blank_hdr_boxes}
use Rattle.mini.specs.Read.{bits_to_boundary, past_trailing_bits}
use Rattle.mini.specs.Syntax.{chroma, tmap_cicp, gain_map_dimension, gain_map_format, gain_map_header, cclv, cclv_for, hdr_boxes, trailing_bits}
use Rattle.mini.specs.Cclv.{cclv_more}
use Rattle.mini.specs.declared.SampleFormat.TheVariants.{Integer}
use Rattle.mini.specs.declared.Cicp.{Cicp}
use Rattle.mini.specs.declared.Dimensions.{Dimensions}
use Rattle.mini.specs.declared.GainMapHeader.{GainMapHeader}
use Rattle.mini.specs.declared.MiniHdrBoxes.{MiniHdrBoxes}

pub run_cclv : {s : List ℕ} {b c d : State} {f k : ℕ} {v : List ℕ} → Run (field 8) s b f c → k ≡ cclv_more f
    → v ≡ padded37 (f, (read_bytes s c k).0) → d ≡ (read_bytes s c k).1 → Run cclv s b v d
unfolding cclv ◌>>=◌ view
run_cclv {s} {b} {c} {d} {f} {k} e h g i =
    record {
      eq =
          ap (λ (r : ℕ × State). (padded37 (r.0, (read_bytes s r.1 (cclv_more r.0)).0), (read_bytes s r.1 (cclv_more r.0)).1)) e.eq
          ∙ ap (λ (n : ℕ). (padded37 (f, (read_bytes s c n).0), (read_bytes s c n).1)) (sym h)
          ∙ ap₂ (λ (x : List ℕ) (y : State). (x, y)) (sym g) (sym i);
    }

pub run_trailing : {s : List ℕ} {b c d : State} {v : ℕ} (n : ℕ) → n ≡ bits_to_boundary b.at → Run (field n) s b v c → d ≡ test b.at c (eqb v 0) 8
    → d ≡ past_trailing_bits s b
unfolding past_trailing_bits trailing_bits
run_trailing {s} {b} n h e f =
    sym (ap (λ (x : Unit {0} × State). x.1) (run_exactly n 0 8 tt e f).eq) ∙ ap (λ (k : ℕ). ((trailing_bits k).parse s b).1) h

-- ---- without the HDR flag nothing is read
abbrev pub no_gain_map : GainMapHeader
no_gain_map =
    record {
      present = false;
      same_dimensions = false;
      width = 0;
      height = 0;
      matrix_coefficients = 0;
      full_range = false;
      subsampling = 0;
      chroma = record { subsampling = 0; horizontally_centered = false; vertically_centered = false };
      float = false;
      format = Integer 0;
      tmap_icc = false;
      tmap_explicit_cicp = false;
      tmap_cicp = None;
    }

pub run_no_gain_map : {s : List ℕ} {b : State} {v : GainMapHeader} (t : Bool) (d : Dimensions) → t ≡ false → v ≡ no_gain_map → Run (gain_map_header t d) s b v b
unfolding gain_map_header gain_map_dimension gain_map_format chroma tmap_cicp ◌>>=◌ view
run_no_gain_map {s} {b} t d e f =
    record { eq = ap (λ (t : Bool). (gain_map_header t d).parse s b) e ∙ ap (λ (v : GainMapHeader). (v, b)) (sym f) }

pub run_no_hdr_boxes : {s : List ℕ} {b : State} {v : MiniHdrBoxes} (t : Bool) → t ≡ false → v ≡ blank_hdr_boxes → Run (hdr_boxes t) s b v b
unfolding hdr_boxes cclv_for ◌>>=◌ view
run_no_hdr_boxes {s} {b} t e f =
    record { eq = ap (λ (t : Bool). (hdr_boxes t).parse s b) e ∙ ap (λ (v : MiniHdrBoxes). (v, b)) (sym f) }

-- what the HDR flag brings, one after the other: the gain map's part of the header, the HDR boxes of the picture, those of the tone-mapped one
abbrev pub hdr_part : Bool → Dimensions → Format (GainMapHeader × (MiniHdrBoxes × MiniHdrBoxes))
hdr_part hdr d = gain_map_header hdr d >>= λ g. hdr_boxes hdr >>= λ h. hdr_boxes g.present

pub run_no_hdr_part : {s : List ℕ} {b : State} {g : GainMapHeader} {h m : MiniHdrBoxes} (t : Bool) (d : Dimensions) → t ≡ false
    → g ≡ no_gain_map → h ≡ blank_hdr_boxes → m ≡ blank_hdr_boxes → Run (hdr_part t d) s b (g, (h, m)) b
run_no_hdr_part t d e f i j =
    run_seq _ _ (run_no_gain_map t d e f)
    (run_seq _ _ (run_no_hdr_boxes t e i) (run_no_hdr_boxes _ (ap (λ (g : GainMapHeader). g.present) f) j))

-- ---- the three numbers of a colour
abbrev pub colour_from : Cicp → ℕ × (ℕ × ℕ)
colour_from c = (c.primaries, (c.transfer, c.matrix))
