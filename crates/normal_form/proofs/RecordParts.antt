-- Parts of the record, each by itself: what is read for it is its normal form.
use Rattle.std.specs.Prelude.{◌≡◌, refl, Bool, true, false, cond, ◌&&◌, ◌||◌, List, [], ◌∷◌, ◌++◌, ℕ, ◌≤◌, T, eqb, ltb, length, drop, Option, Some, None, is_some, unwrap_or}
use Rattle.std.proofs.Common.{ap, ap₂, arith, ltb-false}
use Rattle.bits.specs.Format.{sized}
use Rattle.octets.specs.declared.Span.{Span}
use Rattle.items.specs.Optional.{bytes_if}
use Rattle.mini.specs.Blank.{blank_hdr_boxes, blank_gain_map}
use Rattle.mini.specs.Chunks.{chunk_if}
use Rattle.mini.specs.Cicp.{table_cicp}
use Rattle.mini.specs.Ranges.{CicpIn}
use Rattle.mini.specs.Same.{chunk_bytes, span_bytes, unplaced_chunk, unplaced_span, unplaced}
use Rattle.mini.specs.declared.Cicp.{Cicp}
use Rattle.mini.specs.declared.CodecTypes.{CodecTypes}
use Rattle.mini.specs.declared.MiniGainMap.{MiniGainMap}
use Rattle.mini.specs.declared.MiniHdrBoxes.{MiniHdrBoxes}
use Rattle.mini.specs.declared.MinimizedImage.{MinimizedImage}
use Rattle.slots.specs.LengthLaws.{length_span}
use Rattle.slots.specs.Slots.{config_type, prof_slot}
use Rattle.slots.specs.Sound.{SpanPlaced, ChunkPlaced}
use Rattle.expander.specs.EquivalentFile.{item_type}
use Rattle.normal_form.specs.NormalForm.{has_body, without_config_type}
use Rattle.normal_form.specs.ReadProperties.{span_of, profile_bytes}
use Rattle.normal_form.proofs.SlotsRead.{profile_read}
use Rattle.slots.specs.SlotLaws.{gate}

-- ---- chunks
pub span_again : (x : Span) (s : List ℕ) → SpanPlaced x s → span_of (length (span_bytes x s)) ≡ unplaced_span x
span_again x s h = rw (length_span x s h)

pub chunk_again : (c : Option Span) (s : List ℕ) → ChunkPlaced c s → chunk_if (is_some c) (span_of (length (chunk_bytes c s))) ≡ unplaced_chunk c
chunk_again None s h = refl
chunk_again (Some x) s h = rw (length_span x s h)

-- ---- colour
sized_small : (t : Bool) (a b : ℕ) → a ≤ 255 → b ≤ 255 → sized t a b ≤ 255
sized_small true a b h k = h
sized_small false a b h k = k

pub cicp_small : (c : Option Cicp) (icc : Bool) (subsampling : ℕ) → CicpIn c → CicpIn (Some (unwrap_or c (table_cicp icc subsampling)))
cicp_small None icc n h =
    (sized_small icc 2 1 (omega arith) (omega arith), sized_small icc 2 13 (omega arith) (omega arith), sized_small (eqb n 0) 2 6 (omega arith) (omega arith))
cicp_small (Some c) icc n h = h

-- ---- the configurations' type, by which of the three slots are used
pub types_again : (c : Option CodecTypes) → T (is_some c) → (a b d : Bool)
    → let n = config_type c in
    Some (record { infe_type = item_type c; codec_config_type = cond a n (cond b n (cond d n 0)) })
    ≡ cond (a || (b || d)) c (without_config_type c)
types_again None h a b d = absurd h
types_again (Some types) h true b d = refl
types_again (Some types) h false true d = refl
types_again (Some types) h false false true = refl
types_again (Some types) h false false false = refl

-- ---- hdr
pub hdr_again : (hdr has : Bool) (b : MiniHdrBoxes) → (hdr ≡ false → has ≡ false) → (hdr ≡ false → b ≡ blank_hdr_boxes)
    → (has || has_body b) ≡ (hdr && (has || has_body b))
hdr_again true has b h k = refl
hdr_again false has b h k = ap₂ (λ (t : Bool) (x : MiniHdrBoxes). t || has_body x) (h refl) (k refl)

-- ---- an absent gain map is blank
module _ (i : MinimizedImage) (s : List ℕ) where
  abbrev g : MiniGainMap
  g = i.gain_map

  abbrev Blank : Bool → Type 0
  Blank has = has ≡ false → (unplaced i).gain_map ≡ blank_gain_map

  pub no_data : (has : Bool) → Blank has → (has && ltb 0 g.«data».len) ≡ false → g.«data».len ≡ 0
  unfolding unplaced
  no_data true b e = omega (arith, ltb-false 0 g.«data».len e)
  no_data false b e = ap (λ (m : MiniGainMap). m.«data».len) (b refl)

  no_bytes : (x : Span) → x.len ≡ 0 → [] ≡ span_bytes x s
  no_bytes x e = rw e

  no_profile : (c : Option Span) → unplaced_chunk c ≡ None → [] ≡ chunk_bytes c s
  no_profile None e = refl
  no_profile (Some x) e = absurd (cc)

  pub gain_chunks : (has : Bool) → Blank has
      → (profile_bytes (gate has (prof_slot g.tmap_icc s)) ≡ chunk_bytes g.tmap_icc s)
      × (drop 1 (bytes_if has ((0 ∷ []) ++ span_bytes g.metadata s)) ≡ span_bytes g.metadata s)
      × (bytes_if has (span_bytes g.«data» s) ≡ span_bytes g.«data» s)
  unfolding unplaced
  gain_chunks true b = (profile_read g.tmap_icc s, refl, refl)
  gain_chunks false b =
      let e = b refl in (
        no_profile g.tmap_icc (ap (λ (m : MiniGainMap). m.tmap_icc) e),
        no_bytes g.metadata (ap (λ (m : MiniGainMap). m.metadata.len) e),
        no_bytes g.«data» (ap (λ (m : MiniGainMap). m.«data».len) e),
      )
