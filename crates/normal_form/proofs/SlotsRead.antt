-- Slots read back, one kind of slot at a time: what is read from a slot is what it was made of.
use Rattle.std.specs.Prelude.{◌≡◌, refl, Bool, true, false, not, cond, ◌&&◌, List, [], ℕ, ◌<◌, T, ltb, length, Option, Some, None}
use Rattle.std.proofs.Common.{lit<, arith, ltb→lt, ltb-false}
use Rattle.bits.specs.Format.{is_list, list_is}
use Rattle.octets.specs.BigEndian.{be, num}
use Rattle.octets.specs.declared.Span.{Span}
use Rattle.boxes.specs.Boxed.{box_header, boxed}
use Rattle.mini.specs.Chunks.{chunk_if}
use Rattle.mini.specs.Ranges.{TypesIn, TmapIn}
use Rattle.mini.specs.RecordHeader.{T_true}
use Rattle.mini.specs.Same.{chunk_len, chunk_bytes, span_bytes, unplaced_chunk}
use Rattle.mini.specs.Write.{not_empty}
use Rattle.mini.specs.declared.CodecTypes.{CodecTypes}
use Rattle.mini.specs.declared.TmapCicp.{TmapCicp}
use Rattle.properties.specs.Property.{nclx, prof_body, prof, codec_config, irot, imir}
use Rattle.slots.specs.LengthLaws.{length_span}
use Rattle.slots.specs.Slots.{Slot, some, is_used, only_if, config_or, config_type, config_slot, prof_slot, irot_slot, imir_slot, tmap_nclx_slot}
use Rattle.slots.specs.Sound.{ChunkPlaced}
use Rattle.normal_form.specs.NormalForm.{short_config, srgb, short_tmap_cicp}
use Rattle.normal_form.specs.ReadProperties.{body_in, type_in, turn_in, profile_bytes, profile_in, config_bytes, config_in, span_of}
use Rattle.normal_form.specs.ReadRecord.{tone_in}
use Rattle.normal_form.proofs.PropertiesRead.{be_read, cicp_read, range_read}
use Rattle.slots.specs.SlotLaws.{gate}

-- ---- turns
pub irot_read : (t : Option ℕ) → turn_in (irot_slot t) ≡ t
unfolding irot boxed box_header be
irot_read None = refl
irot_read (Some angle) = refl

pub imir_read : (t : Option ℕ) → turn_in (imir_slot t) ≡ t
unfolding imir boxed box_header be
imir_read None = refl
imir_read (Some axis) = refl

-- ---- profiles
pub profile_read : (icc : Option Span) (s : List ℕ) → profile_bytes (prof_slot icc s) ≡ chunk_bytes icc s
unfolding prof prof_body boxed box_header be
profile_read None s = refl
profile_read (Some x) s = refl

pub profile_placed : (icc : Option Span) (s : List ℕ) → ChunkPlaced icc s → profile_in (prof_slot icc s) ≡ unplaced_chunk icc
unfolding prof prof_body boxed box_header be
profile_placed None s h = refl
profile_placed (Some x) s h = rw (length_span x s h)

-- ---- configurations
pub config_body : (types : Option CodecTypes) (x : Span) (s : List ℕ) → body_in (config_slot types x s) ≡ span_bytes x s
unfolding codec_config boxed box_header be
config_body types x s = go (ltb 0 x.len) refl
  where
    go : (t : Bool) → ltb 0 x.len ≡ t → body_in (only_if t (codec_config (config_type types) (span_bytes x s))) ≡ span_bytes x s
    go true e = refl
    go false e = let z : x.len ≡ 0 = omega (arith, ltb-false 0 x.len e) in rw z

-- its type, else what is read where it is unused
pub config_told : (on : Bool) (types : Option CodecTypes) (x : Span) (s : List ℕ) → TypesIn types → {rest rest' : ℕ} → rest ≡ rest'
    → let y = gate on (config_slot types x s) in
    cond (is_used y) (type_in y) rest ≡ cond (on && ltb 0 x.len) (config_type types) rest'
unfolding codec_config boxed box_header be num
config_told on types x s h {rest} {rest'} e = go on (ltb 0 x.len)
  where
    small : (c : Option CodecTypes) → TypesIn c → config_type c < 4294967296
    small None h = lit< tt
    small (Some c) h = omega (arith, h.1)

    go : (on t : Bool)
        → let y = gate on (only_if t (codec_config (config_type types) (span_bytes x s))) in
        cond (is_used y) (type_in y) rest ≡ cond (on && t) (config_type types) rest'
    go true true = be_read 4 (config_type types) (small types h)
    go true false = e
    go false t = e

-- alpha's or the gain map's, behind its gate, read beside the main picture's
abbrev pub ReadAs : Slot → List ℕ → Option Span → List ℕ → Type 0
ReadAs x main c s = (config_in x main ≡ unplaced_chunk c) × (config_bytes x main ≡ chunk_bytes c s)

module _ (types : Option CodecTypes) (main : Span) (s : List ℕ) where
  abbrev m : List ℕ
  m = span_bytes main s

  like_main : (t : Bool) → ReadAs (only_if t (codec_config (config_type types) m)) m None s
  unfolding codec_config boxed box_header be
  like_main true = rw (T_true _ ((list_is m m).1 refl)) (refl, refl)
  like_main false = (refl, refl)

  own_config : (on : Bool) (c : Option Span) → T (not_empty c) → ChunkPlaced c s → (on ≡ false → chunk_len c ≡ 0)
      → ReadAs (gate on (config_slot types (config_or c main) s)) m (short_config c main s) s
  unfolding codec_config boxed box_header be
  own_config true None h p e = like_main (ltb 0 main.len)
  own_config false None h p e = (refl, refl)
  own_config false (Some own) h p e = absurd (omega (arith, ltb→lt 0 own.len h, e refl))
  own_config true (Some own) h p e = rw (T_true (ltb 0 own.len) h) (go (is_list (span_bytes own s) m))
    where
      go : (t : Bool) → (chunk_if (not t) (span_of (length (span_bytes own s))) ≡ unplaced_chunk (cond t None (Some own)))
          × (cond (not t) (span_bytes own s) [] ≡ chunk_bytes (cond t None (Some own)) s)
      go true = (refl, refl)
      go false = (rw (length_span own s p), refl)

  pub config_again : (on : Bool) (c : Option Span) → T (not_empty c) → ChunkPlaced c s → (on ≡ false → chunk_len c ≡ 0)
      → ReadAs (gate on (config_slot types (config_or c main) s)) (body_in (config_slot types main s)) (short_config c main s) s
  config_again on c h p e = rw (config_body types main s) (own_config on c h p e)

-- ---- the tone map's colours
colours_read : (c : TmapCicp) (icc : Option Span) → TmapIn (Some c)
    → tone_in (some (nclx c.cicp.primaries c.cicp.transfer c.cicp.matrix c.full_range)) icc ≡ short_tmap_cicp (Some c) icc
colours_read c icc h =
    let e = cicp_read c.cicp c.full_range h in
    let f = range_read c.cicp c.full_range in
    λ j. short_tmap_cicp (Some (record { cicp = e j; full_range = f j })) icc

pub tone_read : (c : Option TmapCicp) (icc : Option Span) → TmapIn c → tone_in (tmap_nclx_slot c icc) (unplaced_chunk icc) ≡ short_tmap_cicp c icc
tone_read None None h = colours_read srgb None (omega arith, omega arith, omega arith)
tone_read None (Some x) h = refl
tone_read (Some c) None h = colours_read c None h
tone_read (Some c) (Some x) h = colours_read c (Some x) h
