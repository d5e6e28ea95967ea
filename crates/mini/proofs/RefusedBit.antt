-- The bit that comes with a refusal of reading: what stands there under each number, for every payload (RefusedBit); it is a place of the payload,
-- and a C function's answer has room for it; and the bits of some payloads. Assumes nothing.
use Rattle.std.specs.Prelude.{◌≡◌, refl, Bool, true, false, cond, ◌&&◌, ◌||◌, List, [], ◌∷◌, map, ◌↔◌, ◌⊎◌, ℕ, ◌+◌, ◌-◌, ◌*◌, ◌/◌, ◌%◌, ◌^◌, ◌≤◌, ◌<◌, T, eqb, leb, ltb, length}
use Rattle.std.proofs.Common.{sym, ap, ap₂, ◌∙◌, subst, true≢false, inl, inr, zero-add, add-zero, add_assoc, lt_of_lt_of_le, arith, le→leb, lit≤, pow_mono, eq-eqb, eqb-true, le-leb, leb-true, leb-false, ltb-false}
use Rattle.std.proofs.lemmas.Bool.{eqb-false}
use Rattle.bits.specs.State.{State, clean, ahead_if, ahead, part, bytes_of, bytes_at, part_if, read_bits, read_bytes, refuse_if, test}
use Rattle.bits.specs.Format.{Format, field, flag, offset, bytes, const, choose, flag_if, field_if, minus1_if, bytes_for, sized, view, exactly, field_inv, ◌>>=◌, and_join, at_cut, test_cut}
use Rattle.mini.specs.Cclv.{cclv_more}
use Rattle.mini.specs.Chunks.{stored_sizes, stored_spans, end_within, first_past}
use Rattle.mini.specs.Cut.{sum, first_past-sum}
use Rattle.mini.specs.HeaderLength.{header_end}
use Rattle.mini.specs.Image.{image_of}
use Rattle.mini.specs.Payload.{chunks_start, header-bytes, found, header-found}
use Rattle.mini.specs.Read.{Reading, bits_to_boundary, past_trailing_bits, reading_if, test_chunks, read_chunks, read_mini}
use Rattle.mini.specs.RecordHeader.{parts}
use Rattle.mini.specs.RefusedBit.{at_chunks, found_sizes, refused_width, HeaderBefore, Past, ChunkPast, Because}
use Rattle.mini.specs.Syntax.{flags, dimensions, chroma, float_format, integer_format, sample_format, explicit_cicp, explicit_codec_types, main_format, tmap_cicp, gain_map_dimension, gain_map_format, gain_map_header, cclv, cclv_for, hdr_boxes, metadata_bits, config_bits, data_bits, chunk_sizes, header, trailing_bits}
use Rattle.mini.specs.Views.{float_code}
use Rattle.mini.specs.declared.Dimensions.{Dimensions}
use Rattle.mini.specs.declared.Flags.{Flags}
use Rattle.mini.specs.declared.GainMapHeader.{GainMapHeader}
use Rattle.mini.specs.declared.Header.{Header}

-- ---- what `Because` says of the state before reading by a format, it says of the state after it; of refusal 5 see `header_cut`
abbrev BecauseOfHeader : List ℕ → (refusal bit : ℕ) → Type 0
BecauseOfHeader s refusal bit =
    (refusal ≡ 0)
    ⊎ ((refusal ≡ 5)
    ⊎ (((refusal ≡ 6) × (bit ≡ 0) × (part s bit 2 ≡ 0 → ⊥))
    ⊎ (((refusal ≡ 7) × (part s bit 2 ≡ 3)) ⊎ ((refusal ≡ 8) × HeaderBefore s bit × (part s bit (bits_to_boundary bit) ≡ 0 → ⊥)))))

record Tells {A : Type 0} (p : Format A) : Type 0 where
  why : (s : List ℕ) (b : State) → BecauseOfHeader s b.refusal b.at → BecauseOfHeader s (p.parse s b).1.refusal (p.parse s b).1.at

tells_ahead : (n : ℕ) (s : List ℕ) (b : State) → BecauseOfHeader s b.refusal b.at → BecauseOfHeader s (ahead s b n).1.refusal (ahead s b n).1.at
unfolding ahead
tells_ahead n s b w = go (eqb b.refusal 0) (leb (b.at + n) (8 * length s))
  where
    go : (t u : Bool) → BecauseOfHeader s (ahead_if t u b n).1.refusal (ahead_if t u b n).1.at
    go true true = inl refl
    go true false = inr (inl refl)
    go false u = w

tells_field : (n : ℕ) → Tells (field n)
unfolding read_bits
tells_field n = record { why = tells_ahead n }

tells_bytes : (n : ℕ) → Tells (bytes n)
unfolding read_bytes
tells_bytes n = record { why = tells_ahead (8 * n) }

tells_const : {A : Type 0} (a : A) (is : A → Bool) (d : (x : A) → T (is x) ↔ (x ≡ a)) → Tells (const a is d)
tells_const a is d = record { why = λ s b w. w }

tells_choose : {A : Type 0} (t : Bool) (p q : Format A) → Tells p → Tells q → Tells (choose t p q)
tells_choose true p q e f = e
tells_choose false p q e f = f

tells_view : {A B : Type 0} (to : A → B) (from : B → A) (is : B → Bool) (p : Format A) (h : (a : A) → p.Good a → from (to a) ≡ a)
    (d : (y : B) → T (is y) ↔ (to (from y) ≡ y)) → Tells p → Tells (view to from is p h d)
unfolding view
tells_view to from is p h d e = record { why = e.why }

infixr 4 ◌then◌
◌then◌ : {A B : Type 0} {p : Format A} {k : A → Format B} → Tells p → ((a : A) → Tells (k a)) → Tells (p >>= k)
unfolding ◌>>=◌
◌then◌ {p = p} e f = record { why = λ s b w. (f (p.parse s b).0).why s (p.parse s b).1 (e.why s b w) }

tells_flag : Tells flag
tells_flag = tells_view _ _ _ _ _ _ (tells_field 1)

tells_offset : (k n : ℕ) → Tells (offset k n)
tells_offset k n = tells_view _ _ _ _ _ _ (tells_field n)

tells_flag_if : (t : Bool) → Tells (flag_if t)
tells_flag_if t = tells_choose t _ _ tells_flag (tells_const _ _ _)

tells_field_if : (t : Bool) (n : ℕ) → Tells (field_if t n)
tells_field_if t n = tells_choose t _ _ (tells_field n) (tells_const _ _ _)

tells_minus1_if : (t : Bool) (n : ℕ) → Tells (minus1_if t n)
tells_minus1_if t n = tells_choose t _ _ (tells_offset 1 n) (tells_const _ _ _)

tells_bytes_for : (t : Bool) (n : ℕ) → Tells (bytes_for t n)
tells_bytes_for t n = tells_choose t _ _ (tells_bytes n) (tells_const _ _ _)

-- a test on a field's value: where it is refused, the value is what the field's bits write
read_is : (n : ℕ) (s : List ℕ) (b : State) → (read_bits s b n).1.refusal ≡ 0 → (b.refusal ≡ 0) × ((read_bits s b n).0 ≡ part s b.at n)
unfolding read_bits ahead
read_is n s b z = go (eqb b.refusal 0) (leb (b.at + n) (8 * length s)) refl z
  where
    go : (t u : Bool) → eqb b.refusal 0 ≡ t → (ahead_if t u b n).1.refusal ≡ 0 → (b.refusal ≡ 0) × (part_if (ahead_if t u b n).0 s b.at n ≡ part s b.at n)
    go true true e z = (eqb-true _ _ e, refl)
    go true false e z = absurd (omega (arith, z))
    go false u e z = absurd (eqb-false _ _ e z)

tested : (n : ℕ) (f : ℕ → Bool) (r : ℕ) (s : List ℕ) (b : State) → BecauseOfHeader s b.refusal b.at
    → (b.refusal ≡ 0 → part s b.at n < 2 ^ n → f (part s b.at n) ≡ false → BecauseOfHeader s r b.at)
    → let x = read_bits s b n in BecauseOfHeader s (test b.at x.1 (f x.0) r).refusal (test b.at x.1 (f x.0) r).at
tested n f r s b w k = go (eqb x.1.refusal 0) (f x.0) refl refl ((tells_field n).why s b w)
  where
    x : ℕ × State
    x = read_bits s b n

    failed : x.1.refusal ≡ 0 → f x.0 ≡ false → BecauseOfHeader s r b.at
    failed z e =
        let is = read_is n s b z in
        k is.0 (subst (λ (v : ℕ). v < 2 ^ n) is.1 (field_inv n s b z).good) (ap f (sym is.1) ∙ e)

    go : (t u : Bool) → eqb x.1.refusal 0 ≡ t → f x.0 ≡ u → BecauseOfHeader s x.1.refusal x.1.at
        → BecauseOfHeader s (refuse_if t u b.at x.1 r).refusal (refuse_if t u b.at x.1 r).at
    go true true e g v = v
    go true false e g v = failed (eqb-true _ _ e) g
    go false u e g v = v

tells_float : Tells float_format
unfolding float_format view
tells_float =
    record {
      why =
          λ s b w.
          tested 2 (λ code. ltb code 3) 7 s b w
          (λ z l e. inr (inr (inr (inl (refl, omega (arith, l, ltb-false (part s b.at 2) 3 e))))));
    }

-- ---- the header, after the version
tells_chroma : (sub : ℕ) → Tells (chroma sub)
unfolding chroma
tells_chroma sub = tells_view _ _ _ _ _ _ (tells_flag_if (eqb sub 1 || eqb sub 2) then λ h. tells_flag_if (eqb sub 1))

tells_format : (float : Bool) → Tells (sample_format float)
unfolding sample_format integer_format
tells_format float =
    tells_choose float _ _ tells_float
    (tells_view _ _ _ _ _ _
    (tells_flag then λ high. tells_choose high _ _ (tells_offset 9 3) (tells_const _ _ _)))

tells_dimensions : Tells dimensions
unfolding dimensions
tells_dimensions =
    tells_view _ _ _ _ _ _ (tells_flag then λ large. tells_offset 1 (sized large 15 7) then λ w. tells_offset 1 (sized large 15 7))

tells_cicp : (t : Bool) → Tells (explicit_cicp t)
unfolding explicit_cicp
tells_cicp t =
    let byte = tells_field 8 in
    tells_choose t _ _ (tells_view _ _ _ _ _ _ (byte then λ p. byte then λ q. byte)) (tells_const _ _ _)

tells_codec_types : (t : Bool) → Tells (explicit_codec_types t)
unfolding explicit_codec_types
tells_codec_types t =
    let code = tells_field 32 in
    tells_choose t _ _ (tells_view _ _ _ _ _ _ (code then λ p. code)) (tells_const _ _ _)

tells_main : (f : Flags) → Tells (main_format f)
unfolding main_format
tells_main f =
    tells_view _ _ _ _ _ _
    (tells_chroma f.subsampling then λ c. tells_format f.float then λ o. tells_flag_if f.alpha
    then λ p. tells_cicp f.explicit_cicp then λ i. tells_codec_types f.explicit_codec_types)

tells_tmap_cicp : (t : Bool) → Tells (tmap_cicp t)
unfolding tmap_cicp
tells_tmap_cicp t =
    let byte = tells_field 8 in
    tells_choose t _ _ (tells_view _ _ _ _ _ _ (byte then λ p. byte then λ q. byte then λ m. tells_flag)) (tells_const _ _ _)

tells_gain_map_dimension : (has same large : Bool) (main : ℕ) → Tells (gain_map_dimension has same large main)
unfolding gain_map_dimension
tells_gain_map_dimension has same large main =
    tells_choose has _ _ (tells_choose same _ _ (tells_const _ _ _) (tells_offset 1 (sized large 15 7))) (tells_const _ _ _)

tells_gain_map_format : (has float : Bool) → Tells (gain_map_format has float)
unfolding gain_map_format
tells_gain_map_format has float = tells_choose has _ _ (tells_format float) (tells_const _ _ _)

tells_gain_map : (hdr : Bool) (d : Dimensions) → Tells (gain_map_header hdr d)
unfolding gain_map_header
tells_gain_map hdr d =
    tells_view _ _ _ _ _ _
    (tells_flag_if hdr then λ has. tells_flag_if has then λ same. tells_gain_map_dimension has same d.large d.width
    then λ w. tells_gain_map_dimension has same d.large d.height then λ h. tells_field_if has 8 then λ m. tells_flag_if has
    then λ f. tells_field_if has 2 then λ sub. tells_chroma sub then λ c. tells_flag_if has then λ float. tells_gain_map_format has float
    then λ o. tells_flag_if has then λ i. tells_flag_if has then λ e. tells_tmap_cicp e)

tells_cclv_for : (t : Bool) → Tells (cclv_for t)
unfolding cclv_for cclv
tells_cclv_for t =
    tells_choose t _ _ (tells_view _ _ _ _ _ _ (tells_field 8 then λ f. tells_bytes (cclv_more f))) (tells_const _ _ _)

tells_hdr_boxes : (on : Bool) → Tells (hdr_boxes on)
unfolding hdr_boxes
tells_hdr_boxes on =
    let on-flag = tells_flag_if on in
    tells_view _ _ _ _ _ _
    (on-flag then λ a. on-flag then λ b. on-flag then λ c. on-flag then λ d. on-flag then λ e. on-flag
    then λ f. tells_bytes_for a 4 then λ g. tells_bytes_for b 24 then λ h. tells_cclv_for c
    then λ i. tells_bytes_for d 8 then λ j. tells_bytes_for e 20 then λ k. tells_bytes_for f 4)

tells_sizes : (f : Flags) (g : GainMapHeader) → Tells (chunk_sizes f g)
unfolding chunk_sizes
tells_sizes f g =
    tells_view _ _ _ _ _ _
    (tells_flag_if (f.icc || f.exif || f.xmp || g.present) then λ md. tells_flag then λ cc. tells_flag
    then λ id. tells_minus1_if f.icc (metadata_bits md) then λ a. tells_minus1_if (g.present && g.tmap_icc) (metadata_bits md)
    then λ b. tells_field_if g.present (metadata_bits md) then λ c. tells_field_if g.present (data_bits id)
    then λ d. tells_field_if (g.present && ltb 0 d) (config_bits cc) then λ e. tells_field (config_bits cc)
    then λ m. tells_offset 1 (data_bits id) then λ n. tells_field_if f.alpha (data_bits id)
    then λ h. tells_field_if (f.alpha && ltb 0 h) (config_bits cc) then λ i. tells_flag_if (f.exif || f.xmp)
    then λ j. tells_minus1_if f.exif (metadata_bits md) then λ k. tells_minus1_if f.xmp (metadata_bits md))

-- the version, and the flags: from the first bit on
abbrev Told : {A : Type 0} → Format A → List ℕ → State → Type 0
Told p s b = let c = (p.parse s b).1 in BecauseOfHeader s c.refusal c.at

told_version : (s : List ℕ) → Told (exactly 2 0 6 tt) s (clean 0)
unfolding view
told_version s =
    tested 2 (λ x. eqb x 0) 6 s (clean 0) (inl refl) (λ z l e. inr (inr (inl (refl, refl, eqb-false _ _ e))))

after : {A B : Type 0} (p : Format A) (k : A → Format B) (s : List ℕ) (b : State) → Told p s b → Tells (k (p.parse s b).0) → Told (p >>= k) s b
unfolding ◌>>=◌
after p k s b w e = e.why s (p.parse s b).1 w

told_flags : (s : List ℕ) → Told flags s (clean 0)
unfolding flags view
told_flags s =
    after (exactly 2 0 6 tt) (λ u. _) s (clean 0) (told_version s)
    (tells_flag then λ a. tells_flag then λ b. tells_flag then λ c. tells_flag then λ d. tells_flag then λ e. tells_flag
    then λ f. tells_flag then λ g. tells_flag then λ h. tells_flag then λ i. tells_field 2
    then λ j. tells_offset 1 3)

told_header : (s : List ℕ) → Told header s (clean 0)
unfolding header view
told_header s =
    let f = flags.parse s (clean 0) in
    after flags _ s (clean 0) (told_flags s)
    (tells_dimensions then λ d. tells_main f.0 then λ l. tells_gain_map f.0.hdr d then λ g. tells_hdr_boxes f.0.hdr
    then λ b. tells_hdr_boxes g.present then λ t. tells_sizes f.0 g)

-- ---- the trailing bits
header_before : (s : List ℕ) → (header.parse s (clean 0)).1.refusal ≡ 0 → HeaderBefore s (header.parse s (clean 0)).1.at
unfolding found
header_before s z =
    let g = header.inv s (clean 0) z in
    record { good = g.good; same = g.same; end = g.moved ∙ zero-add _ }

told_trailing_bits : (s : List ℕ) → let c = past_trailing_bits s (header.parse s (clean 0)).1 in BecauseOfHeader s c.refusal c.at
unfolding past_trailing_bits trailing_bits bits_to_boundary view
told_trailing_bits s =
    let b = (header.parse s (clean 0)).1 in
    tested (bits_to_boundary b.at) (λ x. eqb x 0) 8 s b (told_header s)
    (λ z l e. inr (inr (inr (inr (refl, header_before s z, eqb-false _ _ e)))))

-- ---- refusal 5: the field that begins at the bit does not fit
-- the bits up to a boundary are there where reading has got so far
trailing_fit : (s : List ℕ) (b : State) → b.at ≤ 8 * length s → (ahead s b (bits_to_boundary b.at)).1.refusal ≡ 5 → b.refusal ≡ 0 → ⊥
unfolding ahead bits_to_boundary
trailing_fit s b h z e =
    let n = (8 - b.at % 8) % 8 in
    let w = ap₂ (λ (t u : Bool). (ahead_if t u b n).1.refusal) (eq-eqb b.refusal 0 e) (le-leb (b.at + n) (8 * length s) (omega arith)) in
    omega (arith, z, w)

header_cut : (s : List ℕ) → (at_chunks s).refusal ≡ 5 → 8 * length s < (at_chunks s).at + refused_width s
unfolding refused_width past_trailing_bits trailing_bits view read_bits
header_cut s z = go (eqb b.refusal 0) refl
  where
    b : State
    b = (header.parse s (clean 0)).1

    q : Format (Unit {0})
    q = trailing_bits (bits_to_boundary b.at)

    go : (t : Bool) → eqb b.refusal 0 ≡ t → 8 * length s < (at_chunks s).at + header.width s (clean 0)
    go true e =
        let x = read_bits s b (bits_to_boundary b.at) in
        let k = test_cut 8 tt b.at x.1 (eqb x.0 0) z in
        absurd (trailing_fit s b (header.stays s (clean 0) (omega arith)).1 (ap (λ (c : State). c.refusal) (sym k) ∙ z) (eqb-true _ _ e))
    go false e = at_cut s (header.width s (clean 0)) b _ (q.sticks s b (eqb-false _ _ e)) (header.cut s (clean 0) refl) z

-- ---- the chunks
past_of : (zs : List ℕ) (n at : ℕ) → end_within n at zs ≡ false → Past n at zs
unfolding end_within first_past
past_of [] n at e = absurd (true≢false e)
past_of (z ∷ zs) n at e = go (leb (at + z) n) refl e (λ f. past_of zs n (at + z) f)
  where
    go : (t : Bool) → leb (at + z) n ≡ t → (t && end_within n (at + z) zs) ≡ false → (end_within n (at + z) zs ≡ false → Past n (at + z) zs)
        → Past n at (z ∷ zs)
    go true h f p =
        let q = p f in
        record {
          before = z ∷ q.before;
          size = q.size;
          after = q.after;
          split = ap (λ (l : List ℕ). z ∷ l) q.split;
          fit = and_join (leb (at + z) n) (end_within n (at + z) q.before) (le→leb (at + z) n (leb-true (at + z) n h), q.fit);
          over = omega (arith, q.over);
          place =
              ap (λ (t : Bool). cond t (first_past n (at + z) zs) at) h
              ∙ q.place
              ∙ add_assoc at z (sum q.before);
        }
    go false h f p =
        record {
          before = [];
          size = z;
          after = zs;
          split = refl;
          fit = tt;
          over = omega (arith, leb-false (at + z) n h);
          place = ap (λ (t : Bool). cond t (first_past n (at + z) zs) at) h ∙ sym (add-zero at);
        }

chunk_past : (s : List ℕ) → (at_chunks s).refusal ≡ 0 → end_within (length s) ((at_chunks s).at / 8) (found_sizes s) ≡ false
    → ChunkPast s (8 * first_past (length s) ((at_chunks s).at / 8) (found_sizes s))
chunk_past s z f =
    let h = found s in
    let g = header-found s z in
    let e : (at_chunks s).at / 8 ≡ chunks_start h = omega (arith, g.2, header-bytes h) in
    let p = past_of (found_sizes s) (length s) (chunks_start h) (ap (λ (k : ℕ). end_within (length s) k (found_sizes s)) (sym e) ∙ f) in
    record {
      good = g.0;
      same = g.1;
      past = p;
      begins = ap (λ (k : ℕ). 8 * first_past (length s) k (found_sizes s)) e ∙ ap (λ (k : ℕ). 8 * k) p.place;
    }

-- ---- the answer of reading: by whether the header was accepted, and whether the chunks end within the payload
pub by_cases : (s : List ℕ) (P : ℕ → ℕ → Type 0) → P 0 0 → (((at_chunks s).refusal ≡ 0 → ⊥) → P (at_chunks s).refusal (at_chunks s).at)
    → ((at_chunks s).refusal ≡ 0 → end_within (length s) ((at_chunks s).at / 8) (found_sizes s) ≡ false
    → P 9 (8 * first_past (length s) ((at_chunks s).at / 8) (found_sizes s)))
    → P (read_mini s).refusal (read_mini s).bit
unfolding read_mini read_chunks test_chunks found
by_cases s P n h k = go (eqb (at_chunks s).refusal 0) (end_within (length s) ((at_chunks s).at / 8) (found_sizes s)) refl refl
  where
    place : ℕ
    place = 8 * first_past (length s) ((at_chunks s).at / 8) (found_sizes s)

    answered : Bool → Bool → Reading
    answered t u =
        let e = refuse_if t u place (at_chunks s) 9 in
        reading_if (eqb e.refusal 0) e (image_of (found s) ((at_chunks s).at / 8))

    kept : (t : Bool) → eqb (at_chunks s).refusal 0 ≡ t
        → let r = reading_if t (at_chunks s) (image_of (found s) ((at_chunks s).at / 8)) in P r.refusal r.bit
    kept true e = n
    kept false e = h (eqb-false _ _ e)

    go : (t u : Bool) → eqb (at_chunks s).refusal 0 ≡ t → end_within (length s) ((at_chunks s).at / 8) (found_sizes s) ≡ u
        → P (answered t u).refusal (answered t u).bit
    go true true e f = kept _ refl
    go true false e f = k (eqb-true _ _ e) f
    go false u e f = kept _ refl

in_full : (s : List ℕ) (r p : ℕ) → (r ≡ 5 → 8 * length s < p + refused_width s) → BecauseOfHeader s r p → Because s r p
in_full s r p k (inl e) = inl e
in_full s r p k (inr (inl e)) = inr (inl (e, k e))
in_full s r p k (inr (inr (inl w))) = inr (inr (inl w))
in_full s r p k (inr (inr (inr (inl w)))) = inr (inr (inr (inl w)))
in_full s r p k (inr (inr (inr (inr w)))) = inr (inr (inr (inr (inl w))))

pub refused_because : (s : List ℕ) → Because s (read_mini s).refusal (read_mini s).bit
refused_because s =
    by_cases s (Because s) (inl refl) (λ z. in_full s _ _ (header_cut s) (told_trailing_bits s))
    (λ z f. inr (inr (inr (inr (inr (refl, chunk_past s z f))))))

no_nine : (s : List ℕ) (refusal bit : ℕ) → BecauseOfHeader s refusal bit → refusal ≡ 9 → ⊥
no_nine s r p (inl e) z = omega (arith, e, z)
no_nine s r p (inr (inl e)) z = omega (arith, e, z)
no_nine s r p (inr (inr (inl w))) z = omega (arith, w.0, z)
no_nine s r p (inr (inr (inr (inl w)))) z = omega (arith, w.0, z)
no_nine s r p (inr (inr (inr (inr w)))) z = omega (arith, w.0, z)

-- the header and the trailing bits refuse with the others
pub header_not_nine : (s : List ℕ) → (at_chunks s).refusal ≡ 9 → ⊥
header_not_nine s = no_nine s _ _ (told_trailing_bits s)

-- refusal 9 by itself: the chunk that ends past the payload
pub nine : (s : List ℕ) → (read_mini s).refusal ≡ 9 → ChunkPast s (read_mini s).bit
nine s =
    by_cases s (λ (r p : ℕ). r ≡ 9 → ChunkPast s p) (λ e. absurd (omega (arith, e))) (λ z e. absurd (header_not_nine s e)) (λ z f e. chunk_past s z f)

-- no refusal, no bit
pub accepted_no_bit : (s : List ℕ) → (read_mini s).refusal ≡ 0 → (read_mini s).bit ≡ 0
accepted_no_bit s =
    by_cases s (λ (r p : ℕ). r ≡ 0 → p ≡ 0) (λ e. refl) (λ z e. absurd (z e)) (λ z f e. absurd (omega (arith, e)))

-- ---- the bit is a place of the payload
first_past_within : (zs : List ℕ) (n at : ℕ) → at ≤ n → first_past n at zs ≤ n
unfolding first_past
first_past_within [] n at h = h
first_past_within (z ∷ zs) n at h = go (leb (at + z) n) refl (λ k. first_past_within zs n (at + z) k)
  where
    go : (t : Bool) → leb (at + z) n ≡ t → (at + z ≤ n → first_past n (at + z) zs ≤ n) → cond t (first_past n (at + z) zs) at ≤ n
    go true e f = f (leb-true (at + z) n e)
    go false e f = h

pub header_within : (s : List ℕ) → (at_chunks s).at ≤ 8 * length s
unfolding past_trailing_bits
header_within s =
    let b = (header.parse s (clean 0)).1 in
    ((trailing_bits (bits_to_boundary b.at)).stays s b (header.stays s (clean 0) (omega arith)).1).1

pub bit_within : (s : List ℕ) → (read_mini s).bit ≤ 8 * length s
bit_within s =
    let h = header_within s in
    let p = first_past_within (found_sizes s) (length s) ((at_chunks s).at / 8) (omega arith) in
    by_cases s (λ (r p : ℕ). p ≤ 8 * length s) (omega arith) (λ z. h) (λ z f. omega arith)

-- ---- and an answer has room for it: no size passes 2 ^ 28, so no chunk begins at bit 2 ^ 48
size_within : (u : Bool) (a b n : ℕ) → a ≤ 28 → b ≤ 28 → n < 2 ^ sized u a b → n < 268435456
size_within true a b n h k e = lt_of_lt_of_le e (pow_mono h)
size_within false a b n h k e = lt_of_lt_of_le e (pow_mono k)

field_small : (t u : Bool) (a b n : ℕ) → a ≤ 28 → b ≤ 28 → (field_if t (sized u a b)).Good n → n ≤ 268435456
field_small true u a b n h k g = omega (arith, size_within u a b n h k g)
field_small false u a b n h k g = omega (arith, g)

minus1_small : (t u : Bool) (a b n : ℕ) → a ≤ 28 → b ≤ 28 → (minus1_if t (sized u a b)).Good n → n ≤ 268435456
unfolding view
minus1_small true u a b n h k g = omega (arith, size_within u a b (n - 1) h k g.0, g.1)
minus1_small false u a b n h k g = omega (arith, g)

sizes_small : (h : Header) → header.Good h → sum (stored_sizes h.sizes) ≤ 2952790016
unfolding stored_sizes chunk_sizes ◌>>=◌ view
sizes_small h good =
    let g = (parts h good).sizes_ok.0 in
    let z = h.sizes in
    let has = h.gain_map.present in
    let md = z.large_metadata in
    let cc = z.large_codec_config in
    let id = z.large_item_data in
    omega (
      arith,
      minus1_small h.flags.icc md 20 10 z.icc (lit≤ tt) (lit≤ tt) g.1.1.1.0,
      minus1_small (has && h.gain_map.tmap_icc) md 20 10 z.tmap_icc (lit≤ tt) (lit≤ tt) g.1.1.1.1.0,
      field_small has md 20 10 z.gain_map_metadata (lit≤ tt) (lit≤ tt) g.1.1.1.1.1.0,
      field_small has id 28 15 z.gain_map_data (lit≤ tt) (lit≤ tt) g.1.1.1.1.1.1.0,
      field_small (has && ltb 0 z.gain_map_data) cc 12 3 z.gain_map_codec_config (lit≤ tt) (lit≤ tt) g.1.1.1.1.1.1.1.0,
      field_small true cc 12 3 z.main_codec_config (lit≤ tt) (lit≤ tt) g.1.1.1.1.1.1.1.1.0,
      minus1_small true id 28 15 z.main_data (lit≤ tt) (lit≤ tt) g.1.1.1.1.1.1.1.1.1.0,
      field_small h.flags.alpha id 28 15 z.alpha_data (lit≤ tt) (lit≤ tt) g.1.1.1.1.1.1.1.1.1.1.0,
      field_small (h.flags.alpha && ltb 0 z.alpha_data) cc 12 3 z.alpha_codec_config (lit≤ tt) (lit≤ tt) g.1.1.1.1.1.1.1.1.1.1.1.0,
      minus1_small h.flags.exif md 20 10 z.exif (lit≤ tt) (lit≤ tt) g.1.1.1.1.1.1.1.1.1.1.1.1.1.0,
      minus1_small h.flags.xmp md 20 10 z.xmp (lit≤ tt) (lit≤ tt) g.1.1.1.1.1.1.1.1.1.1.1.1.1.1,
    )

pub bit_small : (s : List ℕ) → (read_mini s).bit < 281474976710656
bit_small s =
    let at = (at_chunks s).at / 8 in
    let far : first_past (length s) at (found_sizes s) ≤ at + sum (found_sizes s) = first_past-sum (found_sizes s) (length s) at in
    let near : (at_chunks s).at ≤ 2014 = header_end s in
    by_cases s (λ (r p : ℕ). p < 281474976710656) (omega arith) (λ z. omega (arith, near))
    (λ z f. omega (arith, far, near, sizes_small (found s) (header-found s z).0))

-- ---- the refusals and the bits of some payloads
abbrev payloads : List (List ℕ × (ℕ × ℕ))
payloads =
    ([], (5, 0))
    ∷ (0x40 ∷ [], (6, 0))
    -- the second bit of a float depth code passes the end; the code is 3
    ∷ (0x10 ∷ 0x00 ∷ 0x00 ∷ 0x01 ∷ [], (5, 31))
    ∷ (0x10 ∷ 0x00 ∷ 0x00 ∷ 0x01 ∷ 0x80 ∷ [], (7, 31))
    -- a cclv cut in its flags byte, and in its remainder
    ∷ (0x01 ∷ 0x00 ∷ 0x00 ∷ 0x00 ∷ 0x10 ∷ [], (5, 39))
    ∷ (0x01 ∷ 0x00 ∷ 0x00 ∷ 0x00 ∷ 0x10 ∷ 0x08 ∷ [], (5, 47))
    -- the last trailing bit is set
    ∷ (0x00 ∷ 0x00 ∷ 0x00 ∷ 0x00 ∷ 0x00 ∷ 0x00 ∷ 0x01 ∷ 0xAA ∷ [], (8, 52))
    -- the main data is not there; the alpha data does not fit
    ∷ (0x00 ∷ 0x00 ∷ 0x00 ∷ 0x00 ∷ 0x00 ∷ 0x00 ∷ 0x00 ∷ [], (9, 56))
    ∷ (0x04 ∷ 0x00 ∷ 0x00 ∷ 0x00 ∷ 0x00 ∷ 0x00 ∷ 0x20 ∷ 0x00 ∷ 0x30 ∷ 0xA1 ∷ 0xA2 ∷ [], (9, 72))
    ∷ (0x00 ∷ 0x00 ∷ 0x00 ∷ 0x00 ∷ 0x00 ∷ 0x00 ∷ 0x00 ∷ 0xAA ∷ [], (0, 0))
    ∷ []

pub bits_read : map (λ x. ((read_mini x.0).refusal, (read_mini x.0).bit)) payloads ≡ map (λ x. x.1) payloads
unfolding ahead part bytes_of bytes_at read_bits read_bytes ◌>>=◌ view flags dimensions chroma float_code float_format integer_format sample_format explicit_cicp explicit_codec_types main_format tmap_cicp gain_map_dimension gain_map_format gain_map_header cclv_more cclv cclv_for hdr_boxes chunk_sizes header trailing_bits stored_sizes stored_spans end_within first_past image_of bits_to_boundary past_trailing_bits test_chunks read_chunks read_mini
bits_read = refl

-- the widths of the fields that do not fit, of those with refusal 5
pub widths_read : map refused_width
    ([]
    ∷ (0x10 ∷ 0x00 ∷ 0x00 ∷ 0x01 ∷ [])
    ∷ (0x01 ∷ 0x00 ∷ 0x00 ∷ 0x00 ∷ 0x10 ∷ [])
    ∷ (0x01 ∷ 0x00 ∷ 0x00 ∷ 0x00 ∷ 0x10 ∷ 0x08 ∷ [])
    ∷ [])
    ≡ 2 ∷ 2 ∷ 8 ∷ 32 ∷ []
unfolding ahead part bytes_of bytes_at read_bits read_bytes ◌>>=◌ view flags dimensions chroma float_code float_format integer_format sample_format explicit_cicp explicit_codec_types main_format tmap_cicp gain_map_dimension gain_map_format gain_map_header cclv_more cclv cclv_for hdr_boxes chunk_sizes header trailing_bits bits_to_boundary refused_width
widths_read = refl
