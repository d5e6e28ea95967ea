-- The length that a box needs, and the ways through the answer of writing. Assumes nothing.
use Rattle.std.specs.Prelude.{◌≡◌, ℕ, ◌+◌, ◌-◌, ◌^◌, ◌<◌, ◌≤◌, Bool, false, cond, T, List, ◌++◌, length, take, drop, nat_lt, Option, Some, None}
use Rattle.std.proofs.Common.{sym, ap, ap₂, ◌∙◌, subst, arith, length-append, length-take, lt-ltb, le-ltb}
use Rattle.octets.specs.Overwrite.{overwrite, Wrote}
use Rattle.octets.specs.OverwriteLaws.{overwrite_before, overwrite-append, length-overwrite}
use Rattle.boxes.specs.Boxed.{boxed, box_header, HeaderPut, length-boxed, length-box_header}
use Rattle.bits.specs.State.{bytes_of}
use Rattle.bits.specs.Format.{length-bytes_of, and_split}
use Rattle.mini.specs.Cut.{joined}
use Rattle.mini.specs.HeaderLength.{near_header}
use Rattle.mini.specs.NoPayloadGives.{lawful}
use Rattle.mini.specs.Payload.{header_bits, chunks_start, header_padded}
use Rattle.mini.specs.Same.{chunk_len, chunk_bytes, chunks_of}
use Rattle.mini.specs.Syntax.{header}
use Rattle.mini.specs.Write.{header_of, payload_of, payload_with, writable}
use Rattle.octets.specs.declared.Span.{Span}
use Rattle.mini.specs.declared.Header.{Header}
use Rattle.mini.specs.declared.MinimizedImage.{MinimizedImage}
use Rattle.writer.specs.Laid.{Laid}
use Rattle.writer.specs.ToBox.{box_of, refused, written, HeaderHeld}
use Rattle.refusals.specs.Outcome.{Written}

take-le : (n : ℕ) (l : List ℕ) → length (take n l) ≤ n
take-le n l = simp length-take (omega arith)

chunk_le : (c : Option Span) (s : List ℕ) → length (chunk_bytes c s) ≤ chunk_len c
chunk_le None s = omega arith
chunk_le (Some x) s = take-le x.len (drop x.at s)

chunks_small : (i : MinimizedImage) (s : List ℕ) → T (writable i) → length (joined (chunks_of i s)) ≤ 2952790016
unfolding chunks_of
chunks_small i s h =
    let z = lawful i h in
    let c1 = chunk_le i.alpha_codec_config s in
    let c2 = chunk_le i.gain_map.codec_config s in
    let c3 = chunk_le i.icc s in
    let c4 = chunk_le i.gain_map.tmap_icc s in
    let c5 = chunk_le i.exif s in
    let c6 = chunk_le i.xmp s in
    let d1 = take-le i.main_codec_config.len (drop i.main_codec_config.at s) in
    let d2 = take-le i.gain_map.metadata.len (drop i.gain_map.metadata.at s) in
    let d3 = take-le i.alpha_data.len (drop i.alpha_data.at s) in
    let d4 = take-le i.gain_map.«data».len (drop i.gain_map.«data».at s) in
    let d5 = take-le i.main_data.len (drop i.main_data.at s) in
    simp length-append
    (omega (
      arith,
      z.icc_size,
      z.tmap_icc_size,
      z.exif_size,
      z.xmp_size,
      z.metadata_size,
      z.main_size,
      z.alpha_size,
      z.gain_size,
      z.config_size.0,
      z.config_size.1,
      z.config_size.2,
    ))

pub payload-length : (i : MinimizedImage) (s : List ℕ) → length (payload_of i s) ≡ chunks_start (header_of i) + length (joined (chunks_of i s))
unfolding payload_of payload_with
payload-length i s = simp (length-append, length-bytes_of)

start_small : (h : Header) → header.Good h → chunks_start h ≤ 251
start_small h good = let l : length (header.print h) ≤ 2007 = near_header.long h good in omega (arith, header_padded h)

-- no box reaches the size that a 32-bit size field cannot tell
pub box_small : (i : MinimizedImage) (s : List ℕ) → T (writable i) → length (box_of i s) < 4294967296
unfolding box_of writable
box_small i s w =
    let a = start_small (header_of i) ((header.dec (header_of i)).0 (and_split (header.good (header_of i)) _ w).0) in
    omega (arith, chunks_small i s w, payload-length i s, length-boxed 0x6D696E69 (payload_of i s))

pub record Needed (i : MinimizedImage) (s : List ℕ) (k : ℕ) : Type 0 where
  pub is : k ≡ length (box_of i s)
  pub payload : k ≡ 8 + length (payload_of i s)
  pub parts : k ≡ 8 + (chunks_start (header_of i) + length (joined (chunks_of i s)))
  pub small : k < 4294967296

pub needed : (i : MinimizedImage) (s : List ℕ) {bytes z z' : List ℕ} (len : ℕ) {k : ℕ} → T (writable i) → HeaderHeld (header_of i) bytes len
    → Laid z (8 + len) (joined (chunks_of i s)) z' k → Needed i s k
unfolding box_of
needed i s len {k} h c q =
    let l = chunks_small i s h in
    let e : k ≡ 8 + (chunks_start (header_of i) + length (joined (chunks_of i s))) = omega (arith, q.next, c.end, c.small) in
    let f : k ≡ 8 + length (payload_of i s) = omega (arith, payload-length i s) in
    record { is = f ∙ sym (length-boxed 0x6D696E69 (payload_of i s)); payload = f; parts = e; small = omega (arith, c.end, c.small) }

pub too_short : (i : MinimizedImage) (s o : List ℕ) {k : ℕ} → Needed i s k → length o < k → refused 16 k o ≡ written i s o
unfolding written
too_short i s o n h =
    ap (λ (j : ℕ). refused 16 j o) n.is
    ∙ sym (ap (λ (t : Bool). cond t (refused 16 (length (box_of i s)) o) (record { refusal = 0; value = length (box_of i s) }, overwrite o 0 (box_of i s)))
    (lt-ltb (length o) (length (box_of i s)) (subst (λ (j : ℕ). length o < j) n.is h)))

-- the header's bytes, the chunks after them, and the box header in front are the box
pub boxed-all : (i : MinimizedImage) (s o : List ℕ) (len : ℕ) (bytes : List ℕ) {o₁ o₂ o₃ : List ℕ} {at k m r r' : ℕ} → Needed i s k → k ≤ length o
    → length o < 2 ^ 64 → HeaderHeld (header_of i) bytes len → Wrote o 8 m (take (len - 0) bytes) o₁ at → Laid o₁ at (joined (chunks_of i s)) o₂ r
    → HeaderPut o₂ 0 (k - 8) 0x6D696E69 o₃ r' → ◌≡◌ {A = Written × List ℕ} (record { refusal = 0; value = k }, o₃) (written i s o)
unfolding written box_of payload_of payload_with boxed
boxed-all i s o len bytes {o₁} {o₂} {o₃} {at} {k} n room small held w l p =
    let hb = take (len - 0) bytes in
    let z : len - 0 ≡ len = omega arith in
    let e : hb ≡ bytes_of (chunks_start (header_of i)) (header_bits (header_of i)) = ap (λ (j : ℕ). take j bytes) z ∙ held.there in
    let cs = joined (chunks_of i s) in
    let hs = box_header 0x6D696E69 (k - 8) in
    let lo : length o₁ ≡ length o = ap length w.left ∙ length-overwrite o 8 hb in
    let lb : length hb ≡ chunks_start (header_of i) = ap length e ∙ length-bytes_of (chunks_start (header_of i)) (header_bits (header_of i)) in
    let a : at ≡ 8 + length hb = omega (arith, w.next, w.size) in
    let lh : 8 ≡ 0 + length hs = omega (arith, length-box_header 0x6D696E69 (k - 8)) in
    let f : o₂ ≡ overwrite o 8 (hb ++ cs) =
    l.left (omega (arith, lo)) (omega (arith, lo, lb, a, n.parts))
    ∙ ap₂ (λ (x : List ℕ) (j : ℕ). overwrite x j cs) w.left a
    ∙ sym (overwrite-append o 8 hb cs) in
    let g : o₃ ≡ overwrite o 0 (hs ++ (hb ++ cs)) =
    p.left
    ∙ ap (λ (x : List ℕ). overwrite x 0 hs) (f ∙ ap (λ (j : ℕ). overwrite o j (hb ++ cs)) lh)
    ∙ overwrite_before o 0 hs (hb ++ cs) in
    let lp : k - 8 ≡ length (payload_of i s) = omega (arith, n.payload) in
    let b : hs ++ (hb ++ cs) ≡ box_of i s =
    ap₂ (λ (j : ℕ) (x : List ℕ). box_header 0x6D696E69 j ++ (x ++ cs)) lp e in
    let f0 : nat_lt (length o) (length (box_of i s)) ≡ false = le-ltb (length o) (length (box_of i s)) (omega (arith, n.is)) in
    ap₂ (λ (j : ℕ) (x : List ℕ). (record { refusal = 0; value = j }, x)) n.is (g ∙ ap (λ (x : List ℕ). overwrite o 0 x) b)
    ∙ sym (ap (λ (t : Bool). cond t (refused 16 (length (box_of i s)) o) (record { refusal = 0; value = length (box_of i s) }, overwrite o 0 (box_of i s))) f0)
