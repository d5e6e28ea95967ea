-- What is written is read back; what is read can be written; and what is written is the one shortest payload that reads so.
-- Assumes nothing.
use Rattle.std.specs.Prelude.{◌≡◌, refl, Bool, true, false, not, ◌&&◌, ◌||◌, ◌⊎◌, List, [], ◌∷◌, ◌++◌, map, ℕ, ◌+◌, ◌≤◌, ◌<◌, T, leb, ltb, length, take, drop, Option, Some, None, is_some}
use Rattle.std.proofs.Common.{sym, ap, ap₂, ◌∙◌, subst, true≢false, inl, inr, append_assoc, append-nil, arith, leb→le, length-append, length-take, length-drop, take-append-drop, take_at, length-take-le}
use Rattle.std.proofs.Math.Pow.{are_bytes}
use Rattle.bits.specs.State.{bytes_of}
use Rattle.bits.specs.Format.{◌>>=◌, and_split, and_join, field_if, minus1_if, length-bytes_of, bits_bytes, bytes_bits, view}
use Rattle.bits.specs.Bit.{bits_of, bits_of-append, length-bits_of}
use Rattle.mini.specs.Syntax.{header, chunk_sizes}
use Rattle.mini.specs.Read.{read_mini, Reading}
use Rattle.mini.specs.Chunks.{stored_sizes, chunk_if, stored_spans}
use Rattle.mini.specs.Image.{image_of}
use Rattle.mini.specs.Bytes.{bytes_take}
use Rattle.mini.specs.Cut.{within_of, sum, joined, cut, cut-joined, joined-cut, length-joined}
use Rattle.mini.specs.Payload.{header-bytes, header_padded, header_bits, chunks_start, Reads, accepted, reads_back, reads_inv, reads_image, found}
use Rattle.mini.specs.Same.{chunk_len, unplaced_chunk, unplaced, chunk_bytes, span_bytes, chunks_of, chunk_in, span_in, gain_in, well_placed, Same}
use Rattle.mini.specs.Write.{Choices, least, header_with, header_of, payload_with, payload_of, not_empty, writable}
use Rattle.mini.specs.RecordHeader.{parts, choices_of, image_again, header_again}
use Rattle.mini.proofs.RecordHeader.{chunks_again}
use Rattle.mini.specs.OptionalFields.{field_if-off}
use Rattle.mini.proofs.Narrowest.{Step, even, over, SameChoices, same_choices, least_good, least_step}
use Rattle.mini.specs.declared.Header.{Header}
use Rattle.octets.specs.declared.Span.{Span}
use Rattle.mini.specs.declared.MinimizedImage.{MinimizedImage}
use Rattle.mini.specs.RoundTrip.{ReadsTo}

-- ---- a printed header, its chunks and anything after them are a payload that reads to the header
pub printed : (h : Header) (cs : List (List ℕ)) (rest : List ℕ) → header.Good h → map length cs ≡ stored_sizes h.sizes
    → Reads (payload_with h cs ++ rest) h
unfolding payload_with
printed h cs rest good e =
    let p = bytes_of (chunks_start h) (header_bits h) in
    let lp : length p ≡ chunks_start h = length-bytes_of (chunks_start h) (header_bits h) in
    let ls : length (p ++ joined cs ++ rest) ≡ length p + length (joined cs) + length rest =
    length-append (p ++ joined cs) rest ∙ ap (λ (k : ℕ). k + length rest) (length-append p (joined cs)) in
    let lj : length (joined cs) ≡ sum (stored_sizes h.sizes) = length-joined cs ∙ ap sum e in
    let b : bits_of (p ++ joined cs ++ rest) ≡ header_bits h ++ bits_of (joined cs ++ rest) =
    ap bits_of (append_assoc p (joined cs) rest)
    ∙ bits_of-append p (joined cs ++ rest)
    ∙ ap (λ (m : List Bool). m ++ bits_of (joined cs ++ rest)) (bits_bytes (chunks_start h) (header_bits h) (header-bytes h)) in
    record {
      good = good;
      room = omega (arith, header-bytes h);
      same = ap (λ (m : List Bool). take (length (header_bits h)) m) b ∙ take_at (header_bits h) (bits_of (joined cs ++ rest)) _ refl;
      fit = within_of (stored_sizes h.sizes) _ (chunks_start h) (omega arith);
    }

pub printed_chunks : (h : Header) (cs : List (List ℕ)) (rest : List ℕ) → header.Good h → map length cs ≡ stored_sizes h.sizes
    → chunks_of (image_of h (chunks_start h)) (payload_with h cs ++ rest) ≡ cs
unfolding payload_with
printed_chunks h cs rest good e =
    let p = bytes_of (chunks_start h) (header_bits h) in
    let lp : length p ≡ chunks_start h = length-bytes_of (chunks_start h) (header_bits h) in
    chunks_again h (chunks_start h) (p ++ joined cs ++ rest) good
    ∙ ap₂ (λ (k : ℕ) (zs : List ℕ). cut k zs (p ++ joined cs ++ rest)) (sym lp) (sym e)
    ∙ ap (λ (s : List ℕ). cut (length p) (map length cs) s) (append_assoc p (joined cs) rest)
    ∙ joined-cut cs p rest

-- ---- a payload that reads to a header is its print, the chunks, and what is left
pub split : (s : List ℕ) (h : Header) → T (are_bytes s) → Reads s h
    → s ≡ payload_with h (chunks_of (image_of h (chunks_start h)) s) ++ drop (chunks_start h + sum (stored_sizes h.sizes)) s
unfolding payload_with
split s h bs r =
    let n = chunks_start h in
    let a = take n s in
    let hb = header_bits h in
    let ln : n ≤ length s = omega (arith, header-bytes h, r.room) in
    let la : length a ≡ n = length-take-le n s ln in
    let lb : length (bits_of a) ≡ length hb = length-bits_of a ∙ omega (arith, header-bytes h) in
    let e : bits_of s ≡ bits_of a ++ bits_of (drop n s) =
    ap bits_of (sym (take-append-drop n s)) ∙ bits_of-append a (drop n s) in
    let f : bits_of a ≡ hb =
    sym (take_at (bits_of a) (bits_of (drop n s)) (length hb) lb)
    ∙ ap (λ (m : List Bool). take (length hb) m) (sym e)
    ∙ r.same in
    let k : bytes_of n hb ≡ a =
    ap₂ (λ (j : ℕ) (m : List Bool). bytes_of j m) (sym la) (sym f) ∙ bytes_bits a (bytes_take n s bs) in
    let zs = stored_sizes h.sizes in
    sym (take-append-drop n s)
    ∙ ap₂ (λ (x : List ℕ) (y : List ℕ). x ++ y) (sym k) (cut-joined zs n s)
    ∙ sym (append_assoc (bytes_of n hb) (joined (cut n zs s)) (drop (n + sum zs) s))
    ∙ ap (λ (cs : List (List ℕ)). bytes_of n hb ++ joined cs ++ drop (n + sum zs) s) (sym (chunks_again h n s r.good))

-- ---- the lengths of a well-placed record's chunks
span_len : (n at : ℕ) (s : List ℕ) → T (leb (at + n) (length s)) → length (take n (drop at s)) ≡ n
span_len n at s h = simp (length-take, length-drop) (omega (arith, leb→le (at + n) (length s) h))

zero_len : (n at : ℕ) (s : List ℕ) → n ≡ 0 → length (take n (drop at s)) ≡ n
zero_len n at s e = simp length-take (omega arith)

chunk_len_lem : (c : Option Span) (s : List ℕ) → T (chunk_in c (length s)) → length (chunk_bytes c s) ≡ chunk_len c
chunk_len_lem None s h = refl
chunk_len_lem (Some x) s h = span_len x.len x.at s h

zero_chunk : (c : Option Span) (s : List ℕ) → chunk_len c ≡ 0 → length (chunk_bytes c s) ≡ chunk_len c
zero_chunk None s e = refl
zero_chunk (Some x) s e = zero_len x.len x.at s e

-- a gain map's four chunks: well placed, or all empty
gain_lens : (i : MinimizedImage) (s : List ℕ) (has : Bool)
    → T (not has || gain_in i (length s))
    → (has ≡ false → (chunk_len i.gain_map.codec_config ≡ 0) × (chunk_len i.gain_map.tmap_icc ≡ 0) × (i.gain_map.metadata.len ≡ 0) × (i.gain_map.«data».len ≡ 0))
    → (length (chunk_bytes i.gain_map.codec_config s) ≡ chunk_len i.gain_map.codec_config)
    × (length (chunk_bytes i.gain_map.tmap_icc s) ≡ chunk_len i.gain_map.tmap_icc)
    × (length (span_bytes i.gain_map.metadata s) ≡ i.gain_map.metadata.len)
    × (length (span_bytes i.gain_map.«data» s) ≡ i.gain_map.«data».len)
gain_lens i s true h z =
    let a = and_split (chunk_in i.gain_map.codec_config (length s)) _ h in
    let b = and_split (chunk_in i.gain_map.tmap_icc (length s)) _ a.1 in
    let c = and_split (span_in i.gain_map.metadata (length s)) _ b.1 in
    (chunk_len_lem i.gain_map.codec_config s a.0, chunk_len_lem i.gain_map.tmap_icc s b.0, span_len _ i.gain_map.metadata.at s c.0, span_len _ i.gain_map.«data».at s c.1)
gain_lens i s false h z =
    let e = z refl in
    (zero_chunk i.gain_map.codec_config s e.0, zero_chunk i.gain_map.tmap_icc s e.1, zero_len _ i.gain_map.metadata.at s e.2, zero_len _ i.gain_map.«data».at s e.3)

off-field : (has t : Bool) (w n : ℕ) → (field_if (has && t) w).Good n → has ≡ false → n ≡ 0
off-field true t w n g e = absurd (true≢false e)
off-field false t w n g e = g

off_more : (has t : Bool) (w n : ℕ) → (minus1_if (has && t) w).Good n → has ≡ false → n ≡ 0
off_more true t w n g e = absurd (true≢false e)
off_more false t w n g e = g

list11 : {a1 b1 : ℕ} {a2 b2 : ℕ} {a3 b3 : ℕ} {a4 b4 : ℕ} {a5 b5 : ℕ} {a6 b6 : ℕ} {a7 b7 : ℕ} {a8 b8 : ℕ} {a9 b9 : ℕ} {a10 b10 : ℕ} {a11 b11 : ℕ} → a1 ≡ b1 → a2 ≡ b2 → a3 ≡ b3 → a4 ≡ b4 → a5 ≡ b5 → a6 ≡ b6 → a7 ≡ b7 → a8 ≡ b8 → a9 ≡ b9 → a10 ≡ b10 → a11 ≡ b11
    → ◌≡◌ {A = List ℕ} (a1 ∷ a2 ∷ a3 ∷ a4 ∷ a5 ∷ a6 ∷ a7 ∷ a8 ∷ a9 ∷ a10 ∷ a11 ∷ []) (b1 ∷ b2 ∷ b3 ∷ b4 ∷ b5 ∷ b6 ∷ b7 ∷ b8 ∷ b9 ∷ b10 ∷ b11 ∷ [])
list11 e1 e2 e3 e4 e5 e6 e7 e8 e9 e10 e11 = λ j. e1 j ∷ e2 j ∷ e3 j ∷ e4 j ∷ e5 j ∷ e6 j ∷ e7 j ∷ e8 j ∷ e9 j ∷ e10 j ∷ e11 j ∷ []

chunk_lens : (i : MinimizedImage) (c : Choices) (s : List ℕ) → T (well_placed i s) → header.Good (header_with i c)
    → map length (chunks_of i s) ≡ stored_sizes (header_with i c).sizes
unfolding well_placed chunks_of header_with stored_sizes chunk_sizes ◌>>=◌ view
chunk_lens i c s w good =
    let n = length s in
    let g = parts (header_with i c) good in
    let has = i.has_gain_map in
    let a1 = and_split (span_in i.main_codec_config n) _ w in
    let a2 = and_split (chunk_in i.alpha_codec_config n) _ a1.1 in
    let a3 = and_split (not has || gain_in i n) _ a2.1 in
    let a4 = and_split (chunk_in i.icc n) _ a3.1 in
    let a5 = and_split (span_in i.alpha_data n) _ a4.1 in
    let a6 = and_split (span_in i.main_data n) _ a5.1 in
    let a7 = and_split (chunk_in i.exif n) _ a6.1 in
    let e = gain_lens i s has a3.0
    (λ f. (
      off-field has (ltb 0 i.gain_map.«data».len) _ _ g.sizes_ok.0.1.1.1.1.1.1.1.0 f,
      off_more has (is_some i.gain_map.tmap_icc) _ _ g.sizes_ok.0.1.1.1.1.0 f,
      field_if-off has _ _ g.sizes_ok.0.1.1.1.1.1.0 f,
      field_if-off has _ _ g.sizes_ok.0.1.1.1.1.1.1.0 f,
    )) in
    let x1 = span_len i.main_codec_config.len i.main_codec_config.at s a1.0 in
    let x2 = chunk_len_lem i.alpha_codec_config s a2.0 in
    let x4 = chunk_len_lem i.icc s a4.0 in
    let x7 = span_len i.alpha_data.len i.alpha_data.at s a5.0 in
    let x9 = span_len i.main_data.len i.main_data.at s a6.0 in
    let x10 = chunk_len_lem i.exif s a7.0 in
    let x11 = chunk_len_lem i.xmp s a7.1 in
    list11 x1 x2 e.0 x4 e.1 e.2 x7 e.3 x9 x10 x11

-- a record under any choices that print it, with its chunks and any bytes after them, is read back
pub written_with : (i : MinimizedImage) (c : Choices) (s rest : List ℕ) → T (well_placed i s) → header.Good (header_with i c)
    → T (not_empty i.alpha_codec_config) → T (not_empty i.gain_map.codec_config)
    → ReadsTo (payload_with (header_with i c) (chunks_of i s) ++ rest) i s
unfolding accepted
written_with i c s rest w good a b =
    let h = header_with i c in
    let cs = chunks_of i s in
    let q = payload_with h cs ++ rest in
    let l = chunk_lens i c s w good in
    let e : read_mini q ≡ accepted h = reads_back q h (printed h cs rest good l) in
    record {
      took = ap (λ (r : Reading). r.refusal) e;
      same = ap (λ (r : Reading). unplaced r.image) e ∙ image_again i c (chunks_start h) a b;
      chunks = ap (λ (r : Reading). chunks_of r.image q) e ∙ printed_chunks h cs rest good l;
    }

-- what is written is read back
pub written : (i : MinimizedImage) (s : List ℕ) → T (well_placed i s) → T (writable i) → ReadsTo (payload_of i s) i s
unfolding writable payload_of header_of
written i s w h =
    let a = and_split (header.good (header_of i)) _ h in
    let b = and_split (not_empty i.alpha_codec_config) (not_empty i.gain_map.codec_config) a.1 in
    subst (λ (q : List ℕ). ReadsTo q i s) (append-nil (payload_of i s))
    (written_with i (least i) s [] w ((header.dec (header_of i)).0 a.0) b.0 b.1)

-- ---- what is read can be written
not_empty_lem : (x : Span) → T (not_empty (chunk_if (ltb 0 x.len) x))
not_empty_lem x = go (ltb 0 x.len) refl
  where
    go : (t : Bool) → ltb 0 x.len ≡ t → T (not_empty (chunk_if t x))
    go true e = subst T (sym e) tt
    go false e = tt

-- the header found is that of the record read, under the choices found
found-header : (h : Header) (at : ℕ) → header.Good h → header.Good (header_with (image_of h at) (choices_of h))
found-header h at good = subst (λ (x : Header). header.Good x) (sym (header_again h at good)) good

configs : (h : Header) (at : ℕ) → T (not_empty (image_of h at).alpha_codec_config) × T (not_empty (image_of h at).gain_map.codec_config)
unfolding image_of stored_spans
configs h at = let p = stored_spans h.sizes at in (not_empty_lem p.alpha_codec_config, not_empty_lem p.gain_map_codec_config)

image_writable : (h : Header) (at : ℕ) → header.Good h → T (writable (image_of h at))
unfolding writable header_of
image_writable h at good =
    let i = image_of h at in
    let k = (header.dec (header_of i)).1 (least_good i (choices_of h) (found-header h at good)) in
    and_join (header.good (header_of i)) (not_empty i.alpha_codec_config && not_empty i.gain_map.codec_config)
    (k, and_join (not_empty i.alpha_codec_config) (not_empty i.gain_map.codec_config) (configs h at))

pub read_writable : (s : List ℕ) → (read_mini s).refusal ≡ 0 → T (writable (read_mini s).image)
unfolding accepted
read_writable s z =
    let h = found s in
    subst (λ (r : Reading). T (writable r.image)) (sym (reads_image s z)) (image_writable h (chunks_start h) (reads_inv s z).good)

-- a record is as writable as the same record in other places
len_unplaced : (c : Option Span) → chunk_len (unplaced_chunk c) ≡ chunk_len c
len_unplaced None = refl
len_unplaced (Some x) = refl

present_unplaced : (c : Option Span) → is_some (unplaced_chunk c) ≡ is_some c
present_unplaced None = refl
present_unplaced (Some x) = refl

empty_unplaced : (c : Option Span) → not_empty (unplaced_chunk c) ≡ not_empty c
empty_unplaced None = refl
empty_unplaced (Some x) = refl

pub header-unplaced : (i : MinimizedImage) → header_of (unplaced i) ≡ header_of i
unfolding header_of header_with least unplaced
header-unplaced i = simp (len_unplaced, present_unplaced)

pub writable-unplaced : (i : MinimizedImage) → writable (unplaced i) ≡ writable i
unfolding writable unplaced
writable-unplaced i =
    ap (λ (h : Header). header.good h && (not_empty (unplaced_chunk i.alpha_codec_config) && not_empty (unplaced_chunk i.gain_map.codec_config))) (header-unplaced i)
    ∙ simp empty_unplaced

pub reads_writable : (s : List ℕ) (i : MinimizedImage) (t : List ℕ) → ReadsTo s i t → T (writable i)
reads_writable s i t r =
    subst T (sym (writable-unplaced (read_mini s).image) ∙ ap writable r.same ∙ writable-unplaced i) (read_writable s r.took)

-- ---- what is written is the one shortest payload
pub len_payload : (h : Header) (cs : List (List ℕ)) → length (payload_with h cs) ≡ chunks_start h + length (joined cs)
unfolding payload_with
len_payload h cs =
    length-append (bytes_of (chunks_start h) (header_bits h)) (joined cs)
    ∙ ap (λ (k : ℕ). k + length (joined cs)) (length-bytes_of (chunks_start h) (header_bits h))

tail_cases : (q s rest : List ℕ) → s ≡ q ++ rest → (s ≡ q) ⊎ (length q < length s)
tail_cases q s [] e = inl (e ∙ append-nil q)
tail_cases q s (b ∷ rest) e = inr (omega (arith, ap length e, length-append q (b ∷ rest)))

-- the header h under its record's narrowest choices, or nine bits more at least
shortest_of : (s : List ℕ) (h : Header) → T (are_bytes s) → Reads s h
    → (s ≡ payload_of (image_of h (chunks_start h)) s) ⊎ (length (payload_of (image_of h (chunks_start h)) s) < length s)
unfolding payload_of header_of
shortest_of s h bs r = go (least_step j c (found-header h (chunks_start h) r.good))
  where
    j : MinimizedImage
    j = image_of h (chunks_start h)

    c : Choices
    c = choices_of h

    cs : List (List ℕ)
    cs = chunks_of j s

    rest : List ℕ
    rest = drop (chunks_start h + sum (stored_sizes h.sizes)) s

    again : header_with j c ≡ h
    again = header_again h (chunks_start h) r.good

    sp : s ≡ payload_with h cs ++ rest
    sp = split s h bs r

    go : Step (SameChoices (least j) c) (length (header.print (header_with j (least j)))) (length (header.print (header_with j c)))
        → (s ≡ payload_with (header_with j (least j)) cs) ⊎ (length (payload_with (header_with j (least j)) cs) < length s)
    go (even e f) =
        tail_cases (payload_with (header_with j (least j)) cs) s rest
        (sp ∙ ap (λ (x : Header). payload_with x cs ++ rest) (sym again ∙ ap (λ (x : Choices). header_with j x) (sym (same_choices (least j) c e))))
    go (over f) =
        inr
        (omega (
          arith,
          ap length sp,
          length-append (payload_with h cs) rest,
          len_payload h cs,
          len_payload (header_with j (least j)) cs,
          header_padded h,
          header_padded (header_with j (least j)),
          ap (λ (x : Header). length (header.print x)) again,
        ))

-- records that are the same have one payload
pub same_payload : (i : MinimizedImage) (s : List ℕ) (j : MinimizedImage) (t : List ℕ) → Same i s j t → payload_of i s ≡ payload_of j t
unfolding payload_of
same_payload i s j t same =
    ap₂ payload_with (sym (header-unplaced i) ∙ ap header_of same.fields ∙ header-unplaced j) same.chunks

pub shortest : (s : List ℕ) (i : MinimizedImage) (t : List ℕ) → T (are_bytes s) → ReadsTo s i t
    → (s ≡ payload_of i t) ⊎ (length (payload_of i t) < length s)
unfolding accepted
shortest s i t bs r =
    let j = image_of (found s) (chunks_start (found s)) in
    let e : read_mini s ≡ accepted (found s) = reads_image s r.took in
    let same : Same j s i t =
    record {
      fields = sym (ap (λ (x : Reading). unplaced x.image) e) ∙ r.same;
      chunks = sym (ap (λ (x : Reading). chunks_of x.image s) e) ∙ r.chunks;
    } in
    subst (λ (y : List ℕ). (s ≡ y) ⊎ (length y < length s)) (same_payload j s i t same) (shortest_of s (found s) bs (reads_inv s r.took))
