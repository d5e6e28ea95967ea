-- What an outline tells of a payload that is accepted: the parts of the header follow one another and end where the main configuration begins, the
-- chunks have the sizes given and lie one after another in the stored order, and the bytes counted as ignored are not needed. Assumes nothing.
use Rattle.std.specs.Prelude.{◌≡◌, ℕ, ◌+◌, ◌-◌, ◌*◌, ◌/◌, ◌%◌, ◌≤◌, ◌<◌, Bool, true, false, T, List, [], ◌∷◌, ◌++◌, map, length, take, drop, ◌==◌, nat_lt, slice_index, slice_index_or, refl, Option, Some, None}
use Rattle.std.proofs.Common.{sym, ap, ap₂, ◌∙◌, subst, arith, length-append, take-append-drop, length-take-le, eqb-true}
use Rattle.std.proofs.lemmas.List.{get_or-map, take-append-le}
use Rattle.std.proofs.lemmas.Bool.{eqb-false}
use Rattle.bits.specs.Bit.{bits_of, bits_of-append, length-bits_of, length-bits_n}
use Rattle.bits.specs.State.{State, clean}
use Rattle.bits.specs.Format.{Format, ◌>>=◌, view, field_if, test_passed}
use Rattle.mini.specs.Chunks.{given_sizes, stored_sizes, stored_spans, end_within, chunk_if, span_if}
use Rattle.mini.specs.Cut.{sum, within_of, of_within}
use Rattle.mini.specs.HeaderLength.{header_end}
use Rattle.mini.specs.Image.{image_of}
use Rattle.mini.specs.Payload.{header_bits, chunks_start, header-bytes, Reads, accepted, found, reads_inv, reads_back, reads_image}
use Rattle.mini.specs.Read.{bits_to_boundary, past_trailing_bits, test_chunks, reading_if, read_chunks, read_mini, Reading}
use Rattle.mini.specs.RecordHeader.{parts, choices_of, header_again}
use Rattle.mini.specs.Same.{chunk_len}
use Rattle.mini.specs.Syntax.{chunk_sizes, header, trailing_bits}
use Rattle.mini.specs.Write.{header_with}
use Rattle.mini.specs.declared.ChunkSizes.{ChunkSizes}
use Rattle.mini.specs.declared.Header.{Header}
use Rattle.mini.specs.declared.MinimizedImage.{MinimizedImage}
use Rattle.octets.specs.declared.Span.{Span}
use Rattle.outline.specs.Chunks.{given_order, stored_order, given_chunks, chunk_of, chunks_end, ignored}
use Rattle.outline.specs.Ends.{Parts, ◌next◌, done, header_parts, part_states, places, part_ends, whole_header}

-- ---- the ends of the parts
-- the eleventh part ends where the header does
pub header-ends : (s : List ℕ) → slice_index (part_ends s) 10 ≡ (header.parse s (clean 0)).1.at
unfolding part_ends places part_states header_parts ◌next◌
header-ends s = ap (λ (b : State). b.at) (whole_header s (clean 0))

none_met : (b : State) (t : Bool) (i : MinimizedImage) → (b.refusal == 0) ≡ t → (reading_if t b i).refusal ≡ 0
    → (b.refusal ≡ 0) × ((reading_if t b i).image ≡ i)
none_met b true i e z = (eqb-true b.refusal 0 e, refl)
none_met b false i e z = absurd (eqb-false b.refusal 0 e z)

-- an accepted payload meets no refusal before the chunks, and each of them ends within it
pub accepted_chunks : (s : List ℕ) → (read_mini s).refusal ≡ 0
    → let b = past_trailing_bits s (header.parse s (clean 0)).1 in
    (b.refusal ≡ 0) × T (end_within (length s) (b.at / 8) (stored_sizes (header.parse s (clean 0)).0.sizes))
unfolding read_mini read_chunks test_chunks
accepted_chunks s z =
    let r = header.parse s (clean 0) in
    let b = past_trailing_bits s r.1 in
    let w = none_met (test_chunks s r.0.sizes b) _ _ refl z in
    let c = test_passed 9 tt _ b (end_within (length s) (b.at / 8) (stored_sizes r.0.sizes)) w.0 in
    (c.0, c.1)

-- what it tells of the header's end, the place after the trailing bits, and the record
record AtChunks (s : List ℕ) : Type 0 where
  moved : (past_trailing_bits s (header.parse s (clean 0)).1).at ≡ (header.parse s (clean 0)).1.at + (8 - (header.parse s (clean 0)).1.at % 8) % 8
  image : (read_mini s).image ≡ image_of (header.parse s (clean 0)).0 ((past_trailing_bits s (header.parse s (clean 0)).1).at / 8)

at_chunks_lem : (s : List ℕ) → (read_mini s).refusal ≡ 0 → AtChunks s
unfolding read_mini read_chunks test_chunks past_trailing_bits trailing_bits bits_to_boundary view
at_chunks_lem s z =
    let r = header.parse s (clean 0) in
    let b = past_trailing_bits s r.1 in
    let n = (8 - r.1.at % 8) % 8 in
    let g = (trailing_bits n).inv s r.1 (accepted_chunks s z).0 in
    record {
      moved = omega (arith, g.moved, length-bits_n n 0);
      image = (none_met (test_chunks s r.0.sizes b) _ _ refl z).1;
    }

-- and the twelfth where the main configuration begins
pub main_begins : (s : List ℕ) → (read_mini s).refusal ≡ 0 → slice_index (part_ends s) 11 ≡ 8 * (read_mini s).image.main_codec_config.at
unfolding part_ends places part_states header_parts ◌next◌ image_of stored_spans
main_begins s z =
    let a = at_chunks_lem s z in
    let p = (past_trailing_bits s (header.parse s (clean 0)).1).at in
    let e : p ≡ 8 * (p / 8) = omega (arith, a.moved) in
    ap (λ (x : State). (past_trailing_bits s x).at) (whole_header s (clean 0))
    ∙ e
    ∙ ap (λ (i : MinimizedImage). 8 * i.main_codec_config.at) (sym a.image)

-- ---- no part ends before the one that it follows, and the last ends within 2,014 bits
unfoldable pub Rising : ℕ → List ℕ → ℕ → Type 0
Rising from [] to = from ≤ to
Rising from (end ∷ ends) to = (from ≤ end) × Rising end ends to

abbrev Rises : Parts → Type 0
Rises k =
    (s : List ℕ) (b : State) → b.at ≤ 8 * length s
    → Rising b.at (places (k s b).0) (k s b).1.at × ((k s b).1.at ≤ 8 * length s)

rises_done : Rises done
unfolding Rising places
rises_done s b h = (omega arith, h)

rises_next : {A : Type 0} (p : Format A) (k : A → Parts) → ((a : A) → Rises (k a)) → Rises (p next k)
unfolding Rising places ◌next◌
rises_next p k e s b h =
    let r = p.parse s b in
    let g = p.stays s b h in
    let u = e r.0 s r.1 g.1 in
    ((g.0, u.0), u.1)

header_rises : Rises header_parts
unfolding header_parts
header_rises =
    rises_next _ _ λ f. rises_next _ _ λ d. rises_next _ _ λ c. rises_next _ _ λ o. rises_next _ _ λ p. rises_next _ _ λ i. rises_next _ _ λ t. rises_next _ _ λ g. rises_next _ _ λ h. rises_next _ _ λ m. rises_next _ _ λ z. rises_done

rising_last : (from : ℕ) (l : List State) (to : ℕ) (last : State) (most : ℕ) → Rising from (places l) to → to ≤ last.at → last.at ≤ most
    → Rising from (places (l ++ (last ∷ []))) most
unfolding Rising places
rising_last from [] to last most r a b = (omega arith, b)
rising_last from (c ∷ l) to last most r a b = (r.0, rising_last c.at l to last most r.1 a b)

-- of every payload, refused or not
pub ends_rise : (s : List ℕ) → Rising 0 (part_ends s) 2014
unfolding part_ends part_states past_trailing_bits
ends_rise s =
    let b = (header_parts s (clean 0)).1 in
    let u = header_rises s (clean 0) (omega arith) in
    rising_last 0 (header_parts s (clean 0)).0 b.at (past_trailing_bits s b) 2014 u.0
    ((trailing_bits (bits_to_boundary b.at)).stays s b u.1).0
    (subst (λ (c : State). (past_trailing_bits s c).at ≤ 2014) (sym (whole_header s (clean 0))) (header_end s))

-- ---- the chunks of a header's record
-- a span whose owner is absent has size 0
span_len : (t : Bool) (w : ℕ) (x : Span) → (field_if t w).Good x.len → chunk_len (chunk_if t (span_if t x)) ≡ x.len
span_len true w x g = refl
span_len false w x g = sym g

alpha_len : (t : Bool) (w : ℕ) (x : Span) → (field_if t w).Good x.len → chunk_len (chunk_if t x) ≡ x.len
alpha_len true w x g = refl
alpha_len false w x g = sym g

-- each chunk has the size given for it
record Sized (i : MinimizedImage) (z : ChunkSizes) : Type 0 where
  icc : chunk_len i.icc ≡ z.icc
  tmap_icc : chunk_len i.gain_map.tmap_icc ≡ z.tmap_icc
  gain_map_metadata : chunk_len (chunk_if i.has_gain_map i.gain_map.metadata) ≡ z.gain_map_metadata
  gain_map_data : chunk_len (chunk_if i.has_gain_map i.gain_map.«data») ≡ z.gain_map_data
  gain_map_config : chunk_len i.gain_map.codec_config ≡ z.gain_map_codec_config
  main_config : chunk_len (chunk_if true i.main_codec_config) ≡ z.main_codec_config
  main_data : chunk_len (chunk_if true i.main_data) ≡ z.main_data
  alpha_data : chunk_len (chunk_if i.alpha i.alpha_data) ≡ z.alpha_data
  alpha_config : chunk_len i.alpha_codec_config ≡ z.alpha_codec_config
  exif : chunk_len i.exif ≡ z.exif
  xmp : chunk_len i.xmp ≡ z.xmp

sized : (h : Header) (at : ℕ) → header.Good h → Sized (image_of h at) h.sizes
unfolding header_with image_of stored_spans chunk_sizes ◌>>=◌ view
sized h at good =
    let g = (parts h good).sizes_ok.0 in
    let z = h.sizes in
    let p = stored_spans z at in
    let has = h.gain_map.present in
    let e : (header_with (image_of h at) (choices_of h)).sizes ≡ z = ap (λ (x : Header). x.sizes) (header_again h at good) in
    record {
      icc = ap (λ (x : ChunkSizes). x.icc) e;
      tmap_icc = ap (λ (x : ChunkSizes). x.tmap_icc) e;
      gain_map_metadata = span_len has _ p.gain_map_metadata g.1.1.1.1.1.0;
      gain_map_data = span_len has _ p.gain_map_data g.1.1.1.1.1.1.0;
      gain_map_config = ap (λ (x : ChunkSizes). x.gain_map_codec_config) e;
      main_config = refl;
      main_data = refl;
      alpha_data = alpha_len h.flags.alpha _ p.alpha_data g.1.1.1.1.1.1.1.1.1.1.0;
      alpha_config = ap (λ (x : ChunkSizes). x.alpha_codec_config) e;
      exif = ap (λ (x : ChunkSizes). x.exif) e;
      xmp = ap (λ (x : ChunkSizes). x.xmp) e;
    }

given_chunks_lem : (i : MinimizedImage) (z : ChunkSizes) → Sized i z → map (λ n. chunk_len (chunk_of i n)) given_order ≡ given_sizes z
unfolding given_order chunk_of given_chunks given_sizes
given_chunks_lem i z e =
    simp (e.icc, e.tmap_icc, e.gain_map_metadata, e.gain_map_data, e.gain_map_config, e.main_config, e.main_data, e.alpha_data, e.alpha_config, e.exif, e.xmp)

stored_chunks_lem : (i : MinimizedImage) (z : ChunkSizes) → Sized i z → map chunk_len (map (chunk_of i) stored_order) ≡ stored_sizes z
unfolding stored_order chunk_of given_chunks stored_sizes
stored_chunks_lem i z e =
    simp (e.icc, e.tmap_icc, e.gain_map_metadata, e.gain_map_data, e.gain_map_config, e.main_config, e.main_data, e.alpha_data, e.alpha_config, e.exif, e.xmp)

-- absent ones passed over, each begins where the one before ends
unfoldable pub Adjoin : ℕ → List (Option Span) → Type 0
Adjoin at [] = Unit {0}
Adjoin at (None ∷ l) = Adjoin at l
Adjoin at (Some x ∷ l) = (x.at ≡ at) × Adjoin (at + x.len) l

adjoin_none : (at : ℕ) → Adjoin at []
unfolding Adjoin
adjoin_none at = tt

adjoin_next : (t : Bool) (x : Span) (l : List (Option Span)) → chunk_len (chunk_if t x) ≡ x.len → Adjoin (x.at + x.len) l → Adjoin x.at (chunk_if t x ∷ l)
unfolding Adjoin
adjoin_next true x l e a = (refl, a)
adjoin_next false x l e a = subst (λ (k : ℕ). Adjoin k l) (omega (arith, e)) a

adjoin_span : (t : Bool) (x : Span) (l : List (Option Span)) → chunk_len (chunk_if t (span_if t x)) ≡ x.len → Adjoin (x.at + x.len) l
    → Adjoin x.at (chunk_if t (span_if t x) ∷ l)
unfolding Adjoin
adjoin_span true x l e a = (refl, a)
adjoin_span false x l e a = subst (λ (k : ℕ). Adjoin k l) (omega (arith, e)) a

stored_chunks : (h : Header) (at : ℕ) → header.Good h → Adjoin at (map (chunk_of (image_of h at)) stored_order)
unfolding stored_order chunk_of given_chunks image_of stored_spans
stored_chunks h at good =
    let e = sized h at good in
    let f = h.flags in
    let has = h.gain_map.present in
    let z = h.sizes in
    let p = stored_spans z at in
    adjoin_next true p.main_codec_config _ refl
    (adjoin_next (nat_lt 0 z.alpha_codec_config) p.alpha_codec_config _ e.alpha_config
    (adjoin_next (nat_lt 0 z.gain_map_codec_config) p.gain_map_codec_config _ e.gain_map_config
    (adjoin_next f.icc p.icc _ e.icc
    (adjoin_next h.gain_map.tmap_icc p.tmap_icc _ e.tmap_icc
    (adjoin_span has p.gain_map_metadata _ e.gain_map_metadata
    (adjoin_next f.alpha p.alpha_data _ e.alpha_data
    (adjoin_span has p.gain_map_data _ e.gain_map_data
    (adjoin_next true p.main_data _ refl
    (adjoin_next f.exif p.exif _ e.exif
    (adjoin_next f.xmp p.xmp [] e.xmp (adjoin_none _)))))))))))

-- one that has bytes is there, and begins where those before it end
adjoined : (l : List (Option Span)) (at : ℕ) (before : List ℕ) (size : ℕ) (after : List ℕ) → Adjoin at l → map chunk_len l ≡ before ++ (size ∷ after)
    → 0 < size → slice_index_or l (length before) None ≡ Some (record { at = at + sum before; len = size })
unfolding Adjoin
adjoined [] at [] size after a e h = absurd (cc)
adjoined [] at (y ∷ before) size after a e h = absurd (cc)
adjoined (None ∷ l) at [] size after a e h = let same : 0 ≡ size = cc in absurd (omega (arith, same))
adjoined (Some x ∷ l) at [] size after a e h =
    let same : x.len ≡ size = cc in
    let begins : x.at ≡ at + sum [] = omega (arith, a.0) in
    ap₂ (λ (k n : ℕ). Some (record { at = k; len = n })) begins same
adjoined (None ∷ l) at (y ∷ before) size after a e h =
    let same : 0 ≡ y = cc in
    let rest : map chunk_len l ≡ before ++ (size ∷ after) = cc in
    let sums : at + sum before ≡ at + sum (y ∷ before) = omega (arith, same) in
    adjoined l at before size after a rest h ∙ ap (λ (k : ℕ). Some (record { at = k; len = size })) sums
adjoined (Some x ∷ l) at (y ∷ before) size after a e h =
    let same : x.len ≡ y = cc in
    let rest : map chunk_len l ≡ before ++ (size ∷ after) = cc in
    let sums : at + x.len + sum before ≡ at + sum (y ∷ before) = omega (arith, same) in
    adjoined l (at + x.len) before size after a.1 rest h ∙ ap (λ (k : ℕ). Some (record { at = k; len = size })) sums

pub chunk_begins : (h : Header) (at : ℕ) → header.Good h → (before : List ℕ) (size : ℕ) (after : List ℕ)
    → stored_sizes h.sizes ≡ before ++ (size ∷ after) → 0 < size
    → chunk_of (image_of h at) (slice_index stored_order (length before)) ≡ Some (record { at = at + sum before; len = size })
unfolding stored_order stored_sizes
chunk_begins h at good before size after e n =
    let i = image_of h at in
    let l : length (before ++ (size ∷ after)) ≡ length before + length (size ∷ after) = length-append before (size ∷ after) in
    let eleven : 11 ≡ length (before ++ (size ∷ after)) = ap length e in
    sym (get_or-map (chunk_of i) stored_order (length before) 0 None (omega (arith, l, eleven)))
    ∙ adjoined (map (chunk_of i) stored_order) at before size after (stored_chunks h at good)
    (stored_chunks_lem i h.sizes (sized h at good) ∙ e) n

chunks_end_lem : (h : Header) (at : ℕ) → header.Good h → chunks_end (image_of h at) ≡ at + sum (stored_sizes h.sizes)
unfolding chunks_end stored_sizes image_of stored_spans
chunks_end_lem h at good = let e = sized h at good in omega (arith, e.exif, e.xmp)

-- ---- the chunks of an accepted payload's record
read_image : (s : List ℕ) → (read_mini s).refusal ≡ 0 → (read_mini s).image ≡ image_of (found s) (chunks_start (found s))
unfolding accepted
read_image s z = ap (λ (r : Reading). r.image) (reads_image s z)

-- they have the sizes that the header gives
pub sizes_as_given : (s : List ℕ) → (read_mini s).refusal ≡ 0
    → map (λ n. chunk_len (chunk_of (read_mini s).image n)) given_order ≡ given_sizes (found s).sizes
sizes_as_given s z =
    let h = found s in
    given_chunks_lem (read_mini s).image h.sizes
    (subst (λ (i : MinimizedImage). Sized i h.sizes) (sym (read_image s z)) (sized h (chunks_start h) (reads_inv s z).good))

-- and lie in the stored order, from the main configuration on
pub lie_as_stored : (s : List ℕ) → (read_mini s).refusal ≡ 0
    → Adjoin (read_mini s).image.main_codec_config.at (map (chunk_of (read_mini s).image) stored_order)
unfolding image_of stored_spans
lie_as_stored s z =
    let h = found s in
    subst (λ (i : MinimizedImage). Adjoin i.main_codec_config.at (map (chunk_of i) stored_order)) (sym (read_image s z))
    (stored_chunks h (chunks_start h) (reads_inv s z).good)

-- ---- the bytes after them
end_is : (s : List ℕ) → (read_mini s).refusal ≡ 0 → chunks_end (read_mini s).image ≡ chunks_start (found s) + sum (stored_sizes (found s).sizes)
end_is s z = ap chunks_end (read_image s z) ∙ chunks_end_lem (found s) (chunks_start (found s)) (reads_inv s z).good

end_in : (s : List ℕ) → (read_mini s).refusal ≡ 0 → chunks_end (read_mini s).image ≤ length s
end_in s z =
    let h = found s in
    let r = reads_inv s z in
    let l : chunks_start h ≤ length s = omega (arith, header-bytes h, r.room) in
    omega (arith, end_is s z, of_within (stored_sizes h.sizes) (length s) (chunks_start h) l r.fit)

-- all of them are counted
pub all_counted : (s : List ℕ) → (read_mini s).refusal ≡ 0 → chunks_end (read_mini s).image + ignored (read_mini s).image s ≡ length s
unfolding ignored
all_counted s z = omega (arith, end_in s z)

-- and without them the payload reads the same
pub ignored_unread : (s : List ℕ) → (read_mini s).refusal ≡ 0 → read_mini (take (chunks_end (read_mini s).image) s) ≡ read_mini s
ignored_unread s z =
    let h = found s in
    let r = reads_inv s z in
    let hb = header_bits h in
    let zs = stored_sizes h.sizes in
    let n = chunks_end (read_mini s).image in
    let p = take n s in
    let x = drop n s in
    let e : n ≡ chunks_start h + sum zs = end_is s z in
    let l : length p ≡ n = length-take-le n s (end_in s z) in
    let b : bits_of s ≡ bits_of p ++ bits_of x = ap bits_of (sym (take-append-drop n s)) ∙ bits_of-append p x in
    let k : length hb ≤ length (bits_of p) = omega (arith, length-bits_of p, header-bytes h) in
    let q : Reads p h =
    record {
      good = r.good;
      room = omega (arith, header-bytes h);
      same = sym (ap (λ (m : List Bool). take (length hb) m) b ∙ take-append-le (length hb) (bits_of p) (bits_of x) k) ∙ r.same;
      fit = within_of zs (length p) (chunks_start h) (omega arith);
    } in
    reads_back p h q ∙ sym (reads_image s z)
