-- What is read is well placed: every chunk of an accepted reading lies within the payload. Assumes nothing.
use Rattle.std.specs.Prelude.{◌≡◌, refl, Bool, true, false, not, ◌&&◌, ◌||◌, List, ℕ, ◌+◌, ◌≤◌, T, ltb, length}
use Rattle.std.proofs.Common.{sym, subst, arith, le-leb}
use Rattle.mini.specs.Chunks.{stored_sizes, chunk_if, span_if, stored_spans}
use Rattle.mini.specs.Image.{image_of}
use Rattle.mini.specs.Read.{read_mini, Reading}
use Rattle.mini.specs.Cut.{sum, of_within}
use Rattle.mini.specs.Payload.{header-bytes, chunks_start, accepted, reads_inv, reads_image, found}
use Rattle.mini.specs.Same.{chunk_in, span_in, well_placed}
use Rattle.mini.specs.declared.Header.{Header}
use Rattle.octets.specs.declared.Span.{Span}

chunk_in_lem : (t : Bool) (x : Span) (n : ℕ) → x.at + x.len ≤ n → chunk_in (chunk_if t x) n ≡ true
chunk_in_lem true x n h = le-leb (x.at + x.len) n h
chunk_in_lem false x n h = refl

span_in_lem : (t : Bool) (x : Span) (n : ℕ) → x.at + x.len ≤ n → span_in (span_if t x) n ≡ true
span_in_lem true x n h = le-leb (x.at + x.len) n h
span_in_lem false x n h = le-leb (0 + x.len) n (omega arith)

gain_any : (has : Bool) → T ((not has || true) && true)
gain_any true = tt
gain_any false = tt

image_placed : (h : Header) (at : ℕ) (s : List ℕ) → at + sum (stored_sizes h.sizes) ≤ length s → T (well_placed (image_of h at) s)
unfolding well_placed image_of stored_spans stored_sizes
image_placed h at s e =
    let n = length s in
    let p = stored_spans h.sizes at in
    let has = h.gain_map.present in
    let e0 = span_in_lem true p.main_codec_config n (omega arith) in
    let e1 = chunk_in_lem (ltb 0 p.alpha_codec_config.len) p.alpha_codec_config n (omega arith) in
    let e2 = chunk_in_lem (ltb 0 p.gain_map_codec_config.len) p.gain_map_codec_config n (omega arith) in
    let e3 = chunk_in_lem h.flags.icc p.icc n (omega arith) in
    let e4 = chunk_in_lem h.gain_map.tmap_icc p.tmap_icc n (omega arith) in
    let e5 = span_in_lem has p.gain_map_metadata n (omega arith) in
    let e6 = span_in_lem true p.alpha_data n (omega arith) in
    let e7 = span_in_lem has p.gain_map_data n (omega arith) in
    let e8 = span_in_lem true p.main_data n (omega arith) in
    let e9 = chunk_in_lem h.flags.exif p.exif n (omega arith) in
    let e10 = chunk_in_lem h.flags.xmp p.xmp n (omega arith) in
    simp (e0, e1, e2, e3, e4, e5, e6, e7, e8, e9, e10) (gain_any has)

pub read_placed : (s : List ℕ) → (read_mini s).refusal ≡ 0 → T (well_placed (read_mini s).image s)
unfolding accepted
read_placed s z =
    let h = found s in
    let r = reads_inv s z in
    let l : chunks_start h ≤ length s = omega (arith, header-bytes h, r.room) in
    subst (λ (x : Reading). T (well_placed x.image s)) (sym (reads_image s z))
    (image_placed h (chunks_start h) s (of_within (stored_sizes h.sizes) (length s) (chunks_start h) l r.fit))
