-- The chunks of the record of a header are those that lie one after another in stored order. Assumes nothing.
use Rattle.std.specs.Prelude.{◌≡◌, refl, Bool, true, false, ◌&&◌, List, ℕ, ltb, take, drop}
use Rattle.std.proofs.Common.{sym, ap, ◌∙◌, arith, ltb-false}
use Rattle.bits.specs.Format.{◌>>=◌, field_if, minus1_if, view}
use Rattle.mini.specs.Syntax.{header, chunk_sizes}
use Rattle.mini.specs.Chunks.{chunk_if, span_if, stored_spans, stored_sizes}
use Rattle.mini.specs.Image.{image_of}
use Rattle.mini.specs.Cut.{cut}
use Rattle.mini.specs.Same.{chunk_bytes, span_bytes, chunks_of}
use Rattle.mini.specs.declared.Header.{Header}
use Rattle.mini.specs.RecordHeader.{parts}

-- ---- the chunks of the record read are the payload's, cut by the sizes
bytes_again : (s : List ℕ) (t : Bool) (w n : ℕ) → (minus1_if t w).Good n → (p : ℕ) → chunk_bytes (chunk_if t (record { at = p; len = n })) s ≡ take n (drop p s)
bytes_again s true w n g p = refl
bytes_again s false w n g p = ap (λ (k : ℕ). take k (drop p s)) (sym g)

bytes_again' : (s : List ℕ) (has t : Bool) (w n : ℕ) → (minus1_if (has && t) w).Good n → (p : ℕ) → chunk_bytes (chunk_if t (record { at = p; len = n })) s ≡ take n (drop p s)
bytes_again' s has true w n g p = refl
bytes_again' s true false w n g p = ap (λ (k : ℕ). take k (drop p s)) (sym g)
bytes_again' s false false w n g p = ap (λ (k : ℕ). take k (drop p s)) (sym g)

config_bytes : (s : List ℕ) (n p : ℕ) → chunk_bytes (chunk_if (ltb 0 n) (record { at = p; len = n })) s ≡ take n (drop p s)
config_bytes s n p = go (ltb 0 n) refl
  where
    go : (t : Bool) → ltb 0 n ≡ t → chunk_bytes (chunk_if t (record { at = p; len = n })) s ≡ take n (drop p s)
    go true e = refl
    go false e = let z : n ≡ 0 = omega (arith, ltb-false 0 n e) in ap (λ (k : ℕ). take k (drop p s)) (sym z)

span_bytes_lem : (s : List ℕ) (has : Bool) (w n : ℕ) → (field_if has w).Good n → (p : ℕ)
    → span_bytes (span_if has (record { at = p; len = n })) s ≡ take n (drop p s)
span_bytes_lem s true w n g p = refl
span_bytes_lem s false w n g p = ap (λ (k : ℕ). take k (drop 0 s)) g ∙ ap (λ (k : ℕ). take k (drop p s)) (sym g)

pub chunks_again : (h : Header) (at : ℕ) (s : List ℕ) → header.Good h → chunks_of (image_of h at) s ≡ cut at (stored_sizes h.sizes) s
unfolding chunks_of image_of stored_spans stored_sizes chunk_sizes ◌>>=◌ view
chunks_again h at s good =
    let g = parts h good in
    let z1 = bytes_again s h.flags.icc _ h.sizes.icc g.sizes_ok.0.1.1.1.0 in
    let z2 = bytes_again' s h.gain_map.present h.gain_map.tmap_icc _ h.sizes.tmap_icc g.sizes_ok.0.1.1.1.1.0 in
    let z3 = bytes_again s h.flags.exif _ h.sizes.exif g.sizes_ok.0.1.1.1.1.1.1.1.1.1.1.1.1.1.0 in
    let z4 = bytes_again s h.flags.xmp _ h.sizes.xmp g.sizes_ok.0.1.1.1.1.1.1.1.1.1.1.1.1.1.1 in
    let z5 = span_bytes_lem s h.gain_map.present _ h.sizes.gain_map_metadata g.sizes_ok.0.1.1.1.1.1.0 in
    let z6 = span_bytes_lem s h.gain_map.present _ h.sizes.gain_map_data g.sizes_ok.0.1.1.1.1.1.1.0 in
    simp (config_bytes, z1, z2, z3, z4, z5, z6)
