-- A payload is accepted exactly where its bits are a header's, zero bits up to the byte boundary, then eleven chunks of the header's sizes in
-- stored order, then any bytes; and what it then reads to is that header's record, whose chunks are those. Document 01, refusals 5 to 9
-- and 'The record and its order of bits'. Assumes nothing.
use Rattle.std.specs.Prelude.{◌≡◌, refl, Bool, false, List, [], ◌∷◌, ◌++◌, map, ◌↔◌, ℕ, zero, suc, ◌+◌, ◌*◌, ◌≤◌, length, take, drop, replicate}
use Rattle.std.proofs.Common.{sym, ap, ap₂, ◌∙◌, append_assoc, append-nil, arith, length-append, length-take, length-drop, take-append-drop, take_at, length-take-le}
use Rattle.bits.specs.Bit.{bits_onto, bits_of, bits_of-append, length-bits_of}
use Rattle.bits.specs.Format.{view}
use Rattle.mini.specs.Chunks.{stored_sizes}
use Rattle.mini.specs.Cut.{sum, joined, cut, cut-joined, length-joined, within_of, of_within}
use Rattle.mini.specs.Image.{image_of}
use Rattle.mini.specs.Payload.{header_bits, chunks_start, header-bytes, Reads, accepted, reads_back, reads_inv, reads_image, found}
use Rattle.mini.specs.Read.{bits_to_boundary, read_mini, Reading}
use Rattle.mini.proofs.RecordHeader.{chunks_again}
use Rattle.mini.specs.Same.{chunks_of}
use Rattle.mini.specs.Syntax.{header, trailing_bits}
use Rattle.mini.specs.declared.Header.{Header}
use Rattle.mini.specs.declared.MinimizedImage.{MinimizedImage}
use Rattle.mini.specs.AcceptedBits.{Accepted}

zeros_snoc : (n : ℕ) (l : List Bool) → replicate n false ++ (false ∷ l) ≡ false ∷ (replicate n false ++ l)
zeros_snoc zero l = refl
zeros_snoc (suc n) l = ap (λ (m : List Bool). false ∷ m) (zeros_snoc n l)

zero_bits : (n : ℕ) (l : List Bool) → bits_onto n 0 l ≡ replicate n false ++ l
zero_bits zero l = refl
zero_bits (suc n) l = zero_bits n (false ∷ l) ∙ zeros_snoc n l

-- the header's bits, spelt out
spelt : (h : Header) → header_bits h ≡ header.print h ++ replicate (bits_to_boundary (length (header.print h))) false
unfolding header_bits trailing_bits view
spelt h = ap (λ (m : List Bool). header.print h ++ m) (zero_bits (bits_to_boundary (length (header.print h))) [] ∙ append-nil _)

length_cut : (zs : List ℕ) (at : ℕ) (s : List ℕ) → at + sum zs ≤ length s → map length (cut at zs s) ≡ zs
length_cut [] at s h = refl
length_cut (z ∷ zs) at s h =
    ap₂ (λ (n : ℕ) (l : List ℕ). n ∷ l) (simp (length-take, length-drop) (omega arith)) (length_cut zs (at + z) s (omega arith))

forward : (s : List ℕ) (i : MinimizedImage) → read_mini s ≡ record { refusal = 0; bit = 0; image = i } → Accepted s i
unfolding accepted
forward s i e =
    let z = ap (λ (r : Reading). r.refusal) e in
    let h = found s in
    let r = reads_inv s z in
    let n = chunks_start h in
    let zs = stored_sizes h.sizes in
    let a = take n s in
    let hb = header_bits h in
    let ln : n ≤ length s = omega (arith, header-bytes h, r.room) in
    let la : length a ≡ n = length-take-le n s ln in
    let lb : length (bits_of a) ≡ length hb = length-bits_of a ∙ omega (arith, header-bytes h) in
    let cs = cut n zs s in
    let rest = drop (n + sum zs) s in
    let split : bits_of s ≡ bits_of a ++ bits_of (drop n s) = ap bits_of (sym (take-append-drop n s)) ∙ bits_of-append a (drop n s) in
    let first : bits_of a ≡ hb =
    sym (take_at (bits_of a) (bits_of (drop n s)) (length hb) lb) ∙ ap (λ (m : List Bool). take (length hb) m) (sym split) ∙ r.same in
    let image : i ≡ image_of h n = sym (ap (λ (x : Reading). x.image) e) ∙ ap (λ (x : Reading). x.image) (reads_image s z) in
    record {
      head = h;
      chunks = cs;
      rest = rest;
      good = r.good;
      sizes = length_cut zs n s (of_within zs (length s) n ln r.fit);
      bits =
          split
          ∙ ap₂ (λ (x y : List Bool). x ++ y) (first ∙ spelt h) (ap bits_of (cut-joined zs n s))
          ∙ append_assoc (header.print h) (replicate (bits_to_boundary (length (header.print h))) false) (bits_of (joined cs ++ rest));
      image = image;
      held = ap (λ (x : MinimizedImage). chunks_of x s) image ∙ chunks_again h n s r.good;
    }

backward : (s : List ℕ) (i : MinimizedImage) → Accepted s i → read_mini s ≡ record { refusal = 0; bit = 0; image = i }
unfolding accepted
backward s i a =
    let h = a.head in
    let hb = header_bits h in
    let zs = stored_sizes h.sizes in
    let tail = joined a.chunks ++ a.rest in
    let b : bits_of s ≡ hb ++ bits_of tail =
    a.bits
    ∙ sym (append_assoc (header.print h) (replicate (bits_to_boundary (length (header.print h))) false) (bits_of tail))
    ∙ ap (λ (x : List Bool). x ++ bits_of tail) (sym (spelt h)) in
    let lj : length (joined a.chunks) ≡ sum zs = length-joined a.chunks ∙ ap sum a.sizes in
    let ls : 8 * length s ≡ length hb + 8 * length tail =
    sym (length-bits_of s) ∙ ap length b ∙ length-append hb (bits_of tail) ∙ ap (λ (k : ℕ). length hb + k) (length-bits_of tail) in
    let r : Reads s h =
    record {
      good = a.good;
      room = omega arith;
      same = ap (λ (m : List Bool). take (length hb) m) b ∙ take_at hb (bits_of tail) (length hb) refl;
      fit = within_of zs (length s) (chunks_start h) (omega (arith, header-bytes h, length-append (joined a.chunks) a.rest));
    } in
    reads_back s h r ∙ ap (λ (x : MinimizedImage). record { refusal = 0; bit = 0; image = x }) (sym a.image)

pub accepted_iff : (s : List ℕ) (i : MinimizedImage) → (read_mini s ≡ record { refusal = 0; bit = 0; image = i }) ↔ Accepted s i
accepted_iff s i = (forward s i, backward s i)
