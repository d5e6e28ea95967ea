-- Bytes after the last chunk are ignored: where a payload is accepted, it reads the same with any bytes behind it. Document 01, 'src/mini.rs,
-- reading'. Assumes nothing.
use Rattle.std.specs.Prelude.{◌≡◌, Bool, List, ◌++◌, ℕ, ◌+◌, ◌≤◌, length, take}
use Rattle.std.proofs.Common.{sym, ap, ◌∙◌, arith, length-append}
use Rattle.std.proofs.lemmas.List.{take-append-le}
use Rattle.bits.specs.Bit.{bits_of, bits_of-append, length-bits_of}
use Rattle.mini.specs.Chunks.{stored_sizes}
use Rattle.mini.specs.Cut.{within_of, of_within}
use Rattle.mini.specs.Payload.{header_bits, chunks_start, header-bytes, Reads, reads_back, reads_inv, reads_image, found}
use Rattle.mini.specs.Read.{read_mini}

pub trailing_ignored : (p x : List ℕ) → (read_mini p).refusal ≡ 0 → read_mini (p ++ x) ≡ read_mini p
trailing_ignored p x z =
    let h = found p in
    let r = reads_inv p z in
    let hb = header_bits h in
    let zs = stored_sizes h.sizes in
    let l : length (p ++ x) ≡ length p + length x = length-append p x in
    let n : length hb ≤ length (bits_of p) = omega (arith, length-bits_of p, r.room) in
    let w = of_within zs (length p) (chunks_start h) (omega (arith, header-bytes h, r.room)) r.fit in
    let q : Reads (p ++ x) h =
    record {
      good = r.good;
      room = omega (arith, r.room);
      same =
          ap (λ (m : List Bool). take (length hb) m) (bits_of-append p x)
          ∙ take-append-le (length hb) (bits_of p) (bits_of x) n
          ∙ r.same;
      fit = within_of zs (length (p ++ x)) (chunks_start h) (omega arith);
    } in
    reads_back (p ++ x) h q ∙ sym (reads_image p z)
