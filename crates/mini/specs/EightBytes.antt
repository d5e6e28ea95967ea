-- No accepted payload is shorter than 8 bytes: the header is at least 52 bits long, and main data at least one byte. Document 01,
-- 'src/mini.rs, reading'. Assumes nothing.
use Rattle.std.specs.Prelude.{◌≡◌, Bool, true, false, List, ℕ, ◌≤◌, length}
use Rattle.std.proofs.Common.{arith, lit≤, length-append}
use Rattle.bits.specs.Format.{◌>>=◌, sized, view}
use Rattle.bits.specs.Bit.{length-bits_n}
use Rattle.mini.specs.Syntax.{header, flags, dimensions, main_format, sample_format, float_format, integer_format, chunk_sizes}
use Rattle.mini.specs.Chunks.{stored_sizes}
use Rattle.mini.specs.Read.{read_mini}
use Rattle.mini.specs.Cut.{of_within}
use Rattle.mini.specs.Payload.{header-bytes, header_padded, chunks_start, reads_inv, found}
use Rattle.mini.specs.RecordHeader.{parts}
use Rattle.mini.specs.declared.SampleFormat.{SampleFormat}
use Rattle.mini.specs.declared.Header.{Header}

long_format : (t : Bool) (f : SampleFormat) → 1 ≤ length ((sample_format t).print f)
unfolding sample_format float_format integer_format ◌>>=◌ view
long_format true f = omega arith
long_format false f = simp length-append (omega arith)

long_main : (h : Header) → 1 ≤ length ((main_format h.flags).print h.main)
unfolding main_format ◌>>=◌ view
long_main h = simp length-append (omega (arith, long_format h.flags.float h.main.format))

at_least : (a b : ℕ) (t : Bool) → b ≤ a → b ≤ sized t a b
at_least a b true h = h
at_least a b false h = omega arith

long_dimensions : (h : Header) → 15 ≤ length (dimensions.print h.dimensions)
unfolding dimensions ◌>>=◌ view
long_dimensions h = simp (length-append, length-bits_n) (omega (arith, at_least 15 7 h.dimensions.large (lit≤ tt)))

long_sizes : (h : Header) → 20 ≤ length ((chunk_sizes h.flags h.gain_map).print h.sizes)
unfolding chunk_sizes ◌>>=◌ view
long_sizes h =
    simp (length-append, length-bits_n)
    (omega (arith, at_least 12 3 h.sizes.large_codec_config (lit≤ tt), at_least 28 15 h.sizes.large_item_data (lit≤ tt)))

long_flags : (h : Header) → 16 ≤ length (flags.print h.flags)
unfolding flags ◌>>=◌ view
long_flags h = simp length-append (omega arith)

long_header : (h : Header) → 52 ≤ length (header.print h)
unfolding header ◌>>=◌ view
long_header h = simp length-append (omega (arith, long_flags h, long_dimensions h, long_main h, long_sizes h))

pub eight_bytes : (s : List ℕ) → (read_mini s).refusal ≡ 0 → 8 ≤ length s
unfolding stored_sizes chunk_sizes ◌>>=◌ view
eight_bytes s z =
    let h = found s in
    let r = reads_inv s z in
    let l : chunks_start h ≤ length s = omega (arith, header-bytes h, r.room) in
    let w = of_within (stored_sizes h.sizes) (length s) (chunks_start h) l r.fit in
    let g = parts h r.good in
    let (metadata, (config, (item, (icc, (tmap_icc, (gain_map_metadata, (gain_map_data, (gain_map_config, (main_config, (main_data, others)))))))))) = g.sizes_ok.0 in
    omega (arith, w, header_padded h, long_header h, main_data.1)
