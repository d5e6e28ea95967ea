-- What is written is bytes. Assumes nothing.
use Rattle.std.specs.Prelude.{List, [], ℕ, T, drop, Option, Some, None}
use Rattle.std.proofs.Math.Pow.{are_bytes}
use Rattle.bits.specs.State.{bytes_of}
use Rattle.bits.specs.Format.{packed-bytes}
use Rattle.mini.specs.Bytes.{bytes-append, bytes_take, bytes_drop}
use Rattle.mini.specs.Payload.{header_bits, chunks_start}
use Rattle.mini.specs.Same.{chunk_bytes, span_bytes, chunks_of}
use Rattle.mini.specs.Write.{payload_with, payload_of, header_of}
use Rattle.octets.specs.declared.Span.{Span}
use Rattle.mini.specs.declared.MinimizedImage.{MinimizedImage}

chunk_bytes_lem : (c : Option Span) (s : List ℕ) → T (are_bytes s) → T (are_bytes (chunk_bytes c s))
chunk_bytes_lem None s h = tt
chunk_bytes_lem (Some x) s h = bytes_take x.len (drop x.at s) (bytes_drop x.at s h)

pub written-bytes : (i : MinimizedImage) (s : List ℕ) → T (are_bytes s) → T (are_bytes (payload_of i s))
unfolding payload_of payload_with chunks_of
written-bytes i s h =
    let sp : (x : Span) → T (are_bytes (span_bytes x s)) = λ x. bytes_take x.len (drop x.at s) (bytes_drop x.at s h) in
    bytes-append (bytes_of (chunks_start (header_of i)) (header_bits (header_of i))) _ (packed-bytes _ _)
    (bytes-append (span_bytes i.main_codec_config s) _ (sp i.main_codec_config)
    (bytes-append (chunk_bytes i.alpha_codec_config s) _ (chunk_bytes_lem i.alpha_codec_config s h)
    (bytes-append (chunk_bytes i.gain_map.codec_config s) _ (chunk_bytes_lem i.gain_map.codec_config s h)
    (bytes-append (chunk_bytes i.icc s) _ (chunk_bytes_lem i.icc s h)
    (bytes-append (chunk_bytes i.gain_map.tmap_icc s) _ (chunk_bytes_lem i.gain_map.tmap_icc s h)
    (bytes-append (span_bytes i.gain_map.metadata s) _ (sp i.gain_map.metadata)
    (bytes-append (span_bytes i.alpha_data s) _ (sp i.alpha_data)
    (bytes-append (span_bytes i.gain_map.«data» s) _ (sp i.gain_map.«data»)
    (bytes-append (span_bytes i.main_data s) _ (sp i.main_data)
    (bytes-append (chunk_bytes i.exif s) _ (chunk_bytes_lem i.exif s h)
    (bytes-append (chunk_bytes i.xmp s) [] (chunk_bytes_lem i.xmp s h) tt)))))))))))
