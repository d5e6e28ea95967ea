-- The payload of a record's normal form is no longer than the record's, and so no payload of a record that expands to a file is shorter than that
-- of the record found in it (document 02, 3).
use Rattle.std.specs.Prelude.{◌≡◌, ◌⊎◌, List, ℕ, ◌≤◌, ◌<◌, T, length, Option}
use Rattle.std.proofs.Common.{ap, arith, length-append, inl, inr}
use Rattle.std.proofs.Math.Pow.{are_bytes}
use Rattle.mini.specs.Cut.{joined}
use Rattle.mini.specs.Payload.{header_padded}
use Rattle.mini.specs.RoundTrip.{ReadsTo}
use Rattle.mini.specs.Same.{chunk_bytes, chunks_of}
use Rattle.mini.specs.Write.{header_of, payload_of}
use Rattle.mini.specs.declared.MinimizedImage.{MinimizedImage}
use Rattle.mini.proofs.RoundTrip.{len_payload, same_payload, shortest}
use Rattle.octets.specs.declared.Span.{Span}
use Rattle.normal_form.specs.NormalForm.{short_config, normal}
use Rattle.normal_form.proofs.NormalLawful.{short_held}
use Rattle.found.specs.ExpandsTo.{ExpandsTo}
use Rattle.found.specs.Found.{found_record}
use Rattle.found.proofs.Expansions.{found_normal}
use Rattle.found.proofs.HeaderCost.{header_less}

-- ---- the chunks, and the whole payload
module _ (i : MinimizedImage) (s : List ℕ) where
  abbrev n : MinimizedImage
  n = normal i s

  fewer : (c : Option Span) → length (chunk_bytes (short_config c i.main_codec_config s) s) ≤ length (chunk_bytes c s)
  fewer c = short_held (λ (d : Option Span). length (chunk_bytes d s) ≤ length (chunk_bytes c s)) c i.main_codec_config s (omega arith) (omega arith)

  chunks_less : length (joined (chunks_of n s)) ≤ length (joined (chunks_of i s))
  unfolding chunks_of normal
  chunks_less = simp length-append (omega (arith, fewer i.alpha_codec_config, fewer i.gain_map.codec_config))

  pub normal_shortest : length (payload_of n s) ≤ length (payload_of i s)
  unfolding payload_of
  normal_shortest =
      let h = header_of n in
      let k = header_of i in
      omega (arith, len_payload h (chunks_of n s), len_payload k (chunks_of i s), header_padded h, header_padded k, header_less i s, chunks_less)

-- ---- the record found in the file that a record expands to
module _ (f : List ℕ) (major minor : ℕ) (brands : List ℕ) (r : ExpandsTo f major minor brands) where
  found_shortest : length (payload_of (found_record f) f) ≤ length (payload_of r.image r.source)
  found_shortest =
      rw (same_payload (found_record f) f (normal r.image r.source) r.source (found_normal f major minor brands r)) (normal_shortest r.image r.source)

  -- and than any payload that reads to that record
  pub found_no_longer : (s : List ℕ) → T (are_bytes s) → ReadsTo s r.image r.source → length (payload_of (found_record f) f) ≤ length s
  found_no_longer s b h = go (shortest s r.image r.source b h)
    where
      go : (s ≡ payload_of r.image r.source) ⊎ (length (payload_of r.image r.source) < length s) → length (payload_of (found_record f) f) ≤ length s
      go (inl e) = omega (arith, found_shortest, ap length e)
      go (inr h) = omega (arith, found_shortest)
