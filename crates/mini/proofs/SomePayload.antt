-- Refusal 11, as document 01 has it ('no payload reads to this record'): a well-placed record whose source is bytes can be written exactly if
-- some payload of bytes reads to it; and so exactly if it has none of the faults that the document lists. Assumes nothing.
use Rattle.std.specs.Prelude.{◌↔◌, List, ℕ, T}
use mathlib.Core.Logic.Iff
use Rattle.std.proofs.Math.Pow.{are_bytes}
use Rattle.mini.specs.Same.{well_placed}
use Rattle.mini.specs.Write.{payload_of, writable}
use Rattle.mini.specs.WrittenBytes.{written-bytes}
use Rattle.mini.specs.RoundTrip.{ReadsTo}
use Rattle.mini.proofs.RoundTrip.{written, reads_writable}
use Rattle.mini.specs.NoPayloadGives.{Lawful}
use Rattle.mini.proofs.ListIsExact.{lawful_iff}
use Rattle.mini.specs.declared.MinimizedImage.{MinimizedImage}

-- `writable`, by which the writer refuses
pub some_payload : (i : MinimizedImage) (s : List ℕ) → T (are_bytes s) → T (well_placed i s)
    → T (writable i) ↔ ((q : List ℕ) × (T (are_bytes q) × ReadsTo q i s))
some_payload i s b w = (
  λ h. (payload_of i s, (written-bytes i s b, written i s w h)),
  λ x. reads_writable x.0 i s x.1.1,
)

-- the document's list
pub listed-payload : (i : MinimizedImage) (s : List ℕ) → T (are_bytes s) → T (well_placed i s)
    → Lawful i ↔ ((q : List ℕ) × (T (are_bytes q) × ReadsTo q i s))
listed-payload i s b w = Iff.trans (Iff.symm (lawful_iff i)) (some_payload i s b w)
