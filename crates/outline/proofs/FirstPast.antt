-- Looking for the first chunk that passes the end: the next one fits, or does not, or there is none.
use Rattle.std.specs.Prelude.{◌≡◌, List, Some, None, ℕ, ◌+◌, ◌-◌, ◌≤◌, ◌<◌, length, drop, slice_index_or}
use Rattle.std.proofs.Common.{ap, add-one, drop-cons, le-leb}
use Rattle.std.proofs.lemmas.List.{drop_all}
use borrow.Author.Tests.{lt-leb}
use Rattle.mini.specs.declared.ChunkSizes.{ChunkSizes}
use Rattle.outline.specs.Chunks.{size_of}
use Rattle.outline.specs.Diagnosis.{first_chunk_past}

pub next_fits : (z : ChunkSizes) (room : ℕ) (l : List ℕ) (k : ℕ) → k < length l → size_of z (slice_index_or l k 0) ≤ room
    → first_chunk_past z room (drop k l) ≡ first_chunk_past z (room - size_of z (slice_index_or l k 0)) (drop (k + 1) l)
unfolding first_chunk_past
next_fits z room l k h f = rw (add-one, drop-cons l k 0 h, le-leb (size_of z (slice_index_or l k 0)) room f)

pub next_past : (z : ChunkSizes) (room : ℕ) (l : List ℕ) (k : ℕ) → k < length l → room < size_of z (slice_index_or l k 0)
    → let len = size_of z (slice_index_or l k 0) in
    first_chunk_past z room (drop k l) ≡ Some (record { number = slice_index_or l k 0; len = len; missing = len - room })
unfolding first_chunk_past
next_past z room l k h f = rw (drop-cons l k 0 h, lt-leb (size_of z (slice_index_or l k 0)) room f)

pub none_left : (z : ChunkSizes) (room : ℕ) (l : List ℕ) (k : ℕ) → length l ≤ k → first_chunk_past z room (drop k l) ≡ None
unfolding first_chunk_past
none_left z room l k h = ap (first_chunk_past z room) (drop_all k l h)
