-- A box that is written is read back, wherever it stands.
use Rattle.std.specs.Prelude.{◌≡◌, ℕ, ◌+◌, ◌-◌, ◌≤◌, ◌<◌, take, drop, None}
use Rattle.std.proofs.Math.Path.{refl}
use Rattle.std.proofs.Common.{length-append, take_at, drop_at}
use mathlib.Core.List.{List, ◌++◌, append_assoc}
use native.Mathlib.Omega.{arith}
use Rattle.std.proofs.Math.ListN.{length}
use borrow.Author.Tests.{ne_eqb, le-leb}
use Rattle.octets.specs.BigEndian.{be, num}
use Rattle.octets.specs.BigEndianLaws.{length-be, field_at}
use Rattle.octets.specs.Part.{part_of}
use Rattle.boxes.specs.Size.{whole, bounded, size_at}
use Rattle.boxes.specs.Header.{UUID, found, typed_at, header_at}
use Rattle.boxes.specs.Boxed.{box_header, boxed, length-boxed, length-box_header}

-- a run of bytes in the middle
middle : (pre mid post : List ℕ) (i n : ℕ) → length pre ≡ i → length mid ≡ n → take n (drop i (pre ++ (mid ++ post))) ≡ mid
middle pre mid post i n e f = rw (drop_at pre (mid ++ post) i e) (take_at mid post n f)

module _ (pre : List ℕ) (type : ℕ) (body post : List ℕ) (code : type < 4294967296) (small : 8 + length body < 4294967296)
    (plain : type ≡ UUID → ⊥) where
  abbrev all : List ℕ
  all = pre ++ (boxed type body ++ post)

  all_length : length all ≡ length pre + (8 + length body + length post)
  all_length = simp (length-append, length-boxed)

  size_read : num 4 all (length pre) ≡ 8 + length body
  unfolding boxed box_header
  size_read = simp append_assoc (field_at 4 (8 + length body) pre (be 4 type ++ (body ++ post)) (length pre) refl small)

  type_read : num 4 all (length pre + 4) ≡ type
  unfolding boxed box_header
  type_read =
      simp append_assoc (simp append_assoc at (field_at 4 type (pre ++ be 4 (8 + length body)) (body ++ post) (length pre + 4) (simp (length-append, length-be)) code))

  size_is : size_at all (length pre) ≡ whole (8 + length body) 8
  unfolding size_at bounded
  size_is =
      let h0 : 8 + length body ≡ 0 → ⊥ = λ e. omega arith in
      let h1 : 8 + length body ≡ 1 → ⊥ = λ e. omega arith in
      let h2 : 8 ≤ 8 + length body = omega arith in
      let h3 : 8 + length body ≤ length all - length pre = omega (arith, all_length) in
      simp (size_read, ne_eqb _ _ h0, ne_eqb _ _ h1, le-leb _ _ h2, le-leb _ _ h3)

  pub header_read : header_at all (length pre) ≡ found type None (length pre) 8 (8 + length body)
  unfolding header_at typed_at
  header_read =
      let h : length pre + 8 ≤ length all = omega (arith, all_length) in
      simp (le-leb _ _ h, size_is, type_read, ne_eqb _ _ plain)

  pub payload_read : part_of all (length pre + 8) (length body) ≡ body
  unfolding part_of boxed
  payload_read =
      let h : length pre + 8 + length body ≤ length all = omega (arith, all_length) in
      simp (le-leb _ _ h) (simp append_assoc (simp append_assoc at (middle (pre ++ box_header type (length body)) body post (length pre + 8) (length body) (simp (length-append, length-box_header)) refl)))
