-- A part of a part of some bytes is a part of them.
use Rattle.std.proofs.Common.{◌≡◌, ◌∙◌, List, ℕ, ◌+◌, ◌-◌, ◌≤◌, length, drop, take, None, arith, le-leb, drop-drop, take-take}
use Rattle.std.proofs.Math.Seq.{take-length}
use Rattle.std.proofs.lemmas.List.{drop-take}
use Rattle.octets.specs.Part.{part_of}
use Rattle.find_record.proofs.Within.{length_payload}

pub whole : (s : List ℕ) → part_of s 0 (length s) ≡ s
unfolding part_of
whole s =
    let w : 0 + length s ≤ length s = omega arith in
    rw (le-leb _ _ w) (take-length s)

pub length_part : (s : List ℕ) (a n : ℕ) → a + n ≤ length s → length (part_of s a n) ≡ n
length_part s a n h = length_payload s (record { box_type = 0; user_type = None; start = 0; payload_start = a; payload_len = n }) h

pub part_of_part : (s : List ℕ) (a n b m : ℕ) → a + n ≤ length s → b + m ≤ length (part_of s a n) → part_of (part_of s a n) b m ≡ part_of s (a + b) m
unfolding part_of
part_of_part s a n b m h k =
    let l = length_part s a n h in
    let w : a + b + m ≤ length s = omega (arith, l) in
    let split : b + (n - b) ≡ n = omega (arith, l) in
    let few : m ≤ n - b = omega (arith, l) in
    let e : drop b (take n (drop a s)) ≡ take (n - b) (drop b (drop a s)) = rw split at (drop-take b (n - b) (drop a s)) in
    rw (le-leb _ _ k, le-leb _ _ h, le-leb _ _ w, e) (take-take m (n - b) (drop b (drop a s)) few ∙ rw drop-drop)
