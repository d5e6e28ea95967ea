-- What is in the output after a record is written: the box, and after its first eight bytes the payload. Assumes nothing.
use Rattle.std.specs.Prelude.{◌≡◌, refl, Bool, true, false, cond, List, ℕ, ltb, length, take, drop}
use Rattle.std.proofs.Common.{sym, ap, ◌∙◌, arith, drop_at, ltb-false}
use Rattle.octets.specs.Overwrite.{overwrite}
use Rattle.octets.specs.OverwriteLaws as octets-laws
use Rattle.boxes.specs.Boxed.{boxed, box_header, length-box_header}
use Rattle.mini.specs.Write.{payload_of}
use Rattle.mini.specs.declared.MinimizedImage.{MinimizedImage}
use Rattle.refusals.specs.Outcome.{Written}
use Rattle.writer.specs.ToBox.{box_of, refused, written}

-- the output begins with the box
boxed_there : (i : MinimizedImage) (s o : List ℕ) → (written i s o).0.refusal ≡ 0
    → take (written i s o).0.value (written i s o).1 ≡ box_of i s
unfolding written
boxed_there i s o e = go (ltb (length o) n) refl e
  where
    n : ℕ
    n = length (box_of i s)

    w : Written × List ℕ
    w = (record { refusal = 0; value = n }, overwrite o 0 (box_of i s))

    go : (t : Bool) → ltb (length o) n ≡ t → (cond t (refused 16 n o) w).0.refusal ≡ 0
        → take (cond t (refused 16 n o) w).0.value (cond t (refused 16 n o) w).1 ≡ box_of i s
    go true f z = absurd (omega arith)
    go false f z = octets-laws.written o 0 (box_of i s) (omega (arith, ltb-false (length o) n f))

-- a box without its first eight bytes is its payload
box-payload : (i : MinimizedImage) (s : List ℕ) → drop 8 (box_of i s) ≡ payload_of i s
unfolding box_of boxed
box-payload i s = drop_at (box_header 0x6D696E69 (length (payload_of i s))) (payload_of i s) 8 (length-box_header 0x6D696E69 (length (payload_of i s)))

-- so an answer without refusal tells where the payload is
pub payload_there : (i : MinimizedImage) (s o : List ℕ) {w : Written} {o' : List ℕ} → ◌≡◌ {A = Written × List ℕ} (w, o') (written i s o)
    → w.refusal ≡ 0 → drop 8 (take w.value o') ≡ payload_of i s
payload_there i s o e z =
    ap (λ (x : Written × List ℕ). drop 8 (take x.0.value x.1)) e
    ∙ ap (λ (x : List ℕ). drop 8 x) (boxed_there i s o (ap (λ (x : Written × List ℕ). x.0.refusal) (sym e) ∙ z))
    ∙ box-payload i s
