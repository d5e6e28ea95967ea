-- Laws of rewriting. Assumes nothing.
use Rattle.std.specs.Prelude.{◌≡◌, refl, Bool, true, false, cond, ◌⊎◌, List, ℕ, ◌≤◌, ◌<◌, eqb, ltb, length, take, drop}
use Rattle.std.proofs.Common.{sym, ap, ◌∙◌, subst, true≢false, inl, inr, arith, eq-eqb, ne_eqb, eqb-true}
use Rattle.std.proofs.lemmas.Bool.{eqb-false, false≢true}
use Rattle.octets.specs.Overwrite.{overwrite}
use Rattle.mini.specs.Read.{read_mini}
use Rattle.mini.specs.Refusals.{reading_at_most_nine}
use Rattle.mini.proofs.RefusedBit.{bit_small}
use Rattle.mini.proofs.RoundTrip.{read_writable, shortest}
use Rattle.mini.proofs.RoundTrip as round_trip
use Rattle.mini.proofs.WellPlaced.{read_placed}
use Rattle.mini.specs.declared.MinimizedImage.{MinimizedImage}
use Rattle.writer.specs.Needed.{box_small}
use Rattle.mini.specs.RecordHeader.{T_true}
use Rattle.writer.specs.ToBox.{box_of, refused, written, answer, past_11}
use Rattle.writer.specs.WrittenLaws.{payload_there}
use Rattle.refusals.specs.Outcome.{Written}
use Rattle.rewriter.specs.Rewritten.{rewritten, WrittenBack}

-- what is read is written: neither 10 nor 11
pub read_is_written : (p o : List ℕ) → (read_mini p).refusal ≡ 0 → answer (read_mini p).image p o ≡ written (read_mini p).image p o
read_is_written p o z = sym (past_11 (read_mini p).image p o (sym (T_true _ (read_placed p z))) refl (sym (T_true _ (read_writable p z))) refl)

pub refused_as_read : (p o : List ℕ) → ((read_mini p).refusal ≡ 0 → ⊥) → refused (read_mini p).refusal (read_mini p).bit o ≡ rewritten p o
unfolding rewritten
refused_as_read p o h =
    sym (ap (λ (t : Bool). cond t (written (read_mini p).image p o) (refused (read_mini p).refusal (read_mini p).bit o)) (ne_eqb (read_mini p).refusal 0 h))

pub read_then_written : (p o : List ℕ) → (read_mini p).refusal ≡ 0 → answer (read_mini p).image p o ≡ rewritten p o
unfolding rewritten
read_then_written p o z =
    read_is_written p o z
    ∙ sym (ap (λ (t : Bool). cond t (written (read_mini p).image p o) (refused (read_mini p).refusal (read_mini p).bit o)) (eq-eqb (read_mini p).refusal 0 z))

-- a success: the payload was accepted
success : (t : Bool) (n v : ℕ) (w : Written × List ℕ) (o : List ℕ) → (t ≡ false → n ≡ 0 → ⊥) → (cond t w (refused n v o)).0.refusal ≡ 0
    → (t ≡ true) × (cond t w (refused n v o) ≡ w)
success true n v w o h e = (refl, refl)
success false n v w o h e = absurd (h refl e)

pub written_back : (p o : List ℕ) {w : Written} {o' : List ℕ} → ◌≡◌ {A = Written × List ℕ} (w, o') (rewritten p o) → w.refusal ≡ 0
    → WrittenBack p (drop 8 (take w.value o'))
unfolding rewritten
written_back p o {w} {o'} e z =
    let r = read_mini p in
    let i = r.image in
    let k = success (eqb r.refusal 0) r.refusal r.bit (written i p o) o (λ f g. absurd (false-is (eqb r.refusal 0) f (eq-eqb r.refusal 0 g)))
    (ap (λ (x : Written × List ℕ). x.0.refusal) (sym e) ∙ z) in
    let took : r.refusal ≡ 0 = eqb-true r.refusal 0 k.0 in
    let is : ◌≡◌ {A = Written × List ℕ} (w, o') (written i p o) = e ∙ k.1 in
    subst (λ (x : List ℕ). WrittenBack p x) (sym (payload_there i p o is z))
    (record { same = round_trip.written i p (read_placed p took) (read_writable p took); shortest = λ x b h. shortest x i p b h })
  where
    false-is : (t : Bool) → t ≡ false → t ≡ true → ⊥
    false-is true f g = true≢false f
    false-is false f g = false≢true g

-- the numbers that come back: a refusal below 17, a length that a 32-bit field can tell, and a bit that a C function's answer has room for
abbrev Small : Written → Type 0
Small w = ((w.refusal ≤ 16) × (w.value < 281474976710656)) × ((w.refusal ≡ 0) ⊎ (w.refusal ≡ 16) → w.value < 4294967296)

pub rewritten_small : (p o : List ℕ) {w : Written} {o' : List ℕ} → ◌≡◌ {A = Written × List ℕ} (w, o') (rewritten p o) → Small w
unfolding rewritten written
rewritten_small p o {w} {o'} e = subst (λ (x : Written × List ℕ). Small x.0) (sym e) (go (eqb (read_mini p).refusal 0) refl)
  where
    r : ℕ
    r = (read_mini p).refusal

    v : ℕ
    v = (read_mini p).bit

    i : MinimizedImage
    i = (read_mini p).image

    n : ℕ
    n = length (box_of i p)

    fits : (t : Bool) → n < 4294967296 → Small (cond t (refused 16 n o) (record { refusal = 0; value = n }, overwrite o 0 (box_of i p))).0
    fits true h = ((omega arith, omega (arith, h)), λ k. h)
    fits false h = ((omega arith, omega (arith, h)), λ k. h)

    go : (t : Bool) → eqb r 0 ≡ t → Small (cond t (written i p o) (refused r v o)).0
    go true f = fits (ltb (length o) n) (box_small i p (read_writable p (eqb-true r 0 f)))
    go false f = ((omega (arith, reading_at_most_nine p), bit_small p), λ k. absurd (no_length k))
      where
        no_length : (r ≡ 0) ⊎ (r ≡ 16) → ⊥
        no_length (inl z) = eqb-false r 0 f z
        no_length (inr z) = omega (arith, reading_at_most_nine p, z)

-- all that rewriting promises follows from its definition
pub promised : (p o : List ℕ) {w : Written} {o' : List ℕ} → ◌≡◌ {A = Written × List ℕ} (w, o') (rewritten p o)
    → (◌≡◌ {A = Written × List ℕ} (w, o') (rewritten p o)) × ((w.refusal ≡ 0 → WrittenBack p (drop 8 (take w.value o'))) × Small w)
promised p o e = (e, (written_back p o e, rewritten_small p o e))
