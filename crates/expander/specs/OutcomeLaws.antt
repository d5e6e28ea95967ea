-- The ways through the answer of expanding. Assumes nothing.
use Rattle.std.specs.Prelude.{◌≡◌, Bool, true, ℕ, ◌≤◌, ◌<◌, ltb, Err}
use Rattle.std.proofs.Math.Path.{sym, ap, ap₂}
use Rattle.std.proofs.Common.{◌∙◌, arith, subst, eq-eqb, ne_eqb, lt-ltb, le-ltb}
use Rattle.std.proofs.Math.Bool.{cond}
use mathlib.Core.List.{List, ◌++◌}
use Rattle.std.proofs.Math.ListN.{length}
use Rattle.octets.specs.Overwrite.{overwrite, Wrote}
use Rattle.ftyp.specs.FileType.{allowed, file_type, file_type_box}
use Rattle.ftyp.specs.FileTypeLaws.{allowed_whole, ftyp_is}
use Rattle.ftyp.specs.declared.EquivalentFileType.{EquivalentFileType}
use Rattle.mini.specs.declared.MinimizedImage.{MinimizedImage}
use Rattle.writer.specs.ToBox.{refused}
use Rattle.refusals.specs.Outcome.{Written}
use Rattle.expander.specs.EquivalentFile.{meta, mdat, content_start, file_len, file}
use Rattle.expander.specs.ExpandedLaws.{refusal_most}
use Rattle.expander.specs.Expands.{expands}
use Rattle.expander.specs.FileLength.{length_file}
use Rattle.expander.specs.Outcome.{number, number_not_zero, outcome_of, refusal_of, expanded, expanded_len}
use Rattle.expander.specs.Plan.{file_plan}
use Rattle.expander.specs.declared.file.FilePlan.{FilePlan}
use Rattle.expander.specs.declared.refusal.ExpandError.{ExpandError}
use Rattle.expander.specs.declared.refusal.ExpandError.TheVariants.{Misplaced, Unwritable, NativeAlpha, UuidCodecType, NoCodecTypes, BrandList, TooShort}

-- the boxes of the file as they are written
pub file_boxes : (i : MinimizedImage) (s : List ℕ) (major minor : ℕ) (brands : List ℕ) → allowed brands ≡ true
    → file_type_box (file_type major minor i.has_gain_map brands) brands ++ meta i s (content_start i major minor brands) ++ mdat i s ≡ file i s major minor brands
unfolding file
file_boxes i s major minor brands h =
    ap (λ (z : List ℕ). z ++ meta i s (content_start i major minor brands) ++ mdat i s) (ftyp_is major minor i.has_gain_map brands (allowed_whole brands h))

-- 10 to 15 come with 0
pub refused_of : (e : ExpandError) {r : ℕ} → number e ≡ r → r ≤ 15 → outcome_of (Err e) ≡ record { refusal = r; value = 0 }
refused_of Misplaced f h = ap (λ (k : ℕ). record { refusal = k; value = 0 }) f
refused_of Unwritable f h = ap (λ (k : ℕ). record { refusal = k; value = 0 }) f
refused_of NativeAlpha f h = ap (λ (k : ℕ). record { refusal = k; value = 0 }) f
refused_of UuidCodecType f h = ap (λ (k : ℕ). record { refusal = k; value = 0 }) f
refused_of NoCodecTypes f h = ap (λ (k : ℕ). record { refusal = k; value = 0 }) f
refused_of BrandList f h = ap (λ (k : ℕ). record { refusal = k; value = 0 }) f
refused_of (TooShort needed) f h = absurd (omega arith)

-- ---- the ways through
module _ (i : MinimizedImage) (s : List ℕ) (major minor : ℕ) (brands : List ℕ) where
  abbrev r : ℕ
  r = refusal_of i s brands

  abbrev n : ℕ
  n = length (file i s major minor brands)

  pub file_length : r ≡ 0 → n ≡ file_len i major minor brands
  file_length e = length_file i s brands (expands i s brands e) major minor

  pub length_refused : (r ≡ 0 → ⊥) → record { refusal = r; value = 0 } ≡ expanded_len i s major minor brands
  unfolding expanded_len
  length_refused h = sym (ap (λ (t : Bool). cond t (record { refusal = 0; value = n }) (record { refusal = r; value = 0 })) (ne_eqb r 0 h))

  pub length_told : {k : ℕ} → r ≡ 0 → k ≡ file_len i major minor brands → record { refusal = 0; value = k } ≡ expanded_len i s major minor brands
  unfolding expanded_len
  length_told {k} e f =
      ap (λ (j : ℕ). record { refusal = 0; value = j }) (f ∙ sym (file_length e))
      ∙ sym (ap (λ (t : Bool). cond t (record { refusal = 0; value = n }) (record { refusal = r; value = 0 })) (eq-eqb r 0 e))

  -- an error that the checks gave, and what is planned where they gave none
  pub len_refused : (e : ExpandError) → number e ≡ r → outcome_of (Err e) ≡ expanded_len i s major minor brands
  len_refused e h = refused_of e h (refusal_most i s brands) ∙ length_refused (λ z. number_not_zero e (h ∙ z))

  pub len_planned : {p : FilePlan} → 0 ≡ r → p ≡ file_plan i major minor brands → record { refusal = 0; value = p.len } ≡ expanded_len i s major minor brands
  len_planned z h = length_told (sym z) (ap (λ (q : FilePlan). q.len) h)

  module _ (out : List ℕ) where
    abbrev done : Written × List ℕ
    done = (record { refusal = 0; value = n }, overwrite out 0 (file i s major minor brands))

    pub expand-refused : (r ≡ 0 → ⊥) → refused r 0 out ≡ expanded i s major minor brands out
    unfolding expanded
    expand-refused h = sym (ap (λ (t : Bool). cond t (cond (ltb (length out) n) (refused 16 n out) done) (refused r 0 out)) (ne_eqb r 0 h))

    pub out_refused : (e : ExpandError) → number e ≡ r → (outcome_of (Err e), out) ≡ expanded i s major minor brands out
    out_refused e h = ap (λ (w : Written). (w, out)) (refused_of e h (refusal_most i s brands)) ∙ expand-refused (λ z. number_not_zero e (h ∙ z))

    pub expand-short : {k : ℕ} → r ≡ 0 → k ≡ file_len i major minor brands → length out < k → refused 16 k out ≡ expanded i s major minor brands out
    unfolding expanded
    expand-short {k} e f h =
        let g : k ≡ n = f ∙ sym (file_length e) in
        ap (λ (j : ℕ). refused 16 j out) g
        ∙ sym
        (ap₂ (λ (t u : Bool). cond t (cond u (refused 16 n out) done) (refused r 0 out)) (eq-eqb r 0 e)
        (lt-ltb (length out) n (subst (λ (j : ℕ). length out < j) g h)))

    pub expand-done : {k m q base : ℕ} {t : EquivalentFileType} {out' : List ℕ} → r ≡ 0 → k ≡ file_len i major minor brands → k ≤ length out
        → t ≡ file_type major minor i.has_gain_map brands → base ≡ content_start i major minor brands
        → Wrote out 0 m (file_type_box t brands ++ meta i s base ++ mdat i s) out' q
        → ◌≡◌ {A = Written × List ℕ} (record { refusal = 0; value = k }, out') (expanded i s major minor brands out)
    unfolding expanded
    expand-done {k} {out' = out'} e f h et eb w =
        let g : k ≡ n = f ∙ sym (file_length e) in
        let x = expands i s brands e in
        let b : out' ≡ overwrite out 0 (file i s major minor brands) =
        w.left
        ∙ ap₂ (λ (z : EquivalentFileType) (y : ℕ). overwrite out 0 (file_type_box z brands ++ meta i s y ++ mdat i s)) et eb
        ∙ ap (overwrite out 0) (file_boxes i s major minor brands x.brands_allowed) in
        ap₂ (λ (j : ℕ) (z : List ℕ). (record { refusal = 0; value = j }, z)) g b
        ∙ sym
        (ap₂ (λ (t u : Bool). cond t (cond u (refused 16 n out) done) (refused r 0 out)) (eq-eqb r 0 e)
        (le-ltb (length out) n (subst (λ (j : ℕ). j ≤ length out) g h)))
