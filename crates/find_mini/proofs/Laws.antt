-- What is restored: the record found can be written, so that neither 10 nor 11 occurs.
use Rattle.std.specs.Prelude.{◌≡◌, refl, Bool, true, false, cond, ◌⊎◌, List, ℕ, ◌≤◌, ◌<◌, ltb, length, Result, Ok, Err, is_ok}
use Rattle.std.proofs.Common.{sym, ap, ◌∙◌, subst, true≢false, lit<, inl, inr, arith}
use Rattle.ftyp.specs.FileType.{allowed}
use Rattle.mini.specs.RecordHeader.{T_true}
use Rattle.mini.specs.declared.MinimizedImage.{MinimizedImage}
use Rattle.octets.specs.Overwrite.{overwrite}
use Rattle.writer.specs.Needed.{box_small}
use Rattle.writer.specs.ToBox.{box_of, refused, written, answer, past_11}
use Rattle.refusals.specs.Outcome.{Written}
use Rattle.expander.specs.Expands.{expands}
use Rattle.expander.specs.Outcome.{refusal_of}
use Rattle.found.specs.Expansion.{is_expansion}
use Rattle.found.specs.Found.{found_record}
use Rattle.found.proofs.Expansions.{found_gives}
use Rattle.find_mini.specs.BackToMini.{number, back_to_mini}
use Rattle.find_mini.specs.Restored.{box_or_refusal, restored}
use Rattle.find_mini.specs.declared.FindError.{FindError}
use Rattle.find_mini.specs.declared.FindError.TheVariants.{BrandList, NotAnExpansion}

abbrev image_or : MinimizedImage → Result MinimizedImage FindError → MinimizedImage
image_or i (Ok x) = x
image_or i (Err e) = i

module _ (f : List ℕ) (major minor : ℕ) (brands : List ℕ) where
  -- a record that is found expands
  pub taken : (i : MinimizedImage) → Ok i ≡ back_to_mini f major minor brands → refusal_of i f brands ≡ 0
  unfolding back_to_mini
  taken i e = go (allowed brands) (is_expansion f major minor brands) refl e
    where
      go : (t u : Bool) → is_expansion f major minor brands ≡ u
          → ◌≡◌ {A = Result MinimizedImage FindError} (Ok i) (cond t (cond u (Ok (found_record f)) (Err NotAnExpansion)) (Err BrandList)) → refusal_of i f brands ≡ 0
      go true true q e =
          let is : i ≡ found_record f = ap (λ (r : Result MinimizedImage FindError). image_or (found_record f) r) e in
          rw is (found_gives f major minor brands q).0
      go true false q e = absurd (true≢false (ap is_ok e))
      go false u q e = absurd (true≢false (ap is_ok e))

  pub found_then_written : (o : List ℕ) (i : MinimizedImage) → Ok i ≡ back_to_mini f major minor brands → answer i f o ≡ restored f major minor brands o
  unfolding restored
  found_then_written o i e =
      let x = expands i f brands (taken i e) in
      sym (past_11 i f o (sym (T_true _ x.placed)) refl (sym (T_true _ x.can_write)) refl) ∙ ap (λ (r : Result MinimizedImage FindError). box_or_refusal r f o) e

  pub refused_as_found : (o : List ℕ) (e : FindError) → Err e ≡ back_to_mini f major minor brands → refused (number e) 0 o ≡ restored f major minor brands o
  unfolding restored
  refused_as_found o e h = ap (λ (r : Result MinimizedImage FindError). box_or_refusal r f o) h

  -- ---- what is restored, by what is tested
  abbrev pub by_tests : (is_allowed is_one : Bool) → List ℕ → Written × List ℕ
  by_tests is_allowed is_one o = cond is_allowed (cond is_one (written (found_record f) f o) (refused 17 0 o)) (refused 15 0 o)

  pub restored_by : (o : List ℕ) → restored f major minor brands o ≡ by_tests (allowed brands) (is_expansion f major minor brands) o
  unfolding restored back_to_mini
  restored_by o = go (allowed brands) (is_expansion f major minor brands)
    where
      go : (t u : Bool) → box_or_refusal (cond t (cond u (Ok (found_record f)) (Err NotAnExpansion)) (Err BrandList)) f o ≡ by_tests t u o
      go true true = refl
      go true false = refl
      go false u = refl

  -- the numbers that come back, and a length that a 32-bit field can tell
  abbrev Small : Written → Type 0
  Small w = ((w.refusal ≡ 0) ⊎ ((15 ≤ w.refusal) × (w.refusal ≤ 17))) × (w.value < 4294967296)

  pub restored_small : (o : List ℕ) {w : Written} {o' : List ℕ} → ◌≡◌ {A = Written × List ℕ} (w, o') (restored f major minor brands o) → Small w
  unfolding written
  restored_small o e = subst (λ (x : Written × List ℕ). Small x.0) (sym (e ∙ restored_by o)) (go (allowed brands) (is_expansion f major minor brands) refl)
    where
      n : ℕ
      n = length (box_of (found_record f) f)

      fits : (t : Bool) → n < 4294967296 → Small (cond t (refused 16 n o) (record { refusal = 0; value = n }, overwrite o 0 (box_of (found_record f) f))).0
      fits true h = (inr (omega arith, omega arith), h)
      fits false h = (inl refl, h)

      go : (t u : Bool) → is_expansion f major minor brands ≡ u → Small (by_tests t u o).0
      go true true q = fits (ltb (length o) n) (box_small (found_record f) f (expands (found_record f) f brands (found_gives f major minor brands q).0).can_write)
      go true false q = (inr (omega arith, omega arith), lit< tt)
      go false u q = (inr (omega arith, omega arith), lit< tt)
