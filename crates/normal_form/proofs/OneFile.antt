-- When two minis are one file (document 02, 14): two records, each with its source, that expand under one original file type give equal files
-- exactly when they are `Alike`; and that their files tell their normal forms.
use Rattle.std.specs.Prelude.{◌≡◌, List, ℕ, ◌↔◌}
use Rattle.std.proofs.Common.{sym, ap, ◌∙◌}
use Rattle.mini.specs.Same.{unplaced, chunks_of, Same}
use Rattle.mini.specs.declared.MinimizedImage.{MinimizedImage}
use Rattle.expander.specs.EquivalentFile.{item_set, file}
use Rattle.expander.specs.Expands.{Expands, expands, not_refused}
use Rattle.expander.specs.Outcome.{refusal_of}
use Rattle.carried.specs.Carried.{carried}
use Rattle.carried.specs.ReadFile.{carried_in}
use Rattle.carried.proofs.File.{same_file}
use Rattle.carried.proofs.Found.{carried_found}
use Rattle.normal_form.specs.Alike.{Alike}
use Rattle.normal_form.specs.NormalForm.{normal}
use Rattle.normal_form.specs.ReadRecord.{record_in, chunks_in}
use Rattle.normal_form.proofs.AlikeIff.{alike_iff}
use Rattle.normal_form.proofs.NormalExpands.{normal_expands}
use Rattle.normal_form.proofs.NormalCarried.{normal_carried}
use Rattle.normal_form.proofs.RecordAgain.{record_again, chunks_again}
use Rattle.normal_form.proofs.SameLaws.{carried_same}

-- what is carried tells the normal form, positions aside, and the other way round
module _ (i : MinimizedImage) (s : List ℕ) (k : MinimizedImage) (t brands : List ℕ) (x : Expands i s brands) (y : Expands k t brands) where
  normal_told : carried i s ≡ carried k t → Same (normal i s) s (normal k t) t
  normal_told e =
      record {
        fields = sym (record_again i s brands x) ∙ ap record_in e ∙ record_again k t brands y;
        chunks = sym (chunks_again i s brands x) ∙ ap chunks_in e ∙ chunks_again k t brands y;
      }

  normal_tells : Same (normal i s) s (normal k t) t → carried i s ≡ carried k t
  normal_tells h = sym (normal_carried i s brands x) ∙ carried_same (normal i s) s (normal k t) t h ∙ normal_carried k t brands y

-- ---- two records that expand under one file type
module _ (i : MinimizedImage) (s : List ℕ) (k : MinimizedImage) (t brands : List ℕ) (a : refusal_of i s brands ≡ 0) (b : refusal_of k t brands ≡ 0)
    (major minor : ℕ) where
  x : Expands i s brands
  x = expands i s brands a

  y : Expands k t brands
  y = expands k t brands b

  -- they give one file exactly when their normal forms are the same
  pub one_normal : (file i s major minor brands ≡ file k t major minor brands) ↔ Same (normal i s) s (normal k t) t
  one_normal =
      let f = same_file i s k t brands x y major minor in
      (λ e. normal_told i s k t brands x y (f.0 e), λ h. f.1 (normal_tells i s k t brands x y h))

  -- and so exactly when they are alike
  pub one_file : (file i s major minor brands ≡ file k t major minor brands) ↔ Alike i s k t
  one_file =
      let n = alike_iff i s k t brands x y in
      (λ e. n.0 (one_normal.0 e), λ h. one_normal.1 (n.1 h))

  -- the compressed flag is always carried, also where Exif stands without XMP: equal files have equal flags
  pub compressed_carried : file i s major minor brands ≡ file k t major minor brands → i.exif_xmp_compressed ≡ k.exif_xmp_compressed
  unfolding carried item_set
  compressed_carried e = let c = (same_file i s k t brands x y major minor).0 e in λ j. (c j).items.compressed

-- ---- the normal form of a record that expands does too, and to the same file, which tells it, positions aside, and its chunks
module _ (i : MinimizedImage) (s brands : List ℕ) (a : refusal_of i s brands ≡ 0) where
  pub normal_accepted : refusal_of (normal i s) s brands ≡ 0
  normal_accepted = not_refused (normal i s) s brands (normal_expands i s brands (expands i s brands a))

  pub normal_file : (major minor : ℕ) → file (normal i s) s major minor brands ≡ file i s major minor brands
  normal_file major minor =
      let x = expands i s brands a in
      (same_file (normal i s) s i s brands (normal_expands i s brands x) x major minor).1 (normal_carried i s brands x)

  pub record_found : (major minor : ℕ) → record_in (carried_in (file i s major minor brands)) ≡ unplaced (normal i s)
  record_found major minor =
      let x = expands i s brands a in
      ap record_in (carried_found i s major minor brands x) ∙ record_again i s brands x

  pub chunks_found : (major minor : ℕ) → chunks_in (carried_in (file i s major minor brands)) ≡ chunks_of (normal i s) s
  chunks_found major minor =
      let x = expands i s brands a in
      ap chunks_in (carried_found i s major minor brands x) ∙ chunks_again i s brands x
