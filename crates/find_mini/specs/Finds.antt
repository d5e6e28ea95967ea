-- What is promised of the answer (document 02, 3), beside that it is the definition's: when it is a refusal, that the record found expands to exactly
-- the file, and that no record which does has a shorter payload.
use Rattle.std.specs.Prelude.{◌≡◌, true, false, List, ℕ, ◌≤◌, T, length, Result, Err, is_ok, IfOk, ◌↔◌}
use Rattle.std.proofs.Math.Pow.{are_bytes}
use Rattle.ftyp.specs.FileType.{allowed}
use Rattle.mini.specs.RoundTrip.{ReadsTo}
use Rattle.mini.specs.Same.{Same}
use Rattle.mini.specs.Write.{payload_of}
use Rattle.mini.specs.declared.MinimizedImage.{MinimizedImage}
use Rattle.expander.specs.EquivalentFile.{file}
use Rattle.expander.specs.Outcome.{refusal_of}
use Rattle.normal_form.specs.NormalForm.{normal}
use Rattle.found.specs.ChunkPlaces.{ChunkPlaces}
use Rattle.found.specs.ExpandsTo.{ExpandsTo}
use Rattle.found.specs.Found.{found_record}
use Rattle.find_mini.specs.Defaults.{Defaults}
use Rattle.find_mini.specs.declared.FindError.{FindError}
use Rattle.find_mini.specs.declared.FindError.TheVariants.{BrandList, NotAnExpansion}

pub record Finds (f : List ℕ) (major minor : ℕ) (brands : List ℕ) (r : Result MinimizedImage FindError) : Type 0 where
  -- 15 for a list of brands that is not allowed, and for no other
  pub brand_list : (r ≡ Err BrandList) ↔ (allowed brands ≡ false)
  -- 17 under an allowed list if no record expands to the file, and only then
  pub not_an_expansion : (r ≡ Err NotAnExpansion) ↔ ((allowed brands ≡ true) × (ExpandsTo f major minor brands → ⊥))
  -- a record is found if some record expands to the file, and only then
  pub found_iff : (is_ok r ≡ true) ↔ ExpandsTo f major minor brands
  -- which record that is, is told by the file alone
  pub one : IfOk r (λ i. i ≡ found_record f)
  -- with the file as its source it expands to exactly the file
  pub expands : IfOk r (λ i. (refusal_of i f brands ≡ 0) × (file i f major minor brands ≡ f))
  -- its chunks lie where the file holds their bytes, and empty ones at 0
  pub places : IfOk r (λ i. ChunkPlaces i f)
  -- it is the normal form of each record that expands to the file
  pub is_normal : IfOk r (λ i. (x : ExpandsTo f major minor brands) → Same i f (normal x.image x.source) x.source)
  -- what the file does not carry has its default
  pub defaults : IfOk r (λ i. Defaults i)
  -- no payload that reads to such a record is shorter than its own, which reads to it
  pub reads : IfOk r (λ i. ReadsTo (payload_of i f) i f)
  pub shortest :
      IfOk r (λ i. (x : ExpandsTo f major minor brands) (p : List ℕ) → T (are_bytes p) → ReadsTo p x.image x.source → length (payload_of i f) ≤ length p)
