-- A file is the expansion of a record exactly if the record found in it expands to it (document 02, 3: 'find a record with explicit codec types that
-- expands to exactly those bytes, or say there is none').
use Rattle.std.specs.Prelude.{◌≡◌, true, List, ℕ, eqb, ◌↔◌}
use Rattle.std.specs.Cmp.Derive.{both_true}
use Rattle.std.proofs.Common.{subst, eqb-true, eq-eqb}
use Rattle.std.proofs.lemmas.Bool.{and_parts}
use Rattle.bits.specs.Format.{list_is}
use Rattle.mini.specs.RecordHeader.{T_true}
use Rattle.mini.specs.Same.{Same}
use Rattle.mini.specs.declared.MinimizedImage.{MinimizedImage}
use Rattle.expander.specs.EquivalentFile.{file}
use Rattle.expander.specs.Expands.{Expands, expands, not_refused}
use Rattle.expander.specs.Outcome.{refusal_of}
use Rattle.normal_form.specs.NormalForm.{normal}
use Rattle.found.specs.ExpandsTo.{ExpandsTo}
use Rattle.found.specs.Expansion.{expands_to_source, is_expansion}
use Rattle.found.specs.Found.{found_record}
use Rattle.found.proofs.FoundExpands.{found_expands, found_file}
use Rattle.found.proofs.FoundSame.{found_same}

-- the file of a record that expands passes the test
file_passes : (i : MinimizedImage) (s : List ℕ) (major minor : ℕ) (brands : List ℕ) → Expands i s brands
    → is_expansion (file i s major minor brands) major minor brands ≡ true
unfolding expands_to_source
file_passes i s major minor brands x =
    let f = file i s major minor brands in
    let accepted = not_refused (found_record f) f brands (found_expands i s major minor brands x) in
    let gives = found_file i s major minor brands x in
    both_true (eq-eqb _ 0 accepted) (T_true _ ((list_is f (file (found_record f) f major minor brands)).1 gives))

module _ (f : List ℕ) (major minor : ℕ) (brands : List ℕ) where
  -- where it passes, the record found, with the file as its source, expands to it
  pub found_gives : is_expansion f major minor brands ≡ true → (refusal_of (found_record f) f brands ≡ 0) × (file (found_record f) f major minor brands ≡ f)
  unfolding expands_to_source
  found_gives h =
      let w = and_parts (eqb (refusal_of (found_record f) f brands) 0) _ h in
      (eqb-true _ 0 w.0, (list_is f (file (found_record f) f major minor brands)).0 (rw w.1 tt))

  pub by_found : is_expansion f major minor brands ≡ true → ExpandsTo f major minor brands
  by_found h = let g = found_gives h in record { image = found_record f; source = f; expands = g.0; gives = g.1 }

  pub expansion_iff : (is_expansion f major minor brands ≡ true) ↔ ExpandsTo f major minor brands
  expansion_iff = (
    by_found,
    λ r.
        subst (λ (g : List ℕ). is_expansion g major minor brands ≡ true) r.gives
        (file_passes r.image r.source major minor brands (expands r.image r.source brands r.expands)),
  )

  -- what is found is the normal form of every record that does
  pub found_normal : (r : ExpandsTo f major minor brands) → Same (found_record f) f (normal r.image r.source) r.source
  found_normal r =
      subst (λ (g : List ℕ). Same (found_record g) g (normal r.image r.source) r.source) r.gives
      (found_same r.image r.source major minor brands (expands r.image r.source brands r.expands))

  -- and so its own
  pub found_is_normal : is_expansion f major minor brands ≡ true → Same (found_record f) f (normal (found_record f) f) f
  unfolding by_found
  found_is_normal h = found_normal (by_found h)
