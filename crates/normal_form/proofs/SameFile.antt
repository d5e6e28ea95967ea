-- A record that is the same as one that expands does too, with any source that holds its chunks, and to the same file.
use Rattle.std.specs.Prelude.{◌≡◌, true, List, ℕ, T, is_some}
use Rattle.std.proofs.Common.{sym, ap, ◌∙◌, subst}
use Rattle.mini.specs.Same.{unplaced, well_placed, Same}
use Rattle.mini.specs.declared.MinimizedImage.{MinimizedImage}
use Rattle.mini.proofs.RoundTrip.{writable-unplaced}
use Rattle.expander.specs.EquivalentFile.{file}
use Rattle.expander.specs.Expands.{Expands}
use Rattle.expander.specs.Outcome.{has_native_alpha, is_uuid}
use Rattle.carried.proofs.File.{same_file}
use Rattle.normal_form.proofs.SameLaws.{carried_same}

module _ (i : MinimizedImage) (s : List ℕ) (n : MinimizedImage) (t brands : List ℕ) (same : Same i s n t) (p : well_placed i s ≡ true)
    (x : Expands n t brands) where
  pub same_expands : Expands i s brands
  unfolding unplaced
  same_expands =
      let e : unplaced i ≡ unplaced n = same.fields in
      record {
        placed = rw p tt;
        can_write = rw (← writable-unplaced i, e, writable-unplaced n) x.can_write;
        no_native_alpha = ap has_native_alpha e ∙ x.no_native_alpha;
        no_uuid = ap (λ (r : MinimizedImage). is_uuid r.explicit_codec_types) e ∙ x.no_uuid;
        typed = subst (λ (r : MinimizedImage). T (is_some r.explicit_codec_types)) (sym e) x.typed;
        brands_allowed = x.brands_allowed;
      }

  pub same_gives : (major minor : ℕ) → file i s major minor brands ≡ file n t major minor brands
  same_gives major minor = (same_file i s n t brands same_expands x major minor).1 (carried_same i s n t same)
