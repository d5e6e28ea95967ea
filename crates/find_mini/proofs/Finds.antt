-- The definition's answer is as promised.
use Rattle.std.specs.Prelude.{◌≡◌, refl, Bool, true, false, cond, List, ℕ, Result, Ok, Err, is_ok}
use Rattle.std.proofs.Common.{sym, ap, ◌∙◌, subst, arith, true≢false}
use Rattle.ftyp.specs.FileType.{allowed}
use Rattle.mini.specs.declared.MinimizedImage.{MinimizedImage}
use Rattle.mini.proofs.RoundTrip.{written}
use Rattle.expander.specs.Expands.{expands}
use Rattle.found.specs.ExpandsTo.{ExpandsTo}
use Rattle.found.specs.Expansion.{expands_to_source, is_expansion}
use Rattle.found.specs.Found.{found_record}
use Rattle.found.proofs.ChunkPlaces.{found_places}
use Rattle.found.proofs.Expansions.{expansion_iff, found_gives, found_normal, by_found}
use Rattle.found.proofs.Shortest.{found_no_longer}
use Rattle.find_mini.proofs.Defaults.{defaults}
use Rattle.find_mini.specs.BackToMini.{number, back_to_mini}
use Rattle.find_mini.specs.Finds.{Finds}
use Rattle.find_mini.specs.declared.FindError.{FindError}
use Rattle.find_mini.specs.declared.FindError.TheVariants.{BrandList, NotAnExpansion}

abbrev Answer : Type 0
Answer = Result MinimizedImage FindError

-- the refusal's number, 0 for none: answers that have different ones differ
abbrev told : Answer → ℕ
told (Ok i) = 0
told (Err e) = number e

module _ (f : List ℕ) (major minor : ℕ) (brands : List ℕ) where
  not_there : is_expansion f major minor brands ≡ false → ExpandsTo f major minor brands → ⊥
  not_there e x = true≢false (sym ((expansion_iff f major minor brands).1 x) ∙ e)

  -- a record that expands comes with an allowed list
  may : ExpandsTo f major minor brands → allowed brands ≡ true
  may x = (expands x.image x.source brands x.expands).brands_allowed

  pub finds : Finds f major minor brands (back_to_mini f major minor brands)
  unfolding back_to_mini
  finds = go (allowed brands) (is_expansion f major minor brands) refl refl
    where
      go : (t u : Bool) → allowed brands ≡ t → is_expansion f major minor brands ≡ u
          → Finds f major minor brands (cond t (cond u (Ok (found_record f)) (Err NotAnExpansion)) (Err BrandList))
      go true true a e =
          let x = by_found f major minor brands e in
          let g = found_gives f major minor brands e in
          let y = expands (found_record f) f brands g.0 in
          record {
            brand_list = (λ h. absurd (true≢false (ap is_ok h)), λ h. absurd (true≢false (sym a ∙ h)));
            not_an_expansion = (λ h. absurd (true≢false (ap is_ok h)), λ h. absurd (h.1 x));
            found_iff = (λ h. x, λ h. refl);
            one = refl;
            expands = g;
            places = found_places f;
            is_normal = λ z. found_normal f major minor brands z;
            defaults = defaults f major minor brands e;
            reads = written (found_record f) f y.placed y.can_write;
            shortest = λ z p b h. found_no_longer f major minor brands z p b h;
          }
      go true false a e =
          record {
            brand_list = (λ h. absurd (omega (arith, ap told h)), λ h. absurd (true≢false (sym a ∙ h)));
            not_an_expansion = (λ h. (a, not_there e), λ h. refl);
            found_iff = (λ h. absurd (true≢false (sym h)), λ x. absurd (not_there e x));
            one = tt;
            expands = tt;
            places = tt;
            is_normal = tt;
            defaults = tt;
            reads = tt;
            shortest = tt;
          }
      go false u a e =
          record {
            brand_list = (λ h. a, λ h. refl);
            not_an_expansion = (λ h. absurd (omega (arith, ap told h)), λ h. absurd (true≢false (sym h.0 ∙ a)));
            found_iff = (λ h. absurd (true≢false (sym h)), λ x. absurd (true≢false (sym (may x) ∙ a)));
            one = tt;
            expands = tt;
            places = tt;
            is_normal = tt;
            defaults = tt;
            reads = tt;
            shortest = tt;
          }

  -- by what the code tests
  pub finds_refused : allowed brands ≡ false → Finds f major minor brands (Err BrandList)
  unfolding back_to_mini
  finds_refused a = rw a at finds

  module _ {i : MinimizedImage} (allows : allowed brands ≡ true) (is : i ≡ found_record f) where
    answered : {t : Bool} → t ≡ expands_to_source i f major minor brands → back_to_mini f major minor brands ≡ cond t (Ok (found_record f)) (Err NotAnExpansion)
    unfolding back_to_mini
    answered e = rw (e, is, allows) refl

    pub finds_one : {t : Bool} → t ≡ expands_to_source i f major minor brands → t ≡ true → Finds f major minor brands (Ok i)
    finds_one e h = rw is (subst (λ (r : Answer). Finds f major minor brands r) (answered e ∙ rw h refl) finds)

    pub finds_none : {t : Bool} → t ≡ expands_to_source i f major minor brands → t ≡ false → Finds f major minor brands (Err NotAnExpansion)
    finds_none e h = subst (λ (r : Answer). Finds f major minor brands r) (answered e ∙ rw h refl) finds
