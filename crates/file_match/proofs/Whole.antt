-- A file compared to its end is the file.
use Rattle.std.specs.Prelude.{◌≡◌, refl, Bool, true, false, T, List, ℕ, eqb, length, Option, Some, None}
use Rattle.std.specs.Option.{option_eq}
use Rattle.std.proofs.Common.{sym, ap, ◌∙◌, subst, true≢false, eqb-true, eq-eqb}
use Rattle.bits.specs.Format.{is_list, list_is}
use Rattle.mini.specs.RecordHeader.{T_true}
use Rattle.matching.specs.Matched.{matched}
use Rattle.matching.specs.MatchedLaws.{whole_same, same_whole}

-- ---- a comparison that ends where the file ends
same_end : (o : Option ℕ) (n : ℕ) → option_eq eqb o (Some n) ≡ true → o ≡ Some n
same_end None n e = absurd (true≢false (sym e))
same_end (Some k) n e = ap Some (eqb-true k n e)

pub is_whole : (f g : List ℕ) → option_eq eqb (matched f (Some 0) g) (Some (length f)) ≡ is_list g f
is_whole f g = go _ _ refl refl
  where
    go : (a b : Bool) → option_eq eqb (matched f (Some 0) g) (Some (length f)) ≡ a → is_list g f ≡ b → a ≡ b
    go true b e h = sym (T_true (is_list g f) ((list_is f g).1 (sym (whole_same f g (same_end _ _ e))))) ∙ h
    go false true e h =
        let s = same_whole f g (sym ((list_is f g).0 (subst T (sym h) tt))) in
        sym e ∙ rw s (eq-eqb (length f) (length f) refl)
    go false false e h = refl
