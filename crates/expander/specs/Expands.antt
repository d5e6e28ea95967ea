-- When a record expands: no refusal applies, so that it is well placed, can be written and comes with an allowed list of brands (document 01, 'What
-- goes back when it cannot be done', 10 to 15); and the other way round.
use Rattle.std.specs.Prelude.{◌≡◌, refl, Bool, true, false, not, cond, List, ℕ, ◌<◌, T, is_some}
use Rattle.std.proofs.Common.{true≢false, arith, lit<}
use Rattle.std.proofs.lemmas.Bool.{not-false}
use Rattle.ftyp.specs.FileType.{allowed}
use Rattle.mini.specs.RecordHeader.{T_true}
use Rattle.mini.specs.Same.{well_placed}
use Rattle.mini.specs.Write.{writable}
use Rattle.mini.specs.declared.MinimizedImage.{MinimizedImage}
use Rattle.expander.specs.Outcome.{has_native_alpha, is_uuid, refusal_of}

-- ---- no refusal
pub record Expands (i : MinimizedImage) (s brands : List ℕ) : Type 0 where
  pub placed : T (well_placed i s)
  pub can_write : T (writable i)
  pub no_native_alpha : has_native_alpha i ≡ false
  pub no_uuid : is_uuid i.explicit_codec_types ≡ false
  pub typed : T (is_some i.explicit_codec_types)
  pub brands_allowed : allowed brands ≡ true

passed : (t : Bool) (n later : ℕ) → 0 < n → cond t n later ≡ 0 → (t ≡ false) × (later ≡ 0)
passed true n later h e = absurd (omega arith)
passed false n later h e = (refl, e)

holds : (t : Bool) → not t ≡ false → T t
holds true e = tt
holds false e = absurd (true≢false e)

pub expands : (i : MinimizedImage) (s brands : List ℕ) → refusal_of i s brands ≡ 0 → Expands i s brands
unfolding refusal_of
expands i s brands e =
    let a = passed (not (well_placed i s)) 10 _ (lit< tt) e in
    let b = passed (not (writable i)) 11 _ (lit< tt) a.1 in
    let c = passed (has_native_alpha i) 12 _ (lit< tt) b.1 in
    let d = passed (is_uuid i.explicit_codec_types) 13 _ (lit< tt) c.1 in
    let t = passed (not (is_some i.explicit_codec_types)) 14 _ (lit< tt) d.1 in
    let f = passed (not (allowed brands)) 15 _ (lit< tt) t.1 in
    record {
      placed = holds (well_placed i s) a.0;
      can_write = holds (writable i) b.0;
      no_native_alpha = c.0;
      no_uuid = d.0;
      typed = holds (is_some i.explicit_codec_types) t.0;
      brands_allowed = not-false (allowed brands) f.0;
    }

pub not_refused : (i : MinimizedImage) (s brands : List ℕ) → Expands i s brands → refusal_of i s brands ≡ 0
unfolding refusal_of
not_refused i s brands x =
    rw (
      T_true (well_placed i s) x.placed,
      T_true (writable i) x.can_write,
      x.no_native_alpha,
      x.no_uuid,
      T_true (is_some i.explicit_codec_types) x.typed,
      x.brands_allowed,
    )
