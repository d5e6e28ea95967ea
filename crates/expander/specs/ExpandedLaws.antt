-- What expanding leaves in the output holds every byte where its location says (demand 3); the payloads that the demand names are among
-- those that expand; and the numbers that come back are small (demand 1).
use Rattle.std.specs.Prelude.{◌≡◌, Bool, not, cond, List, ℕ, ◌≤◌, ◌<◌, eqb, length, take, is_some}
use Rattle.std.proofs.Math.Path.{refl}
use Rattle.std.proofs.Common.{sym, subst, arith, lit≤, eqb-true, ltb-false}
use Rattle.std.proofs.Math.Bool.{true, false}
use Rattle.std.proofs.Math.Dec.{ltb}
use Rattle.std.proofs.lemmas.Bool.{eqb-false}
use Rattle.octets.specs.Overwrite.{overwrite}
use Rattle.octets.specs.OverwriteLaws.{written}
use Rattle.ftyp.specs.FileType.{allowed}
use Rattle.mini.specs.Read.{read_mini}
use Rattle.mini.proofs.RoundTrip.{read_writable}
use Rattle.mini.specs.Same.{well_placed}
use Rattle.mini.proofs.WellPlaced.{read_placed}
use Rattle.mini.specs.Write.{writable}
use Rattle.mini.specs.declared.MinimizedImage.{MinimizedImage}
use Rattle.slots.specs.Bounds.{cond_most}
use Rattle.writer.specs.ToBox.{refused}
use Rattle.refusals.specs.Outcome.{Written}
use Rattle.mini.specs.RecordHeader.{T_true}
use Rattle.expander.specs.EquivalentFile.{item_bytes, file}
use Rattle.expander.specs.EveryByte.{every_byte}
use Rattle.expander.specs.Expands.{expands}
use Rattle.expander.specs.FileLength.{file_narrow}
use Rattle.expander.specs.LocationsInFile.{EveryByte}
use Rattle.expander.specs.Outcome.{has_native_alpha, is_uuid, refusal_of, expanded}

-- ---- the record read from a payload, with that payload as its source
pub read_expands : (p brands : List ℕ) → (read_mini p).refusal ≡ 0 → allowed brands ≡ true
    → is_some (read_mini p).image.explicit_codec_types ≡ true → is_uuid (read_mini p).image.explicit_codec_types ≡ false
    → has_native_alpha (read_mini p).image ≡ false → refusal_of (read_mini p).image p brands ≡ 0
unfolding refusal_of
read_expands p brands z a t u n =
    let i = (read_mini p).image in
    rw (T_true (well_placed i p) (read_placed p z), T_true (writable i) (read_writable p z), n, u, t, a)

-- ---- what comes back
pub refusal_most : (i : MinimizedImage) (s brands : List ℕ) → refusal_of i s brands ≤ 15
unfolding refusal_of
refusal_most i s brands =
    let c = i.explicit_codec_types in
    cond_most (not (well_placed i s)) 10 _ 15 (lit≤ tt)
    (cond_most (not (writable i)) 11 _ 15 (lit≤ tt)
    (cond_most (has_native_alpha i) 12 _ 15 (lit≤ tt)
    (cond_most (is_uuid c) 13 _ 15 (lit≤ tt)
    (cond_most (not (is_some c)) 14 _ 15 (lit≤ tt) (cond_most (not (allowed brands)) 15 0 15 (lit≤ tt) (lit≤ tt))))))

module _ (i : MinimizedImage) (s : List ℕ) (major minor : ℕ) (brands out : List ℕ) where
  abbrev f : List ℕ
  f = file i s major minor brands

  abbrev r : ℕ
  r = refusal_of i s brands

  abbrev done : Written × List ℕ
  done = (record { refusal = 0; value = length f }, overwrite out 0 f)

  -- by the two tests
  by_cases : (P : Written × List ℕ → Type 0) → (r ≡ 0 → length f ≤ length out → P done) → (r ≡ 0 → P (refused 16 (length f) out))
      → ((r ≡ 0 → ⊥) → P (refused r 0 out)) → P (expanded i s major minor brands out)
  unfolding expanded
  by_cases P d n e = go (eqb r 0) refl
    where
      room : (t : Bool) → ltb (length out) (length f) ≡ t → r ≡ 0 → P (cond t (refused 16 (length f) out) done)
      room true h z = n z
      room false h z = d z (ltb-false (length out) (length f) h)

      go : (t : Bool) → eqb r 0 ≡ t → P (cond t (cond (ltb (length out) (length f)) (refused 16 (length f) out) done) (refused r 0 out))
      go true h = room (ltb (length out) (length f)) refl (eqb-true r 0 h)
      go false h = e (eqb-false r 0 h)

  pub expanded_file : {w : Written} {o' : List ℕ} → ◌≡◌ {A = Written × List ℕ} (w, o') (expanded i s major minor brands out) → w.refusal ≡ 0
      → EveryByte (item_bytes i s) (take w.value o')
  expanded_file {w} {o'} e =
      subst P (sym e)
      (by_cases P (λ z h. λ k. rw (written out 0 f (omega arith)) (every_byte i s major minor brands z)) (λ z. λ k. absurd (omega arith)) (λ z. λ k. absurd (z k)))
    where
      P : Written × List ℕ → Type 0
      P x = x.0.refusal ≡ 0 → EveryByte (item_bytes i s) (take x.0.value x.1)

  pub expanded_small : {w : Written} {o' : List ℕ} → ◌≡◌ {A = Written × List ℕ} (w, o') (expanded i s major minor brands out)
      → (w.refusal ≤ 16) × (w.value < 4294967296)
  expanded_small {w} {o'} e =
      subst P (sym e)
      (by_cases P (λ z h. (lit≤ tt, narrow z)) (λ z. (lit≤ tt, narrow z)) (λ z. (omega (arith, refusal_most i s brands), omega arith)))
    where
      P : Written × List ℕ → Type 0
      P x = (x.0.refusal ≤ 16) × (x.0.value < 4294967296)

      narrow : r ≡ 0 → length f < 4294967296
      narrow z = file_narrow i s brands (expands i s brands z) major minor

  -- all that expanding promises follows from its definition
  pub promised : {w : Written} {o' : List ℕ} → ◌≡◌ {A = Written × List ℕ} (w, o') (expanded i s major minor brands out)
      → (◌≡◌ {A = Written × List ℕ} (w, o') (expanded i s major minor brands out))
      × ((w.refusal ≡ 0 → EveryByte (item_bytes i s) (take w.value o')) × ((w.refusal ≤ 16) × (w.value < 4294967296)))
  promised e = (e, (expanded_file e, expanded_small e))
