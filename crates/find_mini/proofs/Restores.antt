-- What is restored is as promised: the payload of the record found reads to a record that is the same, and so expands to the same file.
use Rattle.std.specs.Prelude.{◌≡◌, refl, Bool, true, false, List, ℕ, take, drop}
use Rattle.std.proofs.Common.{ap, ◌∙◌, arith}
use Rattle.ftyp.specs.FileType.{allowed}
use Rattle.mini.specs.Read.{read_mini}
use Rattle.mini.specs.RecordHeader.{T_true}
use Rattle.mini.specs.RoundTrip.{ReadsTo}
use Rattle.mini.specs.Same.{Same}
use Rattle.mini.specs.Write.{payload_of}
use Rattle.mini.specs.declared.MinimizedImage.{MinimizedImage}
use Rattle.mini.proofs.RoundTrip as round_trip
use Rattle.mini.proofs.WellPlaced.{read_placed}
use Rattle.refusals.specs.Outcome.{Written}
use Rattle.writer.specs.WrittenLaws.{payload_there}
use Rattle.expander.specs.EquivalentFile.{file}
use Rattle.expander.specs.Expands.{expands, not_refused}
use Rattle.expander.specs.Outcome.{refusal_of}
use Rattle.normal_form.proofs.SameFile.{same_expands, same_gives}
use Rattle.found.specs.ExpandsTo.{ExpandsTo}
use Rattle.found.specs.Expansion.{is_expansion}
use Rattle.found.specs.Found.{found_record}
use Rattle.found.proofs.Expansions.{found_gives}
use Rattle.found.proofs.Shortest.{found_no_longer}
use Rattle.find_mini.specs.Restored.{restored}
use Rattle.find_mini.specs.Restores.{PayloadExpands, Restores}
use Rattle.find_mini.proofs.Laws.{by_tests, restored_by}

module _ (f : List ℕ) (major minor : ℕ) (brands : List ℕ) where
  -- a payload that reads to a record which expands does so too
  payload_expands : (p : List ℕ) (i : MinimizedImage) (s : List ℕ) → ReadsTo p i s → refusal_of i s brands ≡ 0 → file i s major minor brands ≡ f
      → PayloadExpands f major minor brands p
  payload_expands p i s r a e =
      let x = expands i s brands a in
      let same : Same (read_mini p).image p i s = record { fields = r.same; chunks = r.chunks } in
      let placed = T_true _ (read_placed p r.took) in
      record {
        reads = r.took;
        accepted = not_refused (read_mini p).image p brands (same_expands (read_mini p).image p i s brands same placed x);
        gives = same_gives (read_mini p).image p i s brands same placed x major minor ∙ e;
      }

  -- and it is one that reads to a record which does
  as_record : {q : List ℕ} → PayloadExpands f major minor brands q → ExpandsTo f major minor brands
  as_record {q} x = record { image = (read_mini q).image; source = q; expands = x.accepted; gives = x.gives }

  payload_restores : is_expansion f major minor brands ≡ true → Restores f major minor brands (payload_of (found_record f) f)
  unfolding as_record
  payload_restores h =
      let g = found_gives f major minor brands h in
      let x = expands (found_record f) f brands g.0 in
      record {
        expands = payload_expands (payload_of (found_record f) f) (found_record f) f (round_trip.written (found_record f) f x.placed x.can_write) g.0 g.1;
        shortest = λ q b y. found_no_longer f major minor brands (as_record y) q b (record { took = y.reads; same = refl; chunks = refl });
      }

  pub restores : (o : List ℕ) {w : Written} {o' : List ℕ} → ◌≡◌ {A = Written × List ℕ} (w, o') (restored f major minor brands o) → w.refusal ≡ 0
      → Restores f major minor brands (drop 8 (take w.value o'))
  restores o {w} {o'} e z = go (allowed brands) (is_expansion f major minor brands) refl (e ∙ restored_by f major minor brands o)
    where
      go : (t u : Bool) → is_expansion f major minor brands ≡ u → ◌≡◌ {A = Written × List ℕ} (w, o') (by_tests f major minor brands t u o)
          → Restores f major minor brands (drop 8 (take w.value o'))
      go true true h k = rw (payload_there (found_record f) f o k z) (payload_restores h)
      go true false h k = absurd (omega (arith, ap (λ (x : Written × List ℕ). x.0.refusal) k, z))
      go false u h k = absurd (omega (arith, ap (λ (x : Written × List ℕ). x.0.refusal) k, z))
