use Rattle.std.proofs.Common.{Err, List, None, Ok, Option, Result, Some, ap, ap₂, arith, sym, ℕ, ◌/◌, ◌∙◌, ◌≡◌, ◌≤◌}
use Rattle.std.specs.Result.{MatchResult, result_ok}
use Rattle.bits.specs.ReadError.{number, number_not_zero}
use Rattle.bits.specs.Run.{bit_index, state}
use Rattle.bits.specs.State.{State}
use Rattle.bits.specs.declared.BitPos.{BitPos}
use Rattle.bits.specs.declared.ReadError.{ReadError}
use Rattle.mini.specs.Payload.{found}
use Rattle.mini.specs.RefusedBit.{at_chunks}
use Rattle.mini.specs.declared.Header.{Header}
use Rattle.reader.specs.Rules.{before_chunks, before_told, before_near}
use Rattle.outline.specs.Diagnosis.{accepted_header}
use Rattle.outline.specs.DiagnosisLaws.{header_is, no_header}
use Rattle.outline.proofs.diagnosis.accepted_header.Goals as goal

-- what a place told is, by the result that told it
placed : {n : ℕ} {at x : BitPos} (r : Result BitPos ReadError)
    → MatchResult r (λ a. (n ≡ 0) × (a ≡ at)) (λ e. (n ≡ number e) × (e.bit ≡ bit_index at)) → Some x ≡ result_ok r → (n ≡ 0) × (x ≡ at)
placed (Ok a) p e = (p.0, cc)
placed (Err d) p e = absurd (cc)

not_placed : {n : ℕ} (at : BitPos) (r : Result BitPos ReadError)
    → MatchResult r (λ a. (n ≡ 0) × (a ≡ at)) (λ e. (n ≡ number e) × (e.bit ≡ bit_index at)) → ◌≡◌ {A = Option BitPos} None (result_ok r) → n ≡ 0 → ⊥
not_placed at (Ok a) p e z = cc
not_placed at (Err d) p e z = number_not_zero d (sym p.0 ∙ z)

-- what is answered of an accepted header
answered : (s : List ℕ) {h : Header} {k : ℕ} → (at_chunks s).refusal ≡ 0 → found s ≡ h → (at_chunks s).at / 8 ≡ k → Some (h, k) ≡ accepted_header s
answered s z e f = ap₂ (λ (h : Header) (k : ℕ). Some (h, k)) (sym e) (sym f) ∙ sym (header_is s z)

pub place-requires-clause-refusal : goal.place-requires-clause-refusal
place-requires-clause-refusal c = before_told _ (rw c.new.ensures at c.read_header.ensures.run) c.read_trailing_bits.ensures

pub place-requires-clause-bit : goal.place-requires-clause-bit
unfolding state
place-requires-clause-bit c =
    omega (arith, before_near _ (rw c.new.ensures at c.read_header.ensures.run) c.read_trailing_bits.ensures)

pub returns-in_err-at-clause-header : goal.returns-in_err-at-clause-header
unfolding state
returns-in_err-at-clause-header c =
    let s = c.args.payload.now in
    let e = before_chunks _ (rw c.new.ensures at c.read_header.ensures.run) c.read_trailing_bits.ensures in
    let ne = not_placed _ c.place.result c.place.ensures c.in_err-at.ensures.value in
    c.from_residual.ensures ∙ sym (no_header s (λ z. ne (sym (ap (λ (x : State). x.refusal) e) ∙ z)))

pub byte-requires : goal.byte-requires
unfolding state
byte-requires c =
    let n = before_near _ (rw c.new.ensures at c.read_header.ensures.run) c.read_trailing_bits.ensures in
    let p = placed c.place.result c.place.ensures c.in_ok-at.ensures.value in
    let k : bit_index c.in_ok-at.at ≤ 2014 = rw p.1 n in
    omega (arith, k)

pub returns-clause-header : goal.returns-clause-header
unfolding state found
returns-clause-header c =
    let s = c.args.payload.now in
    let r = rw c.new.ensures at c.read_header.ensures.run in
    let e = before_chunks _ r c.read_trailing_bits.ensures in
    let p = placed c.place.result c.place.ensures c.in_ok-at.ensures.value in
    let header : found s ≡ c.read_header.result.0 = ap (λ (x : Header × State). x.0) r.eq in
    let at : (at_chunks s).at ≡ bit_index c.in_ok-at.at = rw p.1 (ap (λ (x : State). x.at) e) in
    answered s (ap (λ (x : State). x.refusal) e ∙ p.0) header (omega (arith, at))

pub returns-clause-bound : goal.returns-clause-bound
unfolding state
returns-clause-bound c =
    let n = before_near _ (rw c.new.ensures at c.read_header.ensures.run) c.read_trailing_bits.ensures in
    let p = placed c.place.result c.place.ensures c.in_ok-at.ensures.value in
    let k : bit_index c.in_ok-at.at ≤ 2014 = rw p.1 n in
    omega (arith, k, c.read_header.ensures.sizes_bound)
