-- `rewriter::rewrite` meets its contract. Assumes nothing.
use Rattle.std.proofs.Common.{Err, Ok, Result, ap, refl, sym, ℕ, ◌∙◌, ◌≡◌}
use Rattle.std.specs.Result.{IsErrAnd}
use Rattle.bits.specs.ReadError.{kind_not_zero}
use Rattle.mini.specs.Read.{read_mini, Reading}
use Rattle.refusals.specs.Outcome.{Written}
use Rattle.writer.specs.ToBox.{answer, refused}
use Rattle.rewriter.specs.Outcome.{number, value_in, outcome_of}
use Rattle.rewriter.specs.declared.RewriteError.{RewriteError}
use Rattle.rewriter.specs.RewrittenLaws.{read_then_written, refused_as_read, promised}
use Rattle.rewriter.proofs.rewrite.Goals as goal

-- the error that a `?` hands on
handed_on : (r : Result ℕ RewriteError) (e : RewriteError) → IsErrAnd r (λ x. x ≡ e) → outcome_of r ≡ record { refusal = number e; value = value_in e }
handed_on (Ok n) e h = absurd h
handed_on (Err x) e h = ap (λ (y : RewriteError). outcome_of (Err y)) h

pub returns-in_ok-to_box-in-Ok-clause-answer : goal.returns-in_ok-to_box-in-Ok-clause-answer
returns-in_ok-to_box-in-Ok-clause-answer c =
    let p = c.args.payload.now in
    let o = c.args.out.now in
    let e = c.in-Ok.ensures in
    let z : (read_mini p).refusal ≡ 0 = sym (ap (λ (r : Reading). r.refusal) e) in
    c.in_ok-to_box-in-Ok.ensures ∙ ap (λ (r : Reading). answer r.image p o) e ∙ read_then_written p o z

pub returns-in_ok-to_box-in-Ok-clause-written_back : goal.returns-in_ok-to_box-in-Ok-clause-written_back
returns-in_ok-to_box-in-Ok-clause-written_back c =
    (promised c.args.payload.now c.args.out.now (returns-in_ok-to_box-in-Ok-clause-answer c)).1.0 refl

pub returns-in_ok-to_box-in-Ok-clause-bounds : goal.returns-in_ok-to_box-in-Ok-clause-bounds
returns-in_ok-to_box-in-Ok-clause-bounds c =
    (promised c.args.payload.now c.args.out.now (returns-in_ok-to_box-in-Ok-clause-answer c)).1.1.0

pub returns-in_ok-to_box-in-Ok-clause-len : goal.returns-in_ok-to_box-in-Ok-clause-len
returns-in_ok-to_box-in-Ok-clause-len c =
    (promised c.args.payload.now c.args.out.now (returns-in_ok-to_box-in-Ok-clause-answer c)).1.1.1

pub returns-in_err-to_box-in-Ok-clause-answer : goal.returns-in_err-to_box-in-Ok-clause-answer
returns-in_err-to_box-in-Ok-clause-answer c =
    let p = c.args.payload.now in
    let o = c.args.out.now in
    let e = c.in-Ok.ensures in
    let z : (read_mini p).refusal ≡ 0 = sym (ap (λ (r : Reading). r.refusal) e) in
    ap (λ (w : Written). (w, c.to_box.new.out)) (handed_on _ _ c.from_residual.ensures.1)
    ∙ c.in_err-to_box-in-Ok.ensures
    ∙ ap (λ (r : Reading). answer r.image p o) e
    ∙ read_then_written p o z

pub returns-in_err-to_box-in-Ok-clause-bounds : goal.returns-in_err-to_box-in-Ok-clause-bounds
returns-in_err-to_box-in-Ok-clause-bounds c =
    (promised c.args.payload.now c.args.out.now (returns-in_err-to_box-in-Ok-clause-answer c)).1.1.0

pub returns-in_err-to_box-in-Ok-clause-len : goal.returns-in_err-to_box-in-Ok-clause-len
returns-in_err-to_box-in-Ok-clause-len c =
    (promised c.args.payload.now c.args.out.now (returns-in_err-to_box-in-Ok-clause-answer c)).1.1.1

pub returns-in-Err-clause-answer : goal.returns-in-Err-clause-answer
returns-in-Err-clause-answer c =
    let p = c.args.payload.now in
    let o = c.args.out.now in
    let e = c.in-Err.ensures in
    ap (λ (x : RewriteError). (outcome_of (Err x), o)) c.into.ensures
    ∙ ap (λ (r : Reading). refused r.refusal r.bit o) e
    ∙ refused_as_read p o (λ z. kind_not_zero _ (ap (λ (r : Reading). r.refusal) e ∙ z))

pub returns-in-Err-clause-bounds : goal.returns-in-Err-clause-bounds
returns-in-Err-clause-bounds c = (promised c.args.payload.now c.args.out.now (returns-in-Err-clause-answer c)).1.1.0
