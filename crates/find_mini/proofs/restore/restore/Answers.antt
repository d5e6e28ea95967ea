-- `find_mini::restore::restore` meets its contract. Assumes nothing.
use Rattle.std.proofs.Common.{Err, Ok, Result, ap, refl, ℕ, ◌∙◌, ◌≡◌}
use Rattle.std.specs.Result.{IsErrAnd}
use Rattle.refusals.specs.Outcome.{Written}
use Rattle.find_mini.proofs.Laws.{found_then_written, restored_small}
use Rattle.find_mini.proofs.Restores.{restores}
use Rattle.find_mini.specs.Restored.{number, value_in, outcome_of}
use Rattle.find_mini.specs.declared.restore.RestoreError.{RestoreError}
use Rattle.find_mini.proofs.restore.restore.Goals as goal

-- the error that a `?` hands on
handed_on : (r : Result ℕ RestoreError) (e : RestoreError) → IsErrAnd r (λ x. x ≡ e) → outcome_of r ≡ record { refusal = number e; value = value_in e }
handed_on (Ok n) e h = absurd h
handed_on (Err x) e h = ap (λ (y : RestoreError). outcome_of (Err y)) h

pub returns-in_ok-to_box-in-Ok-clause-answer : goal.returns-in_ok-to_box-in-Ok-clause-answer
returns-in_ok-to_box-in-Ok-clause-answer c =
    let t = c.args.original in
    c.in_ok-to_box-in-Ok.ensures ∙ found_then_written c.args.file.now t.major_brand t.minor_version t.compatible_brands.now c.args.out.now c.in-Ok.image c.in-Ok.ensures.answer

pub returns-in_ok-to_box-in-Ok-clause-restores : goal.returns-in_ok-to_box-in-Ok-clause-restores
returns-in_ok-to_box-in-Ok-clause-restores c =
    let t = c.args.original in
    restores c.args.file.now t.major_brand t.minor_version t.compatible_brands.now c.args.out.now (returns-in_ok-to_box-in-Ok-clause-answer c) refl

pub returns-in_ok-to_box-in-Ok-clause-bounds : goal.returns-in_ok-to_box-in-Ok-clause-bounds
returns-in_ok-to_box-in-Ok-clause-bounds c =
    let t = c.args.original in
    (restored_small c.args.file.now t.major_brand t.minor_version t.compatible_brands.now c.args.out.now (returns-in_ok-to_box-in-Ok-clause-answer c)).0

pub returns-in_ok-to_box-in-Ok-clause-len : goal.returns-in_ok-to_box-in-Ok-clause-len
returns-in_ok-to_box-in-Ok-clause-len c =
    let t = c.args.original in
    (restored_small c.args.file.now t.major_brand t.minor_version t.compatible_brands.now c.args.out.now (returns-in_ok-to_box-in-Ok-clause-answer c)).1

pub returns-in_err-to_box-in-Ok-clause-answer : goal.returns-in_err-to_box-in-Ok-clause-answer
returns-in_err-to_box-in-Ok-clause-answer c =
    let t = c.args.original in
    ap (λ (w : Written). (w, c.to_box.new.out)) (handed_on _ _ c.from_residual.ensures.1)
    ∙ c.in_err-to_box-in-Ok.ensures
    ∙ found_then_written c.args.file.now t.major_brand t.minor_version t.compatible_brands.now c.args.out.now c.in-Ok.image c.in-Ok.ensures.answer

pub returns-in_err-to_box-in-Ok-clause-bounds : goal.returns-in_err-to_box-in-Ok-clause-bounds
returns-in_err-to_box-in-Ok-clause-bounds c =
    let t = c.args.original in
    (restored_small c.args.file.now t.major_brand t.minor_version t.compatible_brands.now c.args.out.now (returns-in_err-to_box-in-Ok-clause-answer c)).0

pub returns-in_err-to_box-in-Ok-clause-len : goal.returns-in_err-to_box-in-Ok-clause-len
returns-in_err-to_box-in-Ok-clause-len c =
    let t = c.args.original in
    (restored_small c.args.file.now t.major_brand t.minor_version t.compatible_brands.now c.args.out.now (returns-in_err-to_box-in-Ok-clause-answer c)).1
