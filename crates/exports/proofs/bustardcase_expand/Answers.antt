-- `exports::bustardcase_expand` meets its contract. Assumes nothing.
use Rattle.std.proofs.Common.{ap, ap₂, sym, ◌∙◌, ◌≡◌}
use Rattle.expander.specs.EquivalentFile.{file}
use Rattle.expander.specs.Outcome.{expanded, refusal_of}
use Rattle.mini.specs.Read.{read_mini, reading_of, Reading}
use Rattle.mini.proofs.RefusedBit.{accepted_no_bit}
use Rattle.exports.specs.Answer.{packed}
use Rattle.exports.specs.AnswerLaws.{refuses, answers, answered_as, refused_reading, past_reading}
use Rattle.exports.proofs.bustardcase_expand.Goals as goal

pub returns-in-Ok : goal.returns-in-Ok
unfolding expanded
returns-in-Ok c =
    let p = c.args.payload.now in
    let b = c.args.brands.now in
    let o = c.args.out.now in
    let e = ap reading_of (sym c.in-Ok.is) ∙ c.parse.ensures in
    let z = sym (ap (λ (r : Reading). r.refusal) e) in
    let w = c.equivalent_file.ensures.answer ∙ ap (λ (r : Reading). expanded r.image p c.args.major c.args.minor b o) e in
    answered_as (past_reading p b z) (sym (accepted_no_bit p z))
    (answers (refusal_of (read_mini p).image p b) 0 (file (read_mini p).image p c.args.major c.args.minor b) o w c.of_written.ensures)

pub returns-in-Err : goal.returns-in-Err
returns-in-Err c =
    let p = c.args.payload.now in
    let b = c.args.brands.now in
    let q = ap reading_of (sym c.in-Err.is) ∙ c.parse.ensures in
    let e = ap (λ (r : Reading). r.refusal) q in
    let h : (read_mini p).refusal ≡ 0 → ⊥ = λ z. c.refused.ensures.not_zero (e ∙ z) in
    let n = refused_reading p b h in
    refuses (λ z. h (n ∙ z)) (c.refused.ensures.is ∙ ap₂ packed (e ∙ n) (ap (λ (r : Reading). r.bit) q))
