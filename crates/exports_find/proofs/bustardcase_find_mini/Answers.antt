use Rattle.std.proofs.Common.{refl, rules, sym}
use Rattle.exports.specs.AnswerLaws.{handed_out}
use Rattle.exports_find.proofs.bustardcase_find_mini.Goals as goal

pub returns-in-Ok : goal.returns-in-Ok
returns-in-Ok c = rw (← c.find_mini.ensures.answer, c.in-Ok.is) (handed_out refl (sym c.record_len.ensures.0) c.hand_out.ensures.short (λ h. search rules))
