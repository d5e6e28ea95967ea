use Rattle.std.proofs.Common.{refl, rules}
use Rattle.layout.specs.CheckBytes.{length-check_bytes}
use Rattle.exports.specs.AnswerLaws.{handed_out}
use Rattle.exports.proofs.bustardcase_check.Goals as goal

pub returns-in-Ok : goal.returns-in-Ok
returns-in-Ok c = rw (← c.parse.ensures, c.in-Ok.is) (handed_out refl (length-check_bytes _) c.hand_out.ensures.short (λ h. search rules))
