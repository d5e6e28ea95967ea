use Rattle.std.proofs.Common.{refl, rules}
use Rattle.layout.specs.HeaderBytes.{length-header_bytes}
use Rattle.exports.specs.AnswerLaws.{handed_out}
use Rattle.exports.proofs.answer_header.Goals as goal

pub returns-in-Ok : goal.returns-in-Ok
returns-in-Ok c = rw c.in-Ok.is (handed_out refl (length-header_bytes _) c.hand_out.ensures.short (λ h. search rules))
