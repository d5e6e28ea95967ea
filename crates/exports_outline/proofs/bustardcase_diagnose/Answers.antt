-- `exports_outline::bustardcase_diagnose` meets its contract. Assumes nothing.
use Rattle.std.proofs.Common.{refl, rules}
use Rattle.outline.specs.DiagnosisLaws.{length_diagnosis}
use Rattle.exports.specs.AnswerLaws.{handed_out}
use Rattle.exports_outline.proofs.bustardcase_diagnose.Goals as goal

pub returns : goal.returns
returns c = handed_out refl (length_diagnosis _) c.hand_out.ensures.short (λ h. search rules)
