-- `exports_outline::bustardcase_outline` meets its contract. Assumes nothing.
use Rattle.std.proofs.Common.{refl, rules}
use Rattle.outline.specs.OutlineBytes.{outline_bytes, length_outline}
use Rattle.exports.specs.AnswerLaws.{handed_out}
use Rattle.exports_outline.proofs.bustardcase_outline.Goals as goal

pub returns-in-Ok : goal.returns-in-Ok
unfolding outline_bytes
returns-in-Ok c = rw (← c.parse.ensures, c.in-Ok.is) (handed_out refl (length_outline _ _) c.hand_out.ensures.short (λ h. search rules))
