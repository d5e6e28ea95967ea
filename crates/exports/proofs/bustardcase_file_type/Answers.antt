use Rattle.std.proofs.Common.{refl, rules}
use Rattle.layout.specs.FileTypeBytes.{length-file_type_bytes}
use Rattle.exports.specs.AnswerLaws.{handed_out}
use Rattle.exports.proofs.bustardcase_file_type.Goals as goal

pub returns-in-Ok : goal.returns-in-Ok
returns-in-Ok c = rw (← c.read_file_type.ensures, c.in-Ok.is) (handed_out refl (length-file_type_bytes _) c.hand_out.ensures.short (λ h. search rules))
