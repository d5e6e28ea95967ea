-- `exports_find::bustardcase_restore` meets its contract. Assumes nothing.
use Rattle.std.proofs.Common.{◌≡◌, refl, ◌∙◌, List, ℕ, Result, Ok, Err, cond, eqb, ltb, length}
use Rattle.octets.specs.Overwrite.{overwrite}
use Rattle.mini.specs.declared.MinimizedImage.{MinimizedImage}
use Rattle.writer.specs.ToBox.{box_of, refused, written}
use Rattle.find_mini.specs.BackToMini.{find_refusal, record_or_blank, back_to_mini}
use Rattle.find_mini.specs.Restored.{box_or_refusal, restored}
use Rattle.find_mini.specs.declared.FindError.{FindError}
use Rattle.find_mini.specs.declared.FindError.TheVariants.{BrandList, NotAnExpansion}
use Rattle.exports.specs.AnswerLaws.{answers}
use Rattle.exports_find.proofs.bustardcase_restore.Goals as goal

-- the refusal of finding, or else the box, in the form in which calls answer
told : (r : Result MinimizedImage FindError) (f o : List ℕ)
    → box_or_refusal r f o
    ≡ cond (eqb (find_refusal r) 0)
    (cond (ltb (length o) (length (box_of (record_or_blank r) f))) (refused 16 (length (box_of (record_or_blank r) f)) o)
    (record { refusal = 0; value = length (box_of (record_or_blank r) f) }, overwrite o 0 (box_of (record_or_blank r) f)))
    (refused (find_refusal r) 0 o)
unfolding written
told (Ok i) f o = refl
told (Err BrandList) f o = refl
told (Err NotAnExpansion) f o = refl

pub returns : goal.returns
unfolding restored
returns c =
    let r = back_to_mini c.args.file.now c.args.major c.args.minor c.args.brands.now in
    answers (find_refusal r) 0 (box_of (record_or_blank r) c.args.file.now) c.args.out.now (c.restore.ensures.answer ∙ told r c.args.file.now c.args.out.now) c.of_written.ensures
