-- What a slot says, by its body.
use Rattle.std.specs.Prelude.{◌≡◌, refl, cond, get_or, Some, None}
use Rattle.slots.specs.Slots.{Slot, none, some, is_used}
use Rattle.normal_form.specs.ReadProperties.{body_in, turn_in}

pub turn_is : (x : Slot) → turn_in x ≡ cond (is_used x) (Some (get_or (body_in x) 0 0)) None
turn_is none = refl
turn_is (some box) = refl
