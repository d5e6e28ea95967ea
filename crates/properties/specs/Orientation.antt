-- Rotation and mirror by orientation (ISO/IEC 23008-12, O.4.6; document 01, 'The equivalent file': 'one table of eight rows').
use Rattle.std.specs.Prelude.{List, [], ◌∷◌, ℕ, ◌-◌, get_or, Option, None, Some}
use Rattle.properties.specs.declared.Turns.{Turns}

abbrev pub turns : Option ℕ → Option ℕ → Turns
turns angle axis = record { angle = angle; axis = axis }

-- irot's angle and imir's axis for the orientations 1 to 8
unfoldable pub turn_table : List Turns
turn_table =
    turns None None
    ∷ turns None (Some 1)
    ∷ turns (Some 2) None
    ∷ turns None (Some 0)
    ∷ turns (Some 1) (Some 0)
    ∷ turns (Some 3) None
    ∷ turns (Some 1) (Some 1)
    ∷ turns (Some 1) None
    ∷ []

unfoldable pub turns_of : ℕ → Turns
turns_of orientation = get_or turn_table (orientation - 1) (turns None None)
