-- What a file carries, its 32 slots as one list: slot k is found in it by computing.
use Rattle.std.specs.Prelude.{◌≡◌, List, ℕ}
use Rattle.mini.specs.declared.MinimizedImage.{MinimizedImage}
use Rattle.expander.specs.EquivalentFile.{item_set, item_bytes}
use Rattle.slots.specs.SlotLaws.{flat_slots, slots_flat}
use Rattle.carried.specs.Carried.{Carried, carried}

module _ (i : MinimizedImage) (s : List ℕ) where
  -- what the file carries, with that list
  abbrev pub flat_carried : Carried
  flat_carried = record { items = item_set i; slots = flat_slots i s; bytes = item_bytes i s }

  pub carried_is : carried i s ≡ flat_carried
  unfolding carried
  carried_is = λ j. record { items = item_set i; slots = slots_flat i s j; bytes = item_bytes i s }
