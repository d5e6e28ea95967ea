-- What an equivalent file carries of a record and its source (ISO/IEC 23008-12, O.4; document 02, 14: 'so far as the file doesn't carry it'):
-- which items there are, the 32 slots of 'ipco', and the items' bytes. Nothing else of the record is in the file: it is made of these and of the
-- file type (proofs/File.antt).
use Rattle.std.specs.Prelude.{List, ℕ}
use Rattle.items.specs.ItemBytes.{ItemBytes}
use Rattle.items.specs.declared.ItemSet.{ItemSet}
use Rattle.mini.specs.declared.MinimizedImage.{MinimizedImage}
use Rattle.slots.specs.Slots.{Slot, slots}
use Rattle.expander.specs.EquivalentFile.{item_set, item_bytes}

pub record Carried : Type 0 where
  pub items : ItemSet
  pub slots : List Slot
  pub bytes : ItemBytes

unfoldable pub carried : MinimizedImage → List ℕ → Carried
carried i s = record { items = item_set i; slots = slots i s; bytes = item_bytes i s }
