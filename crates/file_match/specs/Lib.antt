pub mod SlotOf
