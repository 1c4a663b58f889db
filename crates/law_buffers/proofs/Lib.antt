pub mod SlotFits
pub mod Numbers
pub mod Legal
pub mod OnePlace
