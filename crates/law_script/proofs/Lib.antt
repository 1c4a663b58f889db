pub mod SameForms
pub mod SameLines
