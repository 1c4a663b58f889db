pub mod Causes
pub mod Text
pub mod Numbers
pub mod Reading
pub mod Colours
pub mod Names
