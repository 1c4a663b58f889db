pub mod Due
pub use Rattle.sf_display.specs.sf_output_shown
