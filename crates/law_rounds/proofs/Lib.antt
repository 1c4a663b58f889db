mod ActionCases
mod ActionInOrder
mod ActionShows
mod ActorsInOrder
mod CallInOrder
mod DoneInOrder
pub mod InOrder
pub mod LeavingOn
pub mod NoneAtEnd
mod NonePassedOver
mod OrderSoFar
pub mod StandsInOrder
mod StepInOrder
mod VsyncInOrder
