-- Laws of the statements that are dropped. Assumes nothing.
pub mod Absences
pub mod Droppings
pub mod Scattering
