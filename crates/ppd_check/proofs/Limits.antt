-- What the limits of the marks say of a tree, and of the source that it says.
pub mod Depths
pub mod Formulas
pub mod Said
pub mod Signs
pub mod Small
pub mod Trees
