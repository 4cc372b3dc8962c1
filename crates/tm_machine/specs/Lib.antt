pub mod Current
pub mod Fitting
pub mod Machine
pub mod Office
pub use Rattle.tm_rep.specs.Tomoyo
pub use Rattle.tm_rep.specs.Written
