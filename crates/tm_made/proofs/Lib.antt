pub mod Telling
pub mod Keeping
pub mod Fits
pub mod Sparing
pub mod Lasting
pub mod Refusing
