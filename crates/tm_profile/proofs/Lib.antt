pub mod MapEnds
pub mod WordLaws
pub mod EffectLaws
pub mod TextLaws
mod LineExamples
pub mod FitLaws
pub mod KeptLaws
