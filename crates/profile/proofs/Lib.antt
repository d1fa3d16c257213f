pub mod Twice
pub mod Parts
pub mod ArmLaws
pub mod CutLaws
pub mod Exactly
pub mod Back
pub mod Said
