pub mod Texts
pub mod Marks
pub mod Admission
pub mod FirstRefusals
