pub mod Chunks
pub mod Diagnosis
pub mod DiagnosisLaws
pub mod Ends
pub mod OutlineBytes
pub mod OutlineLaws
pub mod WorkedExample
