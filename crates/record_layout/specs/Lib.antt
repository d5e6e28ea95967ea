pub mod RecordBytes
pub mod RecordLength
