pub mod LowBytes
pub mod Word
