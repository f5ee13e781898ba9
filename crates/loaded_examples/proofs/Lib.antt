pub mod OnTexts
pub mod ScriptsRead
pub mod CertificatesRead
pub mod OneReading
pub mod OneLine
pub mod Counted
