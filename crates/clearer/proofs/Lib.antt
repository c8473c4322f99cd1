pub mod Hits
pub mod Verdict
pub mod Walks
