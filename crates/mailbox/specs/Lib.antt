pub mod Contract
pub mod Ring
pub mod LaneLists
pub mod Entries
pub mod PoolLists
