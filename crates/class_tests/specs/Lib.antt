pub mod Deposits
pub mod Within
