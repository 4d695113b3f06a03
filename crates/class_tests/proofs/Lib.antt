pub mod Deposits
pub mod FreshHeads
pub mod Within
pub mod Left
