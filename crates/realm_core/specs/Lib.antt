pub mod Realms
pub mod Answers
pub mod Minding
pub mod Solo
