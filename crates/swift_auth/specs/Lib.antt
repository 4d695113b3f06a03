pub mod Faults
pub mod Users
pub mod UsersTexts
pub mod Lists
pub mod Policies
pub mod Grants
