pub mod Ascii
pub mod Days
pub mod Tokens
pub mod Pieces
pub mod ListingTexts
pub mod OnLiterals
