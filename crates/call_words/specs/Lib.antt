pub mod Bodies
pub mod Ends
pub mod Texts
pub mod Events
pub mod Calls
pub mod Made
pub mod Streams
pub mod Requests
