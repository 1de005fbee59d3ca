pub mod Advancing
pub mod Barring
pub mod Charging
pub mod Cutting
pub mod Joining
pub mod Listing
pub mod Searching
pub mod StretchOwners
