pub mod CallersLists
pub mod Turning
pub mod Seeing
pub mod Booking
pub mod Gathering
pub mod Telling
pub mod Opening
