mod Order
mod Links
mod Highest
mod Finding
mod Placing
mod Places
