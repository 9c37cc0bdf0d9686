mod Spelled
mod Reading
mod Giving
mod Asking
