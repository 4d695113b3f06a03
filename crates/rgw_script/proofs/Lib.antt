mod Casting
mod Acting
mod Holding
mod Playing
mod Printing
mod Reading
mod Lines
mod Containers
