mod Crossing
mod Gatherings
mod Seats
