pub mod Flash
pub mod Run
pub mod Wear
pub mod Demand
