mod LastFound
mod Leads
mod Over
mod Steps
pub mod SharedFound
