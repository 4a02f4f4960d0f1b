-- What the check promises beyond its contract (Laws, Examples), and the laws that its proofs cite.
mod Table
mod Leads
mod Fronts
mod Walks
mod PlainRuns
mod Steps
mod Runs
pub mod Laws
pub mod Examples
