pub mod Counts
pub mod Queues
pub mod Sinces
pub mod Summaries
pub mod Waiting
